use Rattle.std.proofs.Common.{◌≡◌, false, ◌&&◌, length, arith, sym, ap, ◌∙◌}
use Rattle.std.specs.Prelude.{not}
use Rattle.strand_base.specs.Counting.{any_below}
use Rattle.strand_events.specs.Order.{set_of}
use Rattle.strand_events.specs.Prefixes.{made_below}
use Rattle.strand_events.specs.Trace.{is_persist, core_event_is}
use Rattle.strand_rules.proofs.NextWait.{up_to_missing, none_missing}
use Rattle.strand_rules.proofs.past.Past.durable_prefix.Goals as goal

pub returns-then-is_missing : goal.returns-then-is_missing
returns-then-is_missing c =
    let s = c.args.self.now.state in
    c.loop-q.invariant.counted ∙ sym (up_to_missing s.now.trace (set_of s.durable) c.args.core c.loop-q.q (omega (arith, c.loop-q-test.true, ap length c.events-q-end.ensures.events)) c.loop-q.invariant.none (sym c.is_missing.ensures ∙ c.if-is_missing.true))

pub returns : goal.returns
returns c =
    let s = c.args.self.now.state in
    let t = s.now.trace in
    let all : c.loop-q.q ≡ length t = omega (arith, c.loop-q-test.false, c.loop-q.auto.q-end, ap length c.events-q-end.ensures.events) in
    let none : any_below (length t) (λ p. core_event_is is_persist c.args.core t p && not (set_of s.durable p)) ≡ false = sym (ap (λ n. any_below n (λ p. core_event_is is_persist c.args.core t p && not (set_of s.durable p))) all) ∙ c.loop-q.invariant.none in
    c.loop-q.invariant.counted ∙ ap (made_below t c.args.core) all ∙ sym (none_missing t (set_of s.durable) c.args.core none)
