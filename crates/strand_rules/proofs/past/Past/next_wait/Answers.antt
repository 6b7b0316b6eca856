use Rattle.std.proofs.Common.{◌≡◌, ◌∙◌, length, sym, ap, arith}
use Rattle.strand_events.specs.Greatest.{max_below}
use Rattle.strand_rules.specs.Next.{hands_next}
use Rattle.strand_rules.proofs.NextWait.{next_is}
use Rattle.strand_rules.proofs.past.Past.next_wait.Goals as goal

pub returns : goal.returns
returns c =
    let mode = c.args.self.now.config.mode in
    let t = c.args.self.now.state.now.trace in
    let all : c.loop-a.a ≡ length t = omega (arith, c.loop-a-test.false, c.loop-a.auto.a-end, ap length c.events-a-end.ensures.events) in
    λ k few. c.loop-a.invariant k few ∙ ap (λ n. max_below n (hands_next mode t c.args.event k)) all ∙ sym (next_is mode t c.args.event k)
