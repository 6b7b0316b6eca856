use Rattle.std.proofs.Common.{◌≡◌, ◌∙◌, sym, ap, arith}
use Rattle.strand_base.specs.Counting.{count_below}
use Rattle.strand_events.specs.Order.{set_of}
use Rattle.strand_rules.specs.Looking.{is_in_use}
use Rattle.strand_rules.proofs.Front.{ring_uses}
use Rattle.strand_rules.proofs.pipeline.Pipeline.ring_use.Goals as goal

pub returns : goal.returns
returns c =
    let m = c.args.self.now in
    let all : c.loop-p.p ≡ c.args.k = omega (arith, c.loop-p-test.false, c.loop-p.auto.p-end) in
    c.loop-p.invariant.used
    ∙ ap (λ end. count_below end (is_in_use m.config.mode m.state.now.trace (set_of m.state.durable) c.args.n c.args.k)) all
    ∙ sym (ring_uses m.config m.state c.args.n c.args.k c.requires.front)
