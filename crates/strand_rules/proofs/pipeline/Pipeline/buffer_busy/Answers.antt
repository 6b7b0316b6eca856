use Rattle.std.proofs.Common.{◌≡◌, ◌∙◌, sym, ap, arith}
use Rattle.strand_base.specs.Counting.{any_below}
use Rattle.strand_events.specs.Order.{set_of}
use Rattle.strand_rules.specs.Looking.{is_busy}
use Rattle.strand_rules.proofs.Front.{buffer_uses}
use Rattle.strand_rules.proofs.pipeline.Pipeline.buffer_busy.Goals as goal

pub returns : goal.returns
returns c =
    let m = c.args.self.now in
    let all : c.loop-p.p ≡ c.args.k = omega (arith, c.loop-p-test.false, c.loop-p.auto.p-end) in
    c.loop-p.invariant
    ∙ ap (λ end. any_below end (is_busy m.config.mode m.config.buffers m.state.now.trace (set_of m.state.durable) c.args.n c.args.b)) all
    ∙ sym (buffer_uses m.config m.state c.args.n c.args.k c.requires.front c.args.b)
