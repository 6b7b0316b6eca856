use Rattle.std.proofs.Common.{◌≡◌}
use Rattle.std.specs.Prelude.{◌&&◌, ◌==◌}
use Rattle.strand_base.specs.Counting.{any_below}
use Rattle.strand_events.specs.Order.{set_of}
use Rattle.strand_events.specs.Trace.{same_strand, word_at}
use Rattle.strand_rules.proofs.past.Past.word_waits.Given as goal

abbrev pub invariant-loop-q : goal.invariant-loop-q
invariant-loop-q l = l.found ≡ any_below l.q (λ q. set_of l.self.state.buffered q && same_strand l.self.config.mode l.self.state.now.trace q l.p && (word_at l.self.state.now.trace q == word_at l.self.state.now.trace l.p))
