use Rattle.std.proofs.Common.{◌≡◌, ℕ, ◌<◌}
use Rattle.std.specs.Prelude.{slice_index}
use Rattle.strand_base.specs.declared.limits.TheConstants.{CORE_ROOM}
use Rattle.strand_events.specs.Greatest.{max_below}
use Rattle.strand_rules.specs.Next.{hands_next}
use Rattle.strand_rules.proofs.past.Past.next_wait.Given as goal

abbrev pub invariant-loop-a : goal.invariant-loop-a
invariant-loop-a l = (c : ℕ) → c < CORE_ROOM → slice_index l.wait c ≡ max_below l.a (hands_next l.self.config.mode l.self.state.now.trace l.event c)
