use Rattle.std.proofs.Common.{◌≡◌, ℕ, ◌<◌, ◌≤◌, false, length}
use Rattle.std.specs.Prelude.{slice_index_or}
use Rattle.strand_base.specs.declared.limits.TheConstants.{MOST_RING}
use Rattle.strand_base.specs.Counting.{count_below}
use Rattle.strand_buffer.specs.Entries.{is_eligible}
use Rattle.strand_buffer.proofs.WordLinks.{waits_up_to}
use Rattle.strand_buffer.proofs.passing.eligible_at.Given as goal

abbrev pub invariant-loop-i : goal.invariant-loop-i
invariant-loop-i l = record {
  counted : l.passed ≡ count_below l.i (is_eligible l.durable l.entries);
  small : l.passed ≤ l.i;
  before : l.passed ≤ l.j;
  all : length l.waits ≡ MOST_RING;
  known : (h : ℕ) → h < l.i → slice_index_or l.waits h false ≡ waits_up_to l.entries h;
}
