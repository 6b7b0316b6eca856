use Rattle.std.proofs.Common.{vec_len, ◌+◌, ◌-◌, ◌≤◌}
use Rattle.std.specs.Io.KnownBytes.{Consumes}
use Rattle.strand_base.proofs.host_files.read_up_to.Given as goal

abbrev pub invariant-loop-buffer : goal.invariant-loop-buffer
invariant-loop-buffer g l = (vec_len l.into ≤ l.limit + 1) × Consumes (g.R.Read.remaining l.fn.from) (g.R.Read.remaining l.from) l.into.items

abbrev pub decreases-loop-buffer : goal.decreases-loop-buffer
decreases-loop-buffer g l = l.limit + 1 - vec_len l.into
