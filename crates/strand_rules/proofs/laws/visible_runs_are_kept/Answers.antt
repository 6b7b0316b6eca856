use Rattle.std.proofs.Common.{refl}
use Rattle.strand_rules.specs.Cycle.{start_at}
use Rattle.strand_rules.proofs.Visible.{run_seen}
use Rattle.strand_rules.proofs.laws.visible_runs_are_kept.Goals as goal

pub returns : goal.returns
returns c = λ g p cores memory steps. run_seen g p (start_at cores memory).now (start_at cores memory) steps refl
