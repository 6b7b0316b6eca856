use Rattle.strand_app.specs.Contents.{machine_in}
use Rattle.strand_app.proofs.FetchesFile.{not_fetched, read, machine_long}
use Rattle.strand_app.proofs.contents.fetch_machine.Goals as goal

pub returns-in_err-bytes : goal.returns-in_err-bytes
returns-in_err-bytes g c = not_fetched 1 machine_in (λ config. config) _ _ _ _ _ _ c.from_residual.ensures.1 machine_long c.in_err-bytes.ensures

pub returns : goal.returns
returns g c = read 1 machine_in (λ config. config) _ _ _ _ c.in_ok-bytes.bytes _ c.in_ok-bytes.ensures (rw c.deref.ensures.value at c.machine_of.ensures)
