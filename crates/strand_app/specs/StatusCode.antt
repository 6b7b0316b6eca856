-- The exit status of the process for each way that a call ends.
use Rattle.std.specs.Prelude.{ℕ}
use Rattle.strand_app.specs.declared.status.Status.{Status}
use Rattle.strand_app.specs.declared.status.Status.TheVariants.{Ok, No, Words, Input, FileFault, SinkFault, ModuleFault, Memory, Limit, StopPast}

abbrev pub exit_code_of : Status → ℕ
exit_code_of Ok = 0
exit_code_of No = 1
exit_code_of Words = 2
exit_code_of Input = 3
exit_code_of FileFault = 4
exit_code_of SinkFault = 5
exit_code_of ModuleFault = 6
exit_code_of Memory = 7
exit_code_of Limit = 8
exit_code_of StopPast = 9
