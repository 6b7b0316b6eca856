use Rattle.strand_app.proofs.Afterwards.{afterwards_of, idle_of}
use Rattle.strand_app.proofs.Calls.{no_command_of, memory_of}
use Rattle.strand_app.proofs.Clauses as clause
use Rattle.strand_app.proofs.RuleLaws.{sound_of}
use Rattle.strand_app.proofs.top.strand_main.Goals as goal

pub returns-clause-visible : goal.returns-clause-visible
returns-clause-visible g c = clause.tells_of _ _ _ (sound_of _ _) _ _ c.run_command.ensures

pub returns-clause-crash : goal.returns-clause-crash
returns-clause-crash g c = clause.holds_of _ _ _ (sound_of _ _) _ _ c.run_command.ensures

pub returns-clause-afterwards : goal.returns-clause-afterwards
returns-clause-afterwards g c = afterwards_of _ _ _ (sound_of _ _) (idle_of _ _) _ _ c.run_command.ensures

pub returns-clause-completeness : goal.returns-clause-completeness
returns-clause-completeness g c = λ is_command quiet good. clause.complete_of _ _ _ (sound_of _ _) _ is_command quiet good _ c.run_command.ensures

pub returns-clause-words : goal.returns-clause-words
returns-clause-words g c = clause.words_of _ _ _ (sound_of _ _) _ _ c.run_command.ensures

pub returns-clause-no_command : goal.returns-clause-no_command
returns-clause-no_command g c = λ e. no_command_of _ _ _ _ _ e c.run_command.ensures

pub returns-clause-no : goal.returns-clause-no
returns-clause-no g c = clause.tells_no_of _ _ _ (sound_of _ _) _ _ c.run_command.ensures

pub returns-clause-refused : goal.returns-clause-refused
returns-clause-refused g c = clause.refused_of _ _ _ (sound_of _ _) _ _ c.run_command.ensures

pub returns-clause-input : goal.returns-clause-input
returns-clause-input g c = clause.input_of _ _ _ (sound_of _ _) _ _ c.run_command.ensures

pub returns-clause-limit : goal.returns-clause-limit
returns-clause-limit g c = clause.limit_of _ _ _ (sound_of _ _) _ _ c.run_command.ensures

pub returns-clause-stop_past : goal.returns-clause-stop_past
returns-clause-stop_past g c = clause.stop_past_of _ _ _ (sound_of _ _) _ _ c.run_command.ensures

pub returns-clause-file_fault : goal.returns-clause-file_fault
returns-clause-file_fault g c = clause.file_of _ _ _ (sound_of _ _) _ _ c.run_command.ensures

pub returns-clause-module_fault : goal.returns-clause-module_fault
returns-clause-module_fault g c = clause.module_of _ _ _ (sound_of _ _) _ _ c.run_command.ensures

pub returns-clause-sink_fault : goal.returns-clause-sink_fault
returns-clause-sink_fault g c = clause.sink_of _ _ _ (sound_of _ _) _ _ c.run_command.ensures

pub returns-clause-memory : goal.returns-clause-memory
returns-clause-memory g c = λ e. memory_of _ _ _ _ (clause.memory_of _ _ _ (sound_of _ _) _ _ c.run_command.ensures e)

pub returns-clause-no_sink_fault : goal.returns-clause-no_sink_fault
returns-clause-no_sink_fault g c = clause.no_sink_fault _ _ _ (sound_of _ _) _ _ c.run_command.ensures

pub returns-clause-no_file_fault : goal.returns-clause-no_file_fault
returns-clause-no_file_fault g c = clause.no_file_fault _ _ _ (sound_of _ _) _ _ c.run_command.ensures

pub returns-clause-no_module_fault : goal.returns-clause-no_module_fault
returns-clause-no_module_fault g c = clause.no_module_fault _ _ _ (sound_of _ _) _ _ c.run_command.ensures
