pub mod FetchesFile
pub mod OpensTo
pub mod RunReads
pub mod JudgeReads
pub mod CheckReads
pub mod FewEvents
pub mod RunsOnBank
pub mod Comes
pub mod GenCommands
pub mod Summary
pub mod Laws
pub mod RuleLaws
pub mod Clauses
pub mod Afterwards
pub mod Calls
mod AgainWords
mod AgainReads
mod Going
mod AgainSound
mod AgainComes
