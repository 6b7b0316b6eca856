-- Serves clause again of list: what is printed of an image is read and assembled to that image again.
pub mod Lines
pub mod Tokens
pub mod Operands
pub mod OneLine
pub mod Mnemonics
pub mod Forms
pub mod Instructions
pub mod Directives
pub mod ManyLines
pub mod CodeWords
pub mod NamedSoFar
pub mod Names
pub mod Sections
pub mod Image
