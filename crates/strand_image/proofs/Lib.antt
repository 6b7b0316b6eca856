pub mod ByName
pub mod Rules
pub mod SymbolBytes
pub mod Versions
pub mod Order
pub mod Spelling
