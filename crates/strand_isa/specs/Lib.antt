pub mod Opcodes
pub mod Ops
pub mod Word
pub mod Faults
pub mod Decode
pub mod Print
