pub mod Pieces
pub mod LineParts
pub mod Registers
