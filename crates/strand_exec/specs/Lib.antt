pub mod Arith
pub mod Core
pub mod Table
pub mod Plan
pub mod Decoded
pub mod Effects
pub mod Memory
