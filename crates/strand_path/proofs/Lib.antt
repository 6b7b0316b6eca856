pub mod Check
pub mod LongestPath
pub mod ChosenChains
