pub mod Chains
pub mod Checked
pub mod Chosen
pub mod Building
pub mod Picking
pub mod Seeking
pub mod Tracing
