pub mod Judged
pub mod Verdicts
pub mod Words
pub mod Images
pub mod Offered
pub mod Worklist
pub mod Ends
pub mod Gathered
