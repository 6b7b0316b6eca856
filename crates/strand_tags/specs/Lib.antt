pub mod Access
pub mod Greater
pub mod Traces
pub mod WordTags
pub mod TagsSeen
pub mod Kept
pub mod WaitEntries
