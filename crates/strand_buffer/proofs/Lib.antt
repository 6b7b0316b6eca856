pub mod Eligible
pub mod Sends
pub mod RingInvariant
pub mod WordLinks
pub mod LowestEpoch
pub mod OneRing
pub mod EntryStages
pub mod EntryWait
