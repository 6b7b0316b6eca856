pub mod Operands
pub mod Layout
pub mod Encode
pub mod DraftSeen
pub mod Draft
pub mod Assemble
pub mod Listing
