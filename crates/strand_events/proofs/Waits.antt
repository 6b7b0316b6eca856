-- Serves waits_cover_other_strands, waits_are_met_by_prefixes and waits_are_kept_by_vectors.
pub mod Greatest
pub mod Counts
pub mod LongerTrace
pub mod OtherStrands
pub mod IsMet
pub mod Next
pub mod Vectors
pub mod DurablePrefix
pub mod Prefixes
