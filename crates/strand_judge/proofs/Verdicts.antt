-- Serves judge and verdicts_are_within_judged_sets: what a verdict says of a set and its image.
pub mod Image
pub mod Word
pub mod Yes
