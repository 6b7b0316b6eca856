-- Serves least_sets_are_judged, and judge: the least settled set, by marks and a list that is worked off.
pub mod Sets
pub mod Roots
pub mod Marks
pub mod Edges
pub mod Offers
pub mod Seeds
pub mod Work
pub mod JoinedNumbers
