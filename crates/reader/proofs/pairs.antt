-- Counts of pairs (src/pairs.rt).
pub mod Counts
