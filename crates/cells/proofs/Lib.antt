-- Read in this order: Examples; the rooms value and digit_run, each beside the proofs of its module's functions; RunEnds, Digits over TwicePassed, and
-- WholeCells, what a run takes; Demand1 and Demand3.
mod Examples
mod TwicePassed
pub mod Digits
pub mod WholeCells
pub mod RunEnds
pub mod Demand1
pub mod Demand3
