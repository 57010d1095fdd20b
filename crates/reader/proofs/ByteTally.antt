-- Demand 3 over any reading, in the order in which to read: from what one call does to the claim about a list of calls. The theorem is
-- in ../Demand3.antt, which cites Settling, AnyReading and Refusals; Demand1 cites Steps.
pub mod Settling
mod Peek
pub mod Steps
mod Invariant
mod Calls
mod InsertedPeek
mod ZeroSkips
pub mod AnyReading
pub mod Refusals
