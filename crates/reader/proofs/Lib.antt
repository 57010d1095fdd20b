-- Read in this order: Examples (document 01's A to N); the rooms rule, passing with search, state, open; Repeats; skip, iterator, noskip, each room
-- beside the proofs of its module's functions; Outcomes; Demand1 and Demand3, the theorems, the second over ByteTally; then pairs, column
-- and bytes.
mod Examples
mod Repeats
mod Outcomes
pub mod Demand1
pub mod ByteTally
pub mod Demand3
