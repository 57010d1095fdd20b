-- Laws of a state: its refusals, its updates, and the readers' numbers (src/state.rt).
pub mod Refusals
pub mod Readers
pub mod Updates
