-- Laws of a place and of what is passed there (src/passing.rt).
pub mod Places
pub mod Passed
pub mod Landings
pub mod RefusedRuns
