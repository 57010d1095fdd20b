-- Laws of peeks, takes and block takes, and of the loop that takes to the end (src/skip.rt).
pub mod Looks
pub mod Takes
pub mod LoopState
mod SumsLoop
mod RunsTaken
pub mod TakeLoop
mod Blocks
