-- Laws of a digit run (src/digit_run.rt): its steps on plain numbers, and the loop over them.
pub mod Stepping
pub mod Answers
mod RefusedRuns
pub mod RunLoop
mod Refused
pub mod PassedAhead
