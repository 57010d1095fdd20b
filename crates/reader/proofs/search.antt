-- Laws of the search for the end of a run (src/search.rt).
pub mod Numbers
pub mod RunSteps
pub mod Parts
