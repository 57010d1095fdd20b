-- Laws of the quick way of a digit run (src/digit_run.rt).
mod GroupedRuns
mod RunWords
