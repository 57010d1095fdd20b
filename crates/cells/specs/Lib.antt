-- Document 02's definitions: the value of digits, a digit run, what demand 1 and demand 3 claim of runs, and a cell's bytes that are no
-- separators. Code has what only private functions are promised.
pub mod Value
pub mod DigitRun
pub mod RefusalKeeps
pub mod ByteTally
pub mod Whole
pub mod Code
