-- Document 01's definitions, in its order, with what demand 1 and demand 3 claim (RefusalKeeps, ByteTally); then a column of cells, which
-- is ours, and document 02's search (Search). Code has what only private functions are promised.
pub mod Rule
pub mod Place
pub mod Reading
pub mod State
pub mod Answer
pub mod Open
pub mod Repeat
pub mod Calls
pub mod ZeroSkip
pub mod Part
pub mod Block
pub mod Plain
pub mod History
pub mod RefusalKeeps
pub mod ByteTally
pub mod Bytes
pub mod Column
pub mod Search
pub mod Code
