-- A number's digits, and bytes written behind others (src/line.rt); the responses, the loop over records and the messages cite Writes.
mod Decimals
pub mod Writes
