-- Digits by the table of values, and by the ranges of figures and letters.
mod AllBytes
pub mod Table
mod Ranges
