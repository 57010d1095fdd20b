-- A line taken apart into its fields, and the numbers that they spell (src/record.rt).
mod HexNumbers
mod Fields
