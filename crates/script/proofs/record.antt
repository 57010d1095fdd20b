-- Numbers in the body of a record (src/record.rt).
mod Numbers
