-- Laws of a column: a cell, an ordinary cell, stretches of them, and the sums (src/column.rt).
mod Cells
mod OrdinaryCell
mod Stretches
mod Sums
