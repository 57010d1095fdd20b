-- Laws of the quick ways of takes to the end (src/next_all.rt, src/spaced.rt).
pub mod GroupedCells
pub mod EndWords
