-- Laws of conditional reads and the zero skip (src/iterator.rt).
pub mod ConditionalReads
mod ThreeWays
pub mod Zeros
mod ZeroLoop
mod ZeroRuns
