-- Input taken in piece by piece (src/stream.rt); `take_turns` and the history of a whole run cite it.
pub mod Pieces
