-- The recorded answers, from a number in hex to an input with all its lines. All of it is ours.
pub mod Hex
pub mod Packed
pub mod Line
pub mod Call
pub mod RunEnd
pub mod Replay
pub mod Lines
