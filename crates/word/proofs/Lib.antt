-- In the order in which to read, which is document 01's: Arms, digit (AllBytes, Table, Ranges), Masks, format_flags (Halves), Lines,
-- feature_format (Accepted), byte_set (Members), not_feature_format (Line7), error (Numbers). A room has the laws of the module of its
-- name; here stands what several rooms or another crate cite.
pub mod Arms
mod Masks
pub mod Lines
