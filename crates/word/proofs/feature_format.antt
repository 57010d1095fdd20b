-- What the full check says of a word that it accepts.
pub mod Accepted
