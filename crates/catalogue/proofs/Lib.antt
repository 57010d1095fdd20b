-- Read in this order: Examples; the rooms entries, of a catalogue and the words it is lent in, and acts, beside the proofs of their functions;
-- Sums and Ascending, the laws of entries; Demand1; Histories and Listing, lists of acts; AnyBlock.
mod Examples
pub mod Sums
pub mod Ascending
pub mod Demand1
pub mod Histories
pub mod Listing
pub mod AnyBlock
