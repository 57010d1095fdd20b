-- Members of a set as bits of four numbers.
pub mod Members
