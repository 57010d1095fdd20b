-- What private functions of the code are promised to compute. No public contract cites it.
pub mod RuleWords
pub mod Looks
pub mod TakeSums
pub mod Pairs
pub mod OrdinaryCells
pub mod Eights
