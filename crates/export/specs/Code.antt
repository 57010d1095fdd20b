-- What private functions of the code are promised to compute. No public contract cites it.
pub mod Reply
pub mod Block
pub mod Plain
pub mod Here
pub mod Over
pub mod FreshWords
pub mod GroupedCell
pub mod GroupedRun
