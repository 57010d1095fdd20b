pub mod State
pub mod Answer
pub mod Calls
pub mod Column
pub mod Plain
pub mod Catalogue
pub mod Code
