-- What only private functions are promised.
pub mod Growth
pub mod Steps
