-- What only private functions are promised.
pub mod Search
