-- Document 02's catalogue (2026-04): its entries and the words it is lent in, what it answers, lists of additions and removals, and what demand 1
-- claims of them. Code has what only private functions are promised.
pub mod Entries
pub mod Catalogue
pub mod Block
pub mod Acts
pub mod RefusalKeeps
pub mod Code
