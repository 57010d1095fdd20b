-- Document 01's call script, from one number to a whole input; then input that arrives in pieces, and messages, which are ours.
pub mod Decimal
pub mod Line
pub mod Record
pub mod Reply
pub mod Run
pub mod Script
pub mod Stream
pub mod Message
