-- An entry put in at its place, and one taken out; what both share (Moving); what is answered.
mod Moving
mod Inserting
mod Removing
pub mod Answers
