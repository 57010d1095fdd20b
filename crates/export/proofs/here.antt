-- Laws of the quick way of calls of one byte (src/here.rt).
pub mod CountedReaders
pub mod LentWords
pub mod Tests
pub mod Sight
pub mod Calls
