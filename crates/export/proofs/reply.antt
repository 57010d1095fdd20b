-- Laws of a reply and the words that it is written to (src/reply.rt).
pub mod Words
