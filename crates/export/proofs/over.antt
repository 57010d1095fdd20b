-- Laws of a peek and a take at a separator right before a digit (src/over.rt).
pub mod Steps
