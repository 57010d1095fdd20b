-- Laws of values (src/value.rt).
pub mod Growing
