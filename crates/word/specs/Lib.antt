-- Document 01's definitions of digits, of the word and of its checks, in its order; then sets of bytes, and the numbers of answers.
pub mod Digit
pub mod Ascii
pub mod Bits
pub mod Word
pub mod Check
pub mod ByteSet
pub mod Error
