-- A theorem about the numbers of answers, used by no function.
pub mod Numbers
