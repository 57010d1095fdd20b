-- A theorem about the plain check, used by no function.
mod Line7
