-- What an answer shows (src/call.rt).
mod Replies
