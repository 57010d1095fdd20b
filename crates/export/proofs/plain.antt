-- Laws of the plain reader's words (src/plain.rt).
mod Words
