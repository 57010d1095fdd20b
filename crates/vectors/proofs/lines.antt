-- An input taken in, however reads cut it (src/lines.rt).
mod Chunks
