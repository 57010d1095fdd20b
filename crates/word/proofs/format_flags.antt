-- Fields of the word by its halves: for this room, and public for requests that read other fields.
pub mod Halves
