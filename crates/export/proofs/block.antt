-- Laws of the block take (src/block.rt).
pub mod PartPlaces
