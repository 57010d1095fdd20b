-- Record after record (src/answer.rt): what a part of an input says whatever follows it, and the loop. The history of a whole run cites
-- both, and stream Records.
pub mod Prefixes
pub mod Records
