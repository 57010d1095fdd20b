-- A recorded call made again, and its answer packed (src/call.rt).
mod PackedAnswers
pub mod RecordedCalls
