-- A recorded search made again (src/run_end.rt).
mod LongBuffers
