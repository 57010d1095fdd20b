-- The plain reader (src/noskip.rt).
mod Cases
