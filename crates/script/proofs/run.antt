-- The response to one record (src/run.rt).
mod Responses
