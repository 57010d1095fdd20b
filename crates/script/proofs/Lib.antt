-- Read in this order: Example (what the definitions say of document 01's example), record, line, call, run (one record and its line),
-- answer (record after record), stream (one turn), History (a whole run).
mod Example
mod History
