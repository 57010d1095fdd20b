-- Opening a cell (src/open.rt): the readers' part of document 01's example of a call script, which script's cites.
pub mod Example
