-- The laws of the output. `Program`: the whole program's, over the table's bytes. `Numbering`: line
-- k of an input is read as line k. `Pieces`: an input that comes in pieces is answered as the whole
-- of it. `Splits`: a text's whole lines and its unfinished one. For the code:
-- `Parts` (the front of a buffer). What a line is answered
-- with: `Lines` of `promises`.
pub mod Splits
pub mod Numbering
pub mod Pieces
pub mod Program
pub mod Parts
