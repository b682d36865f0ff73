-- The laws of printed lines. `Returning`: a printed answer's numbers read back to themselves.
-- `Lengths`: no printed line is longer than the longest. For the code: `Decimals` (plain decimals,
-- one digit at a time), `Printed` (what std prints for a number), `Filling` (texts put into a
-- buffer one after the other).
pub mod Decimals
pub mod Filling
pub mod Lengths
pub mod Printed
pub mod Returning
