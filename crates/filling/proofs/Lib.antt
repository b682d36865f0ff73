-- The laws of a list that is filled: what is left of each entry's walk (`Writing`), and what a
-- batch leaves of the second list (`Filling`: filled_not, filled_all).
pub mod Writing
pub mod Filling
