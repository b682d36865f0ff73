-- The laws of pieces. Which rows' shares are exact, by a test that computes: `Rows` (exact_share);
-- why: `Exact`. What pieces stand for, by their places and over any number of them: `Values`, and
-- with a sign `Signs`. `Machine`: the low piece of a number of 64 bits, and what a column comes to.
pub mod Values
pub mod Signs
pub mod Machine
pub mod Exact
pub mod Rows
