-- The laws of a granule: which one to cite when.
--
-- How near v and D are to the exact sum, and how large D can be: `Distance` (value_near for any
-- degree and length; value_within, delay_within and delay_small for a granule that has passed).
--
-- How far they move from tick to tick: `Neighbours` (exact_next, value_next, delay_next in a
-- granule; value_over, delay_over over a join).
--
-- `Passed` and `Meeting`, which these ask, from the tests: `Passing` (passed_of, meeting_of). What
-- test 14 says of a coefficient: small_at there. That a zero behind the coefficients changes
-- nothing for a test: `Zeros`.
--
-- The page's recurrence, b_k from b_(k+1) and b_(k+2): `Clauses` (b_top, b_turn). The other files
-- serve these and the code.
pub mod Downward
pub mod Clauses
pub mod Clenshaw
pub mod Exact
pub mod Distance
pub mod Neighbours
pub mod Passing
pub mod Zeros
pub mod Bounded
pub mod Digits
pub mod Product
pub mod Term
pub mod Turns
pub mod Sums
pub mod Folds
