-- Why the dates are right. What the crate promises, for others to cite:
-- `ReadBack`: every valid tick is written, and read back as the same tick (read_back); the first
-- part is exact (first_exact), the last day not after the tick (last_day); the second lies in
-- [0, 1) (second_in_day).
-- `Splits`: a date is read by the exact sum of its parts: two splits of one sum are one tick
-- (same_tick) and one answer (same_reading), a smaller sum is never the later tick (earlier_dates),
-- and swapped parts change nothing but the place of 2 and 3 (swapped).
-- `Earlier`: of two readings of seconds the earlier is never the later tick (earlier_seconds).
-- `Known`: 01's known values of dates that are not marked P (known_dates), the edges of its rules
-- (edges), and one date split two ways (known_splits).
-- The rest serves the functions' proofs: what comparisons and bits of a double say (`Comparisons`,
-- `Fields`), its value in ticks, pieces and shares (`Values`), the shifts and pieces of a product
-- and the spans of the code (`Pieces`, `Spans`), what the shares of two parts decide (`Sums`), the
-- day of a tick (`Days`) and one rounded division (`Division`).
pub mod Comparisons
pub mod Pieces
pub mod Values
pub mod Fields
pub mod Spans
pub mod Sums
pub mod Days
pub mod Division
pub mod ReadBack
pub mod Earlier
pub mod Splits
pub mod Known
