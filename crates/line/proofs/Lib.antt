-- The laws of lines. `Codes`: which numbers of a line are codes. `PageLines`: the page's lines,
-- and those at the edges of its rule.
-- For the code: `Cases`, `Digits` (what they say so far), `Fitting` (signed 64 bits),
-- `Splitting` (a line's fields, one at a time).
pub mod Cases
pub mod Digits
pub mod Fitting
pub mod Splitting
pub mod Codes
pub mod PageLines
