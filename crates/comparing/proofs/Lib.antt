-- The laws of two tables compared: which one to reach for when.
--
-- Two granules. What the largest and the sum of their differences say, and that they differ exactly
-- where the sum is above 0: `Sums`. That the sum bounds the gap of their exact sums: `Gap`
-- (sums_near). That they have equal exact sums at every tick exactly where they have equal
-- coefficients: `Independent` (same_meaning). Both go by the exact sum with zeros filled in:
-- `Series`.
--
-- The list. As it is made and put, and what stands where in it: `Entries`. That it is rising and
-- complete: `Complete`.
--
-- The code. Coefficients where they lie, and their sizes: `Reading`. Which answer is told:
-- `Deciding`; exactly when: `Exactly`; the other way round: `Turned`.
pub mod Series
pub mod Independent
pub mod Sums
pub mod Gap
pub mod Entries
pub mod Reading
pub mod Deciding
pub mod Complete
pub mod Turned
pub mod Exactly
