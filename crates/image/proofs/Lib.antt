-- The laws of a table's bytes: which one to reach for when.
--
-- What the bounds say in numbers: `Bounding`. Where a coefficient stands in the list and in the
-- bytes: `Slots`. Stores that fill a buffer from the front: `Stores`. What was put is there again:
-- `Back`. What is formed and checked is the image of what it holds, and zero above the degree:
-- `Again`.
pub mod Bounding
pub mod Slots
pub mod Stores
pub mod Back
pub mod Again
