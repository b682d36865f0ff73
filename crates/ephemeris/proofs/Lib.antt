-- The laws of the step between TT and TDB over an accepted table: which one to cite when.
--
-- What is promised of the step: `Promises` (table_distance; order, order_back;
-- table_there_and_back, back_and_there; refused, refused_back), with what the earliest tick is:
-- earliest_of says that tt_of is it where the TDB is covered, earliest_one that there is no other,
-- tt_valid that it is a valid epoch.
--
-- Which ticks are inside, and a tick by its place: `Ticks` (inside_both, inside_yes, tdb_of_lem,
-- tdb_at_place). A tick and a delay, added or subtracted: `Delays`. The order of TDB place by
-- place: `Order`.
--
-- The place of the earliest tick, and what a search has to show to have found it: `Search`
-- (earliest_is). Why asked + D closes in on it in two turns: `Closing` (near_first, near_next,
-- near_fixed, near_last). When a TDB is covered: `Ends`.
--
-- Which granule a tick belongs to: `Granules` (at), with D's size there (delay_bounded). How far D
-- moves over any number of ticks: `Moves` (delay_moves). What the bounds of a
-- table say in numbers: `Bounds`.
pub mod Bounds
pub mod Delays
pub mod Where
pub mod Granules
pub mod Moves
pub mod Ticks
pub mod Order
pub mod Search
pub mod Closing
pub mod Ends
pub mod Promises
