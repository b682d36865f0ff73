-- The laws of a batch's entries: which one to cite when.
--
-- What trying a list tells: `TriedLists` (tried_accepted, tried_refused). That accepted ticks form
-- an interval: `Interval` (entry_within). For the code's loops: `Loops`.
pub mod TriedLists
pub mod Loops
pub mod Interval
