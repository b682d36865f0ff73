-- The laws of numbers in bytes: which one to reach for when.
--
-- Bytes in chunks: `Chunks`. The sums of the check: `Sums`. A number in bytes and back: `Digits`.
pub mod Chunks
pub mod Sums
pub mod Digits
