-- The laws of judging: which one to reach for when.
--
-- What an answer tells of a list of tests: `Telling`. Table bytes, a test passed at a time: `Past`.
-- What accepted bytes are, for the layers above: `Accepting` (accepted_of, accepted_blocks). The
-- answers of reading and of writing: `Taking`, `Putting`. Written and read back, read and written
-- again: `RoundTrip`. Which number is told, and where: `Exactly`.
pub mod Telling
pub mod Past
pub mod Accepting
pub mod Taking
pub mod Putting
pub mod RoundTrip
pub mod Exactly
