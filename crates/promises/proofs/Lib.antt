-- What is promised of whole conversions, over any codes, readings and table bytes. Where each
-- promise stands:
--
-- Demand 3, the three statements: `Distance` (distance), `Order` (in_order), `ThereAndBack`
-- (there_and_back). Of UTC, order and there and back: `Utc`. Of dates, by the exact sum of their
-- parts: `Splits` (splits_alike, dates_in_order).
--
-- Demand 2. The known values P1 to P13, one table and one statement: `Known` (known). The page's
-- example of lines: `Example` (page_answered). What an accepted answer carries: `Answers`
-- (tick_valid, scale_told, steps_told). What a batch is, entry by entry: `Batches`. A table's bytes
-- written and read back: `Tables`. What changed between two tables: `Changes` (gap_bounded,
-- empty_exactly). What a line is answered with, and what is printed: `Lines`. What is shut out:
-- `Exclusions` (two_answers, batch_of_two).
--
-- Demand 1. Each conversion is answered or refused, with which numbers and which places:
-- `Refusals`; exactly when: `Exactly`, and of its parts by themselves `Parts`; why: `Reasons`
-- (because). A refusal writes nothing and changes nothing kept: `Batches` (batch_untouched,
-- batch_after_refused), `Tables` (read_untouched, write_untouched, read_after_refused,
-- write_after_refused), `Changes` (compare_untouched, compare_after_refused).
--
-- What every contract says. Only one result and one last content of each lent buffer, of every
-- public function: `Determined`.
--
-- What they rest on: `Steps` has the law of each single step, `Returning` that of its way back,
-- `Walks` takes a conversion apart into its walk, `Readings` says what a reading can be, `Told`
-- what an answer tells of the page's tests.
pub mod Readings
pub mod Steps
pub mod Walks
pub mod Told
pub mod Exactly
pub mod Parts
pub mod Answers
pub mod Order
pub mod Splits
pub mod Returning
pub mod ThereAndBack
pub mod Distance
pub mod Utc
pub mod Reasons
pub mod Refusals
pub mod Batches
pub mod Tables
pub mod Changes
pub mod Lines
pub mod Known
pub mod Example
pub mod Exclusions
pub mod Determined
