-- The laws of a batch: which one to cite when.
--
-- What a batch answers, by the conversions of its entries: `BatchTheorems` (batch_tried;
-- accepted_steps, accepted_entries, accepted_ticks; batch_refused, refused_untouched). For the
-- code, a batch by what is asked: `Batches`.
pub mod Batches
pub mod BatchTheorems
