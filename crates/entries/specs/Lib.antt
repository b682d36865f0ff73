pub mod Batched
pub mod Entries
pub mod Inner
