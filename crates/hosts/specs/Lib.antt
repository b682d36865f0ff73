pub mod Answers
pub mod Tables
pub mod Dates
pub mod Conversions
pub mod Utc
pub mod Changes
