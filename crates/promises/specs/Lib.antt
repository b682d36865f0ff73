pub mod Words
pub mod Reasons
pub mod Known
pub mod Example
pub mod Moments
pub mod Tests
