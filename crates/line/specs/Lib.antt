pub mod Numbers
pub mod Lines
pub mod Answers
pub mod Scan
