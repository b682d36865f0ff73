pub mod Table
pub mod Accepted
pub mod Asked
pub mod Steps
