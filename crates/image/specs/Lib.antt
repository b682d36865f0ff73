pub mod Bounds
pub mod Image
pub mod Asked
