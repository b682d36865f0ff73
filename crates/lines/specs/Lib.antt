pub mod Output
pub mod Buffers
