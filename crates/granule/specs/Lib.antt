pub mod Bounds
pub mod Rule
pub mod Tests
pub mod Asked
