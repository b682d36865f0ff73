pub mod Order
pub mod Conversion
pub mod Inner
