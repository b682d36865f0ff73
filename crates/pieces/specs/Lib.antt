pub mod Pieces
pub mod Rows
pub mod Asked
