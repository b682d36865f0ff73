pub mod Few
pub mod Form
pub mod Asked
