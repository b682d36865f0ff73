pub mod Rounding
pub mod Chebyshev
pub mod Lowest
pub mod Tests
pub mod Signs
