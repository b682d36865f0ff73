-- The laws of the linear steps. `Promises`: what holds of every one (half a tick, order, there and
-- back). `Rates` and `Fractions` are the arithmetic behind the drifts, `Methods` what the code's
-- methods and steps come to.
pub mod Rates
pub mod Fractions
pub mod Promises
pub mod Methods
