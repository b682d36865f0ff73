-- The laws of the scales. `Range`: a valid tick's size. `Reached`: a step that reaches an epoch.
-- `Every`: a law of all scales, lines or steps is one computed equation. `Paths`: the path leads
-- where it should. `PassedOn`: what `?` hands on.
pub mod Range
pub mod Reached
pub mod Every
pub mod Paths
pub mod PassedOn
