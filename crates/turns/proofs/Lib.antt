-- The laws of the program's text. `Fronts`: the unfinished line at its front.
pub mod Fronts
