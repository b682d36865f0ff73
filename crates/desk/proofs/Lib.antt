-- The laws of the desk: which one to cite when.
--
-- How many steps an accepted conversion tells: `Steps` (conversion_steps). That its tick is valid
-- and a list which it looked at right: `Valid` (conversion_valid, into_valid; into_right).
--
-- For the code, a conversion by what is asked: `Asking`; the lent list of leap seconds: `LentList`.
pub mod Asking
pub mod LentList
pub mod Steps
pub mod Valid
