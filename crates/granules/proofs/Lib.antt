-- The laws of the tests of the coefficients: which one to reach for when.
--
-- The one pass over the granules: `Scanning`, over coefficients that are `Alike` to the granule's
-- own. What tests that all pass leave, and that such coefficients pass: `Accepting`.
pub mod Alike
pub mod Scanning
pub mod Accepting
