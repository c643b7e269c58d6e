-- The laws of the profile file.
pub mod Bits
pub mod Fields
pub mod Files
pub mod RoundTrip
pub mod Outcomes
pub mod Decided
pub mod Again
pub mod Refusals
pub mod Known
pub mod Slips
pub mod Editions
