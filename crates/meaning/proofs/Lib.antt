-- The laws: theorems about the definitions of specs/, which other crates cite.
pub mod Order
pub mod Lists
pub mod Curve
pub mod Server
pub mod Outcome
pub mod Profile
pub mod Route
pub mod Readings
pub mod Figures
