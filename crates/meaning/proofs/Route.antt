-- The laws of the route program.
pub mod BackToBack
pub mod Routes
pub mod Line
pub mod Decimal
pub mod Text
pub mod EveryRoute
pub mod Answered
pub mod Winning
pub mod Standing
pub mod Written
pub mod Steps
pub mod Codes
pub mod Refusals
pub mod Known
pub mod Slips
pub mod Deciding
