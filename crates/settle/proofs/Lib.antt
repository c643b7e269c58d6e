-- The laws that the proofs of this crate's functions cite, and those of other crates that call them.
pub mod Pairs
pub mod Narrowing
pub mod Steepest
pub mod Ordered
pub mod Picking
pub mod Copying
pub mod Placing
pub mod Delivering
pub mod Settling
