-- The laws that the proofs of this crate's functions cite, and those of other crates that call them.
pub mod Joins
