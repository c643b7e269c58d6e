-- The laws that the proofs of this crate's functions cite, and those of other crates that call them.
pub mod Buckets
pub mod Ranges
pub mod Forms
pub mod Checks
pub mod Numbers
pub mod Pairs
