-- The laws that the proofs of this crate's functions cite.
pub mod Putting
pub mod Due
pub mod Hops
pub mod Walking
pub mod Reporting
