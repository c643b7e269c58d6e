-- The laws that the proofs of this crate's functions cite.
pub mod InNumbers
