-- The laws that the proofs of this crate's functions cite.
pub mod Walking
pub mod Valuing
pub mod Turning
pub mod Refusing
pub mod Bounding
pub mod Sharing
pub mod Leaving
pub mod Pushing
pub mod Lining
pub mod Passing
pub mod Delaying
pub mod Merging
pub mod Summing
pub mod Asking
