-- The laws that the proofs of this crate's functions cite.
pub mod Taking
pub mod Header
pub mod Framing
pub mod Decoding
pub mod Readings
pub mod Putting
pub mod Packs
pub mod Handing
