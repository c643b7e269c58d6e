-- What comes of a question: one outcome for every input, and what it says in a caller's words.
pub mod Outcomes
pub mod Stable
pub mod Answers
pub mod Known
pub mod Slips
pub mod Demands
pub mod Bytes
pub mod EveryInput
pub mod KnownServers
pub mod AtOnce
pub mod Frames
pub mod Sums
pub mod ServerSlips
pub mod Delayed
pub mod Numbers
