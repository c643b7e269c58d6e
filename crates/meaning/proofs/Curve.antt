-- The laws of curves: value, normal form, and the operations on curves.
pub mod Value
pub mod Lowest
pub mod Unique
pub mod Neighbours
pub mod Reads
pub mod Usefulness
pub mod Normal
pub mod Curves
pub mod Merging
pub mod Turns
