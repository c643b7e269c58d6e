pub mod Order
pub mod Cited
pub mod Parts
