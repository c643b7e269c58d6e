pub mod Cited
pub mod Told
