pub mod Cited
pub mod Walks
pub mod Told
