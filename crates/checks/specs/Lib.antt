pub mod Cited
pub mod Table
pub mod Held
