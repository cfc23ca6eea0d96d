pub mod Framing
pub mod Unique
pub mod Turned
