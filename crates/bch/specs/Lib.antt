pub mod Buffers
pub mod Published
pub mod Calls
pub mod Steps
