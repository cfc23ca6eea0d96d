pub mod Bits
pub mod Calls
