pub mod Rows
pub mod Buffers
pub mod Tally
pub mod Damage
pub mod Promises
pub mod Fields
