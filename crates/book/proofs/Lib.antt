pub mod Effective
pub mod Correcting
pub mod Leading
pub mod Sweeping
