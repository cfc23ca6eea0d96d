pub mod Classes
pub mod Trials
