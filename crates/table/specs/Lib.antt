pub mod Model
pub mod Calls
