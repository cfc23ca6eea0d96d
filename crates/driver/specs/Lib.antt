pub mod Answered
pub mod Driven
pub mod History
pub mod Runs
