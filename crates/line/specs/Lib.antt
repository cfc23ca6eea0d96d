pub mod Digits
pub mod Spelling
pub mod Lines
pub mod Steps
