pub mod Classing
pub mod Stepping
