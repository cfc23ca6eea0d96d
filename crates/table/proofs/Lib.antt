pub mod Placing
pub mod Reading
pub mod Putting
pub mod Looking
