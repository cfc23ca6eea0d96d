pub mod Bits
pub mod Stores
pub mod Listing
pub mod Layering
