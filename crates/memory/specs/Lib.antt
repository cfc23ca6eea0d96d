pub mod Mem
pub mod Lines
pub mod Lists
pub mod Layered
pub mod Packing
pub mod Bottoms
