pub mod Layers
pub mod Crossing
