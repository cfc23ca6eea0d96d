pub mod Buffers
pub mod Knocks
pub mod Search
pub mod Spread
pub mod Laws
pub mod Carried
pub mod Fields
