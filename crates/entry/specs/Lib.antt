pub mod Rounding
pub mod Values
pub mod Interpolation
pub mod TwosComplement
