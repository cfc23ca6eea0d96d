mod Numerals
mod Cuts
mod Spelled
mod Joined
