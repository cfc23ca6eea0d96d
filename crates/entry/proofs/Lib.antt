mod Law
mod Scaled
mod Exact
mod Sums
mod Stored
