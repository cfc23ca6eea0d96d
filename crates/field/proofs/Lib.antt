pub mod Reduced
pub mod Turns
pub mod Lookups
pub mod Totals
pub mod Summed
pub mod ByteTables
