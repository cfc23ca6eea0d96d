pub mod Classes
pub mod Locators
