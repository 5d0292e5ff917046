-- Laws that other crates cite: how this crate comes to document 01's definitions. Assumes nothing.
pub mod InUse
pub mod Order
pub mod Searched
pub mod Putting
pub mod Served
pub mod Written
pub mod Done
