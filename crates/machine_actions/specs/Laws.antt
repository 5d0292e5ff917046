-- Laws that other crates cite: how this crate comes to document 01's definitions. Assumes nothing.
pub mod Changed
pub mod Done
