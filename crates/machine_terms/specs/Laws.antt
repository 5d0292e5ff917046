-- Laws that other crates cite: how this crate comes to document 01's definitions. Assumes nothing.
pub mod Engine
pub mod Plain
pub mod Pooled
