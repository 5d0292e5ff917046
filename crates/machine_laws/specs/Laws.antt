-- Laws that other crates cite: how this crate comes to document 01's definitions. Assumes nothing.
pub mod State
pub mod Frames
pub mod Memory
pub mod Moves
pub mod Actions
pub mod Words
pub mod Engine
pub mod Runs
pub mod Growth
