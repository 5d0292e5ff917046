pub mod Code
pub mod Kinds
pub mod Mirror
pub mod WellFormed
