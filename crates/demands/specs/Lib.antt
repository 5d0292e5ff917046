pub mod Demands
pub mod Reasons
pub mod FromBytes
