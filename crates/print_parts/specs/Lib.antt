pub mod Mirror
pub mod Laws
pub mod Reads
