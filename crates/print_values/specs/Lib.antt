pub mod Mirror
pub mod Leaves
pub mod Kinds
pub mod Laws
