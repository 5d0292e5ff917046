-- What the plain run leaves, and that it is document 01's. Assumes nothing.
pub mod Mirror
pub mod Steps
pub mod Laws
