-- Words in bytes. Assumes nothing.
pub mod Mirror
pub mod Steps
pub mod Laws
