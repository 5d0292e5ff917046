-- What the row writer leaves, and that it is document 01's row and table. Assumes nothing.
pub mod Mirror
pub mod Steps
pub mod Laws
