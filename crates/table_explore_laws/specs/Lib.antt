-- That the exploration on words is document 01's. Assumes nothing.
pub mod Laws
