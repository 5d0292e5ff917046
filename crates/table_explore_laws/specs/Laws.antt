-- How far an exploration on words is beside document 01's (Reached), that it goes on alike to its end (Walks), and what it leaves in lent
-- memory (Leaves, which the calls cite). Assumes nothing.
pub mod Reached
pub mod Walks
pub mod Leaves
