-- Laws that other crates cite: terms read from their bytes (Terms), the rows of a sound table (Rows), and what the call `place` cites (Place).
-- Assumes nothing.
pub mod Terms
pub mod Rows
pub mod Place
