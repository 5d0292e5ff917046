-- Laws that other crates cite. Assumes nothing.
pub mod Words
