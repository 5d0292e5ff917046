-- Laws that other crates cite. Assumes nothing.
pub mod Lists
pub mod Words
pub mod Procedures
