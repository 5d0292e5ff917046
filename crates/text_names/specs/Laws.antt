-- Laws that other crates cite. Assumes nothing.
pub mod Lists
pub mod Distinct
pub mod Tables
