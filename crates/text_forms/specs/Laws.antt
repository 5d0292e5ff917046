-- Laws that other crates cite. Assumes nothing.
pub mod Goes
pub mod Seeing
pub mod Stores
pub mod Wrote
