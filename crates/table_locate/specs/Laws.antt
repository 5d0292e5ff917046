-- Laws that other crates cite: what holds of every table that exploring gives (Sound; Exploring proves it), and inputs read from their bytes
-- (Inputs). What the words that are read come to is proofs/Laws. Assumes nothing.
pub mod Sound
pub mod Inputs
pub mod Exploring
