-- Laws that other crates cite: how the engine holds what a row shows (Held), words that have the same bytes (Alike), that the row left is document
-- 01's (Row), and where rows stand in the table (Table). Assumes nothing.
pub mod Held
pub mod Alike
pub mod Row
pub mod Table
