-- What is proved of the definitions: demand 3 (Demand3), and the theory under it (Theory). They stand here and not in specs/, so that an edit
-- of a definition is read, and is refused by a theorem.
pub mod Theory
pub mod Demand3
