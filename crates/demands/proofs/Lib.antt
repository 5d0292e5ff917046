-- What is proved of the definitions of specs/: that the calls meet the three demands (Demands), and the proofs under it. It stands here and not
-- in specs/, so that an edit of a definition is read, and is refused by a theorem.
pub mod Orders
pub mod Texts
pub mod Overruns
pub mod Refusals
pub mod Determined
pub mod PutIn
pub mod Rows
pub mod Accounted
pub mod Demands
