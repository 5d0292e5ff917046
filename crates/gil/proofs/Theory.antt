-- Demand 3 proved over the definitions; what is proved is said in Demand3. In order: two models side by side (Relation), their explorations
-- (Together), their rows with inputs put in (PutIn); the two instances, trees beside plain values (TreePlain) and the pool beside trees
-- (ReadBack, PoolTree); exactly one is met (Exactly), the exploration ends (Ends), and both over the pool (Pooled, AsTerms). Assumes nothing.
pub mod Tests
pub mod Gathered
pub mod Trees
pub mod Relation
pub mod Together
pub mod PutIn
pub mod TreePlain
pub mod ReadBack
pub mod PoolTree
pub mod Counting
pub mod Exactly
pub mod Ends
pub mod Pooled
pub mod AsTerms
pub mod Given
