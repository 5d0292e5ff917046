-- A table read as terms: each reference is the tree that stands in its place of the pool. The table read so is what exploring over trees
-- gives, rows and refusals; what is to be said of rows "as terms" can be said there. Assumes nothing.
use Rattle.std.specs.Prelude.{ℕ, suc, ◌*◌, ◌≤◌, ◌≡◌, get_or}
use Rattle.std.proofs.Math.Path.{refl, ap, ap₂}
use Rattle.std.proofs.Common.{◌∙◌, subst₂, arith}
use mathlib.Core.List.{List, [], ◌∷◌, map}
use Rattle.gil.specs.Names.{Program}
use Rattle.gil.specs.Rows.{Condition, Outcome, ended, cut, Row, row_of}
use Rattle.gil.specs.Explore.{Explored, refused, explored, waiting_on, explore}
use Rattle.gil.specs.Pool.{Ref, place_in, Pool, pooled, table}
use Rattle.gil.specs.Accounts.{row_with, put_variable, put_cell, put_end}
use Rattle.gil.proofs.Theory.Trees.{Tree, trees}
use Rattle.gil.proofs.Theory.Relation.{Each, nil, cons, memories, states}
use Rattle.gil.proofs.Theory.Together.{Conditions, condition, Outcomes, path, RowsOf, row, Explorings, stopped, exploring, commands_rel}
use Rattle.gil.proofs.Theory.Together as Together
use Rattle.gil.proofs.Theory.PutIn.{put-store, put-cells, put-end, same_store, same-cells, same_end, parts}
use Rattle.gil.proofs.Theory.PoolTree.{counted, as_trees, as_trees-step, value_read}
use Rattle.gil.proofs.Theory.ReadBack.{nothing, read_value, trees_of, trees_from}
use Rattle.gil.proofs.Theory.Ends.{ends_in}

module _ (ts : List Tree) where
  unfoldable pub read_condition : Condition Ref → Condition Tree
  read_condition c = record { term = get_or ts (place_in c.term) nothing; truth = c.truth }

  unfoldable pub read_outcome : Outcome Ref → Outcome Tree
  read_outcome (ended e) = ended (put_end (read_value ts) e)
  read_outcome (cut why) = cut why

  unfoldable pub read_row : Row Ref → Row Tree
  read_row r =
      row_with r (read_outcome r.outcome) (map read_condition r.conditions) (map (put_variable (read_value ts)) r.variables)
      (map (put_cell (read_value ts)) r.cells)

unfoldable pub as_terms : Explored Pool Ref → Explored (List Tree) Tree
as_terms (refused n) = refused n
as_terms (explored w rows) = explored (trees_of w) (map (read_row (trees_of w)) rows)

module _ (w : Pool) where
  outcome-read : (o : Outcome Ref) (o' : Outcome Tree) → (unfold pooled in Outcomes as_trees w o o') → read_outcome (trees_of w) o ≡ o'
  unfolding read_outcome pooled
  outcome-read o o' (Together.ended {e'} h) =
      ap ended (put-end (read_value (trees_of w)) (λ v. v) (value_read w) h ∙ same_end (λ v. v) (λ v. refl) e')
  outcome-read o o' Together.cut = refl

  conditions-read :
      (cs : List (Condition Ref)) (cs' : List (Condition Tree)) → (unfold pooled in Each (Conditions as_trees w) cs cs')
      → map (read_condition (trees_of w)) cs ≡ cs'
  unfolding read_condition pooled as_trees
  conditions-read cs cs' nil = refl
  conditions-read cs cs' (cons (condition {b} h) hs) =
      ap₂ {C = List (Condition Tree)} (λ t ds. record { term = t; truth = b } ∷ ds) h.reads (conditions-read _ _ hs)

  row_read : (r : Row Ref) (r' : Row Tree) → (unfold pooled in RowsOf as_trees w r r') → read_row (trees_of w) r ≡ r'
  unfolding read_row row_of pooled row_with
  row_read r r' (row n {q'} o (path (states h hs (memories k)) cs)) =
      parts r' (outcome-read _ _ o) (conditions-read _ _ cs)
      (put-store (read_value (trees_of w)) (λ v. v) (value_read w) h ∙ same_store (λ v. v) (λ v. refl) _)
      (put-cells (read_value (trees_of w)) (λ v. v) (value_read w) k ∙ same-cells (λ v. v) (λ v. refl) _)

  rows-read :
      (rs : List (Row Ref)) (rs' : List (Row Tree)) → (unfold pooled in Each (RowsOf as_trees w) rs rs')
      → map (read_row (trees_of w)) rs ≡ rs'
  unfolding pooled
  rows-read rs rs' nil = refl
  rows-read rs rs' (cons h hs) = ap₂ {C = List (Row Tree)} (λ x xs. x ∷ xs) (row_read _ _ h) (rows-read _ _ hs)

explored-read :
    (x : Explored Pool Ref) (y : Explored (List Tree) Tree) → (unfold pooled in Explorings as_trees (waiting_on [] x) (waiting_on [] y))
    → as_terms x ≡ y
unfolding as_terms waiting_on pooled as_trees
explored-read (refused n) (refused m) stopped = refl
explored-read (refused n) (explored v rs') h = elim h [ ]
explored-read (explored w rs) (refused m) h = elim h [ ]
explored-read (explored w rs) (explored v rs') (exploring k hs nil) = ap₂ explored k (rows-read w rs rs' hs)

pub table-read : (p : Program) (budget most : ℕ) → as_terms (table p budget most) ≡ explore (trees counted) p budget most []
unfolding pooled table as_trees trees_of trees_from
table-read p budget most =
    let n : ℕ = 65 * suc budget in
    let h : n ≤ n = omega arith in
    explored-read _ _
    (subst₂ (Explorings as_trees) (ends_in pooled p budget most [] n h) (ends_in (trees counted) p budget most [] n h) (commands_rel as_trees-step p budget most [] [] refl n))
