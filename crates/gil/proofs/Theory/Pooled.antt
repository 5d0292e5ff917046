-- Demand 3 over the pool: its rows read as the trees' rows, command by command, so they account for what those do. Assumes nothing.
use Rattle.std.specs.Prelude.{ℕ, suc, ◌*◌, ◌≤◌, Bool, true, false, ◌&&◌, ◌≡◌}
use Rattle.std.proofs.Math.Path.{refl}
use Rattle.std.proofs.Common.{sym, ap, ◌∙◌, subst, arith}
use mathlib.Core.List.{List, [], ◌∷◌, ◌++◌, map, append-nil}
use Rattle.std.proofs.Math.Nat.{suc_inj}
use Rattle.gil.specs.Names.{Program}
use Rattle.gil.specs.Values.{Constant, truth_in, same_truth, term}
use Rattle.gil.specs.Machine.{Model, Val}
use Rattle.gil.specs.Rows.{Condition, Path, Row, row_of, cut_for, steps}
use Rattle.gil.specs.Plain.{plain_run}
use Rattle.gil.specs.Explore.{Exploring, explored, waiting_on, after_commands}
use Rattle.gil.specs.Explore as Explore
use Rattle.gil.specs.Pool.{Ref, Pool, pooled, table, value_of, pool_values, meets, place_among, placed}
use Rattle.gil.specs.Accounts.{Stands, here, further, Accounted, Accounts, exploration_after}
use Rattle.gil.proofs.Theory.Tests.{chosen}
use Rattle.gil.proofs.Theory.Trees.{Tree, trees, tree_value}
use Rattle.gil.proofs.Theory.Relation.{Each, nil, cons, each_append, Relation, Values}
use Rattle.gil.proofs.Theory.Together.{Conditions, path, RowsOf, row, Explorings, exploring, cuts_rel, commands_rel}
use Rattle.gil.proofs.Theory.PutIn.{holds, holds_rel, put-row}
use Rattle.gil.proofs.Theory.PoolTree.{counted, as_trees, as_trees-step, same-value}
use Rattle.gil.proofs.Theory.ReadBack.{trees_of, trees_from}
use Rattle.gil.proofs.Theory.Exactly.{tree_accounted}
use Rattle.gil.proofs.Theory.Ends.{ends_in}

-- what stands at a place of one of two lists that are related one by one
record Beside {A B : Type 0} (Q : A → B → Type 0) (k : ℕ) (a : A) (l : List B) : Type 0 where
  other : B
  stands : Stands k other l
  related : Q a other

module _ {A B : Type 0} {Q : A → B → Type 0} where
  beside : {xs : List A} {ys : List B} {k : ℕ} {a : A} → Each Q xs ys → Stands k a xs → Beside Q k a ys
  beside nil s = elim s [ ]
  beside (cons {b} q qs) here = record { other = b; stands = here; related = q }
  beside (cons q qs) (further s) = let h = beside qs s in record { other = h.other; stands = further h.stands; related = h.related }

  each_back : {xs : List A} {ys : List B} → Each Q xs ys → Each (λ b a. Q a b) ys xs
  each_back nil = nil
  each_back (cons q qs) = cons q (each_back qs)

-- rows account for a run if rows related to them do
module _
    {M N : Model} {R : Relation M N} {w : M.World} (f : Val M → Constant) (g : Val N → Constant)
    (agree : (a : Val M) (b : Val N) → Values R w a b → f a ≡ g b) (m : List (Condition M.Term) → Bool)
    (m' : List (Condition N.Term) → Bool)
    (same : (cs : List (Condition M.Term)) (cs' : List (Condition N.Term)) → Each (Conditions R w) cs cs' → m cs ≡ m' cs')
  where
    row-met : {r : Row M.Term} {r' : Row N.Term} → RowsOf R w r r' → m r.conditions ≡ m' r'.conditions
    unfolding row_of
    row-met (row n o (path s cs)) = same _ _ cs

    row-steps : {r : Row M.Term} {r' : Row N.Term} → RowsOf R w r r' → r.steps ≡ r'.steps
    unfolding row_of
    row-steps (row n o q) = refl

    accounted_rel :
        (run : ℕ → Row ⊥) {rs : List (Row M.Term)} {rs' : List (Row N.Term)} → Each (RowsOf R w) rs rs' → Accounted m' g run rs'
        → Accounted m f run rs
    accounted_rel run {rs} {rs'} h a =
        let b = beside (each_back h) a.stands in
        record {
          place = a.place;
          row = b.other;
          stands = b.stands;
          met = row-met b.related ∙ a.met;
          only = λ k r s i. let c = beside h s in a.only k c.other c.stands (sym (row-met c.related) ∙ i);
          ran = ap run (row-steps b.related) ∙ a.ran ∙ sym (put-row f g agree b.related);
        }

meets-holds : (vs : List Constant) (cs : List (Condition Ref)) → meets vs cs ≡ holds (value_of vs) cs
unfolding meets holds
meets-holds vs [] = refl
meets-holds vs (c ∷ cs) = ap (λ (b : Bool). same_truth c.truth (truth_in (value_of vs (term c.term))) && b) (meets-holds vs cs)

beside-trees :
    (p : Program) (budget most : ℕ) (inputs : List ℕ) (n : ℕ) (w : Pool) (rs : List (Row Ref)) (qs : List (Path Ref))
    (y : Exploring (List Tree) Tree)
    → after_commands (trees counted) p budget most [] n ≡ y → (unfold pooled in Explorings as_trees (Explore.exploring w rs qs) y)
    → Accounts p inputs w (rs ++ map (cut_for steps) qs)
unfolding pooled
beside-trees p budget most inputs n w rs qs y e (exploring {v} {rs'} {qs'} k hs ps) =
    let vs = pool_values inputs w in
    accounted_rel (value_of vs) (tree_value inputs) (same-value inputs w) (meets vs) (holds (tree_value inputs))
    (λ cs cs' h. meets-holds vs cs ∙ holds_rel (value_of vs) (tree_value inputs) (same-value inputs w) h)
    (plain_run p inputs) (each_append hs (cuts_rel as_trees steps ps)) (tree_accounted counted p inputs budget most [] n v rs' qs' e)

pub commands-accounted :
    (p : Program) (budget most : ℕ) (inputs : List ℕ) (n : ℕ) (w : Pool) (rs : List (Row Ref)) (qs : List (Path Ref))
    → exploration_after p budget most n ≡ Explore.exploring w rs qs → Accounts p inputs w (rs ++ map (cut_for steps) qs)
unfolding exploration_after pooled as_trees trees_of trees_from
commands-accounted p budget most inputs n w rs qs e =
    beside-trees p budget most inputs n w rs qs _ refl
    (subst (λ x. Explorings as_trees x (after_commands (trees counted) p budget most [] n)) e (commands_rel as_trees-step p budget most [] [] refl n))

-- the table is what the commands come to
pub commands-table :
    (p : Program) (budget most : ℕ) (n : ℕ) → 65 * suc budget ≤ n
    → exploration_after p budget most n ≡ waiting_on [] (table p budget most)
unfolding exploration_after pooled table
commands-table p budget most n h = ends_in pooled p budget most [] n h

pub table-accounted :
    (p : Program) (budget most : ℕ) (inputs : List ℕ) (w : Pool) (rs : List (Row Ref)) → table p budget most ≡ explored w rs
    → Accounts p inputs w rs
unfolding waiting_on
table-accounted p budget most inputs w rs e =
    let n : ℕ = 65 * suc budget in
    let h : n ≤ n = omega arith in
    subst (Accounts p inputs w) (append-nil rs)
    (commands-accounted p budget most inputs n w rs [] (commands-table p budget most n h ∙ ap (waiting_on []) e))

-- the first row whose conditions hold is the only one
first-place :
    (vs : List Constant) {rs : List (Row Ref)} {k : ℕ} {r : Row Ref} → Stands k r rs → meets vs r.conditions ≡ true
    → ((j : ℕ) (s : Row Ref) → Stands j s rs → meets vs s.conditions ≡ true → j ≡ k) → place_among vs rs ≡ k
unfolding place_among
first-place vs (here {l}) h only = ap (λ (b : Bool). elim b as (λ x. ℕ) [ true ↦ 0 | false ↦ suc (place_among vs l) ]) h
first-place vs (further {k} {b = r} {l} s) h only =
    chosen (λ n. n ≡ suc k) (meets vs r.conditions) (λ e. only 0 r here e)
    (λ e. ap suc (first-place vs s h (λ j t i x. suc_inj (only (suc j) t (further i) x))))

pub placed-only :
    (p : Program) (inputs : List ℕ) (w : Pool) (rs : List (Row Ref)) (a : Accounts p inputs w rs) → placed inputs w rs ≡ a.place
unfolding placed
placed-only p inputs w rs a = first-place (pool_values inputs w) a.stands a.met a.only
