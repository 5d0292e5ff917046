-- The pool beside trees: a reference goes with the tree that it reads as. A new pool is a new file like this one. Assumes nothing.
use Rattle.std.specs.Prelude.{ℕ, Bool, true, false, ◌≡◌, refl, List, [], ◌∷◌, ◌++◌, length, get_or}
use Rattle.std.proofs.Common.{sym, ap, ap₂, ◌∙◌, subst, length-append, arith}
use Rattle.std.proofs.lemmas.List.{get_or_at}
use Rattle.gil.specs.Values.{Value, term, Node, input, neg, bin, gives_number}
use Rattle.gil.specs.Machine.{making}
use Rattle.gil.specs.Pool.{Ref, ref_sort, ref_to, place_in, Pool, pooled, added, value_of, pool_values}
use Rattle.gil.proofs.Theory.Trees
use Rattle.gil.proofs.Theory.Trees.{Tree, trees, planted, tree_sort, sort_for, tree_value}
use Rattle.gil.proofs.Theory.ReadBack.{nothing, read_value, read_node, trees_of, of_length, of_append, Reads, reads-still, reads-value}
use Rattle.gil.proofs.Theory.Relation.{Relation, Values, consts, valued, terms, Acts, oks}
use Rattle.gil.proofs.Theory.Together.{Nodes, InStep}
use Rattle.gil.proofs.Theory.Together as Together

-- each term made counts
abbrev pub counted : List Tree → ℕ
counted = length

unfoldable pub as_trees : Relation pooled (trees counted)
unfolding pooled
as_trees = record { Worlds = λ w ts. trees_of w ≡ ts; Valued = λ w r c. ⊥; Terms = Reads }

-- what is related to a value or a node is what it reads as
pub value_read : (w : Pool) (a : Value Ref) (b : Value Tree) → (unfold pooled in Values as_trees w a b) → read_value (trees_of w) a ≡ b
unfolding as_trees pooled read_value
value_read w a b consts = refl
value_read w a b (valued h) = absurd h
value_read w a b (terms h) = ap term h.reads

node-read : (w : Pool) (n : Node Ref) (m : Node Tree) → (unfold pooled in Nodes as_trees w n m) → read_node (trees_of w) n ≡ m
unfolding pooled read_node
node-read w n m Together.input = refl
node-read w n m (Together.neg h) = ap neg (value_read w _ _ h)
node-read w n m (Together.bin {o} h k) = ap₂ (bin o) (value_read w _ _ h) (value_read w _ _ k)

-- the same values on inputs
pub same-value :
    (inputs : List ℕ) (w : Pool) (a : Value Ref) (b : Value Tree) → (unfold pooled in Values as_trees w a b)
    → value_of (pool_values inputs w) a ≡ tree_value inputs b
unfolding as_trees pooled value_of tree_value
same-value inputs w a b consts = refl
same-value inputs w a b (valued h) = absurd h
same-value inputs w a b (terms {t} {u} h) = reads-value inputs w t u h

-- the term that is made reads as its own tree
ref_sort_lem : (b : Bool) (k : ℕ) → ref_sort (ref_to b k) ≡ sort_for b
unfolding ref_sort ref_to sort_for
ref_sort_lem true k = refl
ref_sort_lem false k = refl

ref_place : (b : Bool) (k : ℕ) → place_in (ref_to b k) ≡ k
unfolding place_in ref_to
ref_place true k = refl
ref_place false k = refl

tree_sort_lem : (ts : List Tree) (n : Node Ref) → tree_sort (planted (read_node ts n)) ≡ sort_for (gives_number n)
unfolding tree_sort planted read_node gives_number sort_for
tree_sort_lem ts (input k) = refl
tree_sort_lem ts (neg a) = refl
tree_sort_lem ts (bin o a b) = refl

newest : (w : Pool) (n : Node Ref) → Reads (w ++ (n ∷ [])) (ref_to (gives_number n) (length w)) (planted (read_node (trees_of w) n))
newest w n =
    let e : place_in (ref_to (gives_number n) (length w)) ≡ length w = ref_place (gives_number n) (length w) in
    record {
      reads =
          ap₂ (λ (ts : List Tree) (k : ℕ). get_or ts k nothing) (of_append w n) e
          ∙ get_or_at (trees_of w) (planted (read_node (trees_of w) n)) [] nothing (length w) (of_length w);
      sorts = ref_sort_lem (gives_number n) (length w) ∙ sym (tree_sort_lem (trees_of w) n);
      within = omega (arith, length-append w (n ∷ []));
    }

making_rel :
    (w : Pool) (n : Node Ref) (m : Node Tree) → (unfold pooled in Nodes as_trees w n m)
    → unfold pooled in Acts as_trees (Values as_trees) w (making pooled n) (making (trees counted) m)
unfolding as_trees making pooled added Trees.grown
making_rel w n m h ts k =
    let e = node-read w n m h in
    oks (record { stays = λ r c h. h; keeps = reads-still w n })
    (of_append w n ∙ ap₂ (λ (us : List Tree) (x : Node Tree). us ++ (planted x ∷ [])) k e)
    (terms (subst (λ (x : Node Tree). Reads (w ++ (n ∷ [])) (ref_to (gives_number n) (length w)) (planted x)) e (newest w n)))

pub as_trees-step : InStep as_trees
unfolding as_trees pooled
as_trees-step =
    record {
      alongside = record { unknown = λ w t c h. h; sorts = λ w t u h. h.sorts; makes = making_rel };
      counted = λ w ts h. sym (of_length w) ∙ ap length h;
    }
