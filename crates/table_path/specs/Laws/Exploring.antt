-- Paths of the exploration: moves that go on are `walk`'s, and along them the terms stay within their room, the cells within theirs, and every
-- term that a state holds stands in the pool. Assumes nothing.
use Rattle.std.specs.Prelude.{ℕ, ◌≤◌, Bool, true, false, ◌≡◌, List, length, leb}
use Rattle.std.proofs.Math.Path.{refl, ap}
use Rattle.std.proofs.Common.{◌∙◌, arith, mod-eq_of_lt}
use borrow.Author.Tests.{ltb-false, le-ltb, leb-true}
use Rattle.gil.specs.Numbers.{most_terms, most_cells}
use Rattle.gil.specs.Names.{Program}
use Rattle.gil.specs.Machine as Machine
use Rattle.gil.specs.Machine.{Model, State, Moved, move, on}
use Rattle.gil.specs.Rows.{Condition, Path, Row}
use Rattle.gil.specs.Explore.{Explored, explored, stepped, turned, walk_turn, overfull, turn_in, walk_move, walk}
use Rattle.gil.specs.Pool.{pooled}
use Rattle.gil.proofs.Theory.Trees.{trees}
use Rattle.gil.proofs.Theory.ReadBack.{trees_of}
use Rattle.gil.proofs.Theory.Relation.{States, Nexts, goes, stops, forks, is_true, is_false, Grows, grows-on, Moves, move_rel}
use Rattle.gil.proofs.Theory.Together.{alongside_laws}
use Rattle.gil.proofs.Theory.PoolTree.{counted, as_trees, as_trees-step}
use Rattle.machine_code.specs.WellFormed.{WellFormed}
use Rattle.machine_terms.specs.Laws.Pooled.{pooled_engine}
use Rattle.machine_laws.specs.Laws.Engine.{next_fits}
use Rattle.machine_laws.specs.Laws.Growth.{pooled-moves}
use Rattle.table_advance.specs.Mirror.Followed.{Spot, follow_in}
use Rattle.table_path.specs.Laws.Few.{move-few}
use Rattle.table_path.specs.Laws.Path.{Onward, stays, moves, SpotAs, one, one_as, Followed, follows, few_on_lem}

pub pick_false : {A : Type 0} (b : Bool) (x y : A) → b ≡ false → ◌≡◌ {A = A} (elim b [ true ↦ x | false ↦ y ]) y
pick_false true x y e = let z : ◌≡◌ {A = ℕ} 0 1 = cc in absurd (omega arith)
pick_false false x y e = refl

-- moves that go on are those of the walk
module _ {M : Model} (p : Program) (most : ℕ) where
  went_on : (rest : Path M.Term → Explored M.World M.Term → Explored M.World M.Term) (q : Path M.Term) (rows : List (Row M.Term))
      (m : Moved M) (s : State M.Term)
      → overfull M p m.world ≡ false
      → m.next ≡ on s
      → walk_move M p most rest q rows m ≡ rest (stepped s q) (explored m.world rows)
  unfolding walk_move turn_in walk_turn turned
  went_on rest q rows m s f e =
      pick_false (overfull M p m.world) _ _ f ∙ ap (λ (n : Machine.Next M.Term). walk_turn rest m.world rows (turned most q n)) e

  pub walk-onward : {k n j m : ℕ} {w v : M.World} {s t : State M.Term} (cs : List (Condition M.Term)) (rows : List (Row M.Term))
      → Onward M p k n w s j m v t
      → walk M p most k (record { state = s; steps = n; conditions = cs }) (explored w rows)
      ≡ walk M p most j (record { state = t; steps = m; conditions = cs }) (explored v rows)
  unfolding walk stepped
  walk-onward cs rows stays = refl
  walk-onward cs rows (moves {k} {n} {w = w} {s = s} {s' = s'} e f o) =
      went_on (walk M p most k) (record { state = s; steps = n; conditions = cs }) rows (move M p w s) s' f e ∙ walk-onward cs rows o

-- a state's terms all stand in the pool: each reads as a tree
pub record Reading (w : pooled.World) (s : State pooled.Term) : Type 0 where
  pub state : State (trees counted).Term
  pub reads : States as_trees w s state

pub record MovedReading (w : pooled.World) (m : Moved pooled) : Type 0 where
  pub other : Moved (trees counted)
  pub moves : Moves as_trees w m other

-- what is known of every state of an exploration that began in the world `w₀`
pub record Sound (w₀ w : pooled.World) (s : State pooled.Term) : Type 0 where
  pub grown : Grows as_trees w₀ w
  pub terms : pooled.made w ≤ most_terms
  pub cells : length s.memory.cells ≤ most_cells
  pub reading : Reading w s

on-reads : {w : pooled.World} {x : Machine.Next pooled.Term} {y : Machine.Next (trees counted).Term} {s : State pooled.Term} → Nexts as_trees w x y
    → x ≡ on s
    → Reading w s
on-reads {w} {s = s} (goes {s = a} {s' = b} h) e =
    let same : a ≡ s = cc in
    record { state = b; reads = rw same at h }
on-reads (stops h) e = let z : ◌≡◌ {A = ℕ} 0 1 = cc in absurd (omega arith)
on-reads (forks h a b) e = let z : ◌≡◌ {A = ℕ} 0 1 = cc in absurd (omega arith)
on-reads (is_true h a) e = let z : ◌≡◌ {A = ℕ} 0 1 = cc in absurd (omega arith)
on-reads (is_false h a) e = let z : ◌≡◌ {A = ℕ} 0 1 = cc in absurd (omega arith)

-- the count in words is that of the terms
pub counts-terms : (w : pooled.World) (pool : List ℕ) (count : ℕ) → pooled_engine.WorldAs w pool count → pooled.made w ≤ 2559 → count ≡ pooled.made w
unfolding pooled pooled_engine
counts-terms w pool count h few = h.counted ∙ mod-eq_of_lt (omega arith)

module _ (p : Program) (ok : WellFormed p) where
  module _ {w₀ w : pooled.World} {s : State pooled.Term} (i : Sound w₀ w s) where
    pub moved-reads : MovedReading w (move pooled p w s)
    unfolding as_trees pooled
    moved-reads =
        record {
          other = move (trees counted) p (trees_of w) i.reading.state;
          moves = move_rel (alongside_laws as_trees-step.alongside) p w (trees_of w) s i.reading.state refl i.reading.reads;
        }

    pub moved-few : {x : Spot} → SpotAs pooled_engine p w s x → pooled.made (move pooled p w s).world ≤ 2559
    moved-few h = omega (arith, i.terms, pooled-moves p w s (next_fits pooled_engine p ok h.state))

    pub sound-counts : {x : Spot} → SpotAs pooled_engine p w s x → leb (one pooled_engine p x).count most_terms ≡ true → overfull pooled p (move pooled p w s).world ≡ false
    unfolding overfull
    sound-counts {x} h e =
        let m = one_as pooled_engine p ok h in
        let same : (one pooled_engine p x).count ≡ pooled.made (move pooled p w s).world =
        counts-terms (move pooled p w s).world (one pooled_engine p x).pool (one pooled_engine p x).count m.world (moved-few h) in
        le-ltb most_terms (pooled.made (move pooled p w s).world) (omega (arith, leb-true (one pooled_engine p x).count most_terms e))

    pub sound-on : (s' : State pooled.Term) → (move pooled p w s).next ≡ on s' → overfull pooled p (move pooled p w s).world ≡ false
        → Sound w₀ (move pooled p w s).world s'
    unfolding overfull
    sound-on s' e f =
        record {
          grown = grows-on as_trees i.grown moved-reads.moves.grows;
          terms = ltb-false most_terms (pooled.made (move pooled p w s).world) f;
          cells = few_on_lem (move-few pooled p s i.cells w) e;
          reading = on-reads moved-reads.moves.nexts e;
        }

  -- a path of the exploration on words
  pub explores : (w₀ : pooled.World) (k n : ℕ) (w : pooled.World) (s : State pooled.Term) (x : Spot) → Sound w₀ w s → SpotAs pooled_engine p w s x
      → Followed pooled_engine p (Sound w₀) k n w s (follow_in (one pooled_engine p) k n x)
  explores w₀ =
      follows pooled_engine p ok (Sound w₀) (λ w s x i h e. sound-counts i h e) (λ w s s' i e f. sound-on i s' e f)
