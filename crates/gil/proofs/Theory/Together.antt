-- Two explorations side by side: over related models that make terms in step and know no more of a truth than each other, every command
-- of the one goes with the same command of the other. Assumes nothing.
use Prim.Native.Nat.{ℕ, zero, suc}
use Rattle.std.specs.Prelude.{Bool, ◌≡◌, List, map, ltb, leb}
use Rattle.std.proofs.Common.{ap}
use Rattle.gil.specs.Names.{Program}
use Rattle.gil.specs.Tree.{Op}
use Rattle.gil.specs.Values.{Constant, location, Node}
use Rattle.gil.specs.Machine.{Model, Val, making, negated, combine, State, End, Next, Moved}
use Rattle.gil.specs.Rows.{Condition, Reason, Outcome, Path, Row, row_of, cut_for}
use Rattle.gil.specs.Rows as Rows
use Rattle.gil.specs.Explore.{Turn, Exploring, stepped, branched, turned, finish, waiting_on, on_turn, overfull, turn_in, after_move, advance, begin, after_commands}
use Rattle.gil.specs.Explore as Explore
use Rattle.gil.proofs.Theory.Tests.{either, either_of}
use Rattle.gil.proofs.Theory.Relation.{Each, nil, cons, Values, consts, valued, terms, Acts, give_rel, each-length, each_append, each_map, Relation, Laws, States, Ends, Nexts, Grows, Moves, grow-value, grow-state, move_rel, start_rel}
use Rattle.gil.proofs.Theory.Relation as Relation

-- nodes, conditions, paths and rows, related part by part
module _ {M N : Model} (R : Relation M N) where
  pub data Nodes (w : M.World) : Node M.Term → Node N.Term → Type 0 where
    input : {k : ℕ} → Nodes w (Node.input k) (Node.input k)
    neg : {a : Val M} {b : Val N} → Values R w a b → Nodes w (Node.neg a) (Node.neg b)
    bin : {o : Op} {a b : Val M} {a' b' : Val N} → Values R w a a' → Values R w b b' → Nodes w (Node.bin o a b) (Node.bin o a' b')

  pub data Conditions (w : M.World) : Condition M.Term → Condition N.Term → Type 0 where
    condition :
        {t : M.Term} {u : N.Term} {b : Bool} → R.Terms w t u
        → Conditions w (record { term = t; truth = b }) (record { term = u; truth = b })

  pub data Outcomes (w : M.World) : Outcome M.Term → Outcome N.Term → Type 0 where
    ended : {e : End M.Term} {e' : End N.Term} → Ends R w e e' → Outcomes w (Rows.ended e) (Rows.ended e')
    cut : {why : Reason} → Outcomes w (Rows.cut why) (Rows.cut why)

  pub data Paths (w : M.World) : Path M.Term → Path N.Term → Type 0 where
    path :
        {n : ℕ} {s : State M.Term} {s' : State N.Term} {cs : List (Condition M.Term)} {cs' : List (Condition N.Term)}
        → States R w s s' → Each (Conditions w) cs cs'
        → Paths w (record { state = s; steps = n; conditions = cs }) (record { state = s'; steps = n; conditions = cs' })

  -- a row is always a path's, with an outcome and a step count
  pub data RowsOf (w : M.World) : Row M.Term → Row N.Term → Type 0 where
    row :
        {o : Outcome M.Term} {o' : Outcome N.Term} (n : ℕ) {q : Path M.Term} {q' : Path N.Term}
        → Outcomes w o o' → Paths w q q' → RowsOf w (row_of o n q) (row_of o' n q')

  pub data Turns (w : M.World) : Turn M.Term → Turn N.Term → Type 0 where
    finishes : {r : Row M.Term} {r' : Row N.Term} → RowsOf w r r' → Turns w (Explore.finishes r) (Explore.finishes r')
    goes : {q : Path M.Term} {q' : Path N.Term} → Paths w q q' → Turns w (Explore.goes q) (Explore.goes q')
    forks :
        {a b : Path M.Term} {a' b' : Path N.Term} → Paths w a a' → Paths w b b'
        → Turns w (Explore.forks a b) (Explore.forks a' b')

  pub data Explorings : Exploring M.World M.Term → Exploring N.World N.Term → Type 0 where
    stopped : {n : ℕ} → Explorings (Explore.stopped n) (Explore.stopped n)
    exploring :
        {w : M.World} {v : N.World} {rs : List (Row M.Term)} {rs' : List (Row N.Term)} {qs : List (Path M.Term)}
        {qs' : List (Path N.Term)}
        → R.Worlds w v → Each (RowsOf w) rs rs' → Each (Paths w) qs qs' → Explorings (Explore.exploring w rs qs) (Explore.exploring v rs' qs')

-- terms go with terms alone: no truth is known on one side only, and related nodes make related terms
pub record Alongside {M N : Model} (R : Relation M N) : Type 0 where
  pub unknown : (w : M.World) (t : M.Term) (c : Constant) → R.Valued w t c → ⊥
  pub sorts : (w : M.World) (t : M.Term) (u : N.Term) → R.Terms w t u → M.sort t ≡ N.sort u
  pub makes :
      (w : M.World) (n : Node M.Term) (m : Node N.Term) → Nodes R w n m → Acts R (Values R) w (making M n) (making N m)

module _ {M N : Model} {R : Relation M N} (I : Alongside R) where
  not_rel : (w : M.World) (a : Val M) (b : Val N) → Values R w a b → Acts R (Values R) w (negated M a) (negated N b)
  unfolding negated
  not_rel w a b consts = give_rel _ _ consts
  not_rel w a b (valued {t} h) = absurd (I.unknown w t _ h)
  not_rel w a b (terms h) = I.makes w _ _ (neg (terms h))

  operator_rel :
      (w : M.World) (o : Op) (a b : Val M) (a' b' : Val N)
      → Values R w a a' → Values R w b b' → Acts R (Values R) w (combine M o a b) (combine N o a' b')
  unfolding combine
  operator_rel w o a b a' b' consts consts = give_rel _ _ consts
  operator_rel w o a b a' b' consts (terms k) = I.makes w _ _ (bin consts (terms k))
  operator_rel w o a b a' b' (terms h) consts = I.makes w _ _ (bin (terms h) consts)
  operator_rel w o a b a' b' (terms h) (terms k) = I.makes w _ _ (bin (terms h) (terms k))
  operator_rel w o a b a' b' consts (valued {t} k) = absurd (I.unknown w t _ k)
  operator_rel w o a b a' b' (terms h) (valued {t} k) = absurd (I.unknown w t _ k)
  operator_rel w o a b a' b' (valued {t} h) k = absurd (I.unknown w t _ h)

  pub alongside_laws : Laws R
  alongside_laws =
      record {
        terms-sort = I.sorts;
        valued-sort = λ w t c h. absurd (I.unknown w t c h);
        no-location = λ w t l h. I.unknown w t (location l) h;
        inputs = λ w k. I.makes w _ _ input;
        nots = not_rel;
        operators = operator_rel;
      }

-- in step: and as many terms count as made
pub record InStep {M N : Model} (R : Relation M N) : Type 0 where
  pub alongside : Alongside R
  pub counted : (w : M.World) (v : N.World) → R.Worlds w v → M.made w ≡ N.made v

module _ {M N : Model} {R : Relation M N} {w w' : M.World} (g : Grows R w w') where
  grow-condition : (c : Condition M.Term) (c' : Condition N.Term) → Conditions R w c c' → Conditions R w' c c'
  grow-condition c c' (condition {t} {u} h) = condition (g.keeps t u h)

  grow-conditions :
      {cs : List (Condition M.Term)} {cs' : List (Condition N.Term)} → Each (Conditions R w) cs cs'
      → Each (Conditions R w') cs cs'
  grow-conditions {cs} {cs'} = each_map grow-condition cs cs'

  grow-end : {e : End M.Term} {e' : End N.Term} → Ends R w e e' → Ends R w' e e'
  grow-end (Relation.returned v) = Relation.returned (grow-value g _ _ v)
  grow-end (Relation.failed v) = Relation.failed (grow-value g _ _ v)
  grow-end Relation.vanished = Relation.vanished
  grow-end Relation.error = Relation.error

  grow-outcome : {o : Outcome M.Term} {o' : Outcome N.Term} → Outcomes R w o o' → Outcomes R w' o o'
  grow-outcome (ended e) = ended (grow-end e)
  grow-outcome cut = cut

  grow-path : (q : Path M.Term) (q' : Path N.Term) → Paths R w q q' → Paths R w' q q'
  grow-path q q' (path s cs) = path (grow-state g s) (grow-conditions cs)

  grow-row : (r : Row M.Term) (r' : Row N.Term) → RowsOf R w r r' → RowsOf R w' r r'
  grow-row r r' (row n o q) = row n (grow-outcome o) (grow-path _ _ q)

module _ {M N : Model} (R : Relation M N) {w : M.World} where
  cut_rel : (why : Reason) (q : Path M.Term) (q' : Path N.Term) → Paths R w q q' → RowsOf R w (cut_for why q) (cut_for why q')
  unfolding cut_for
  cut_rel why q q' (path {n} s cs) = row n cut (path s cs)

  pub cuts_rel :
      (why : Reason) {qs : List (Path M.Term)} {qs' : List (Path N.Term)}
      → Each (Paths R w) qs qs' → Each (RowsOf R w) (map (cut_for why) qs) (map (cut_for why) qs')
  cuts_rel why nil = nil
  cuts_rel why (cons q qs) = cons (cut_rel why _ _ q) (cuts_rel why qs)

  branched_rel :
      {t : M.Term} {u : N.Term} (b : Bool) {s : State M.Term} {s' : State N.Term} {q : Path M.Term} {q' : Path N.Term}
      → R.Terms w t u → States R w s s' → Paths R w q q' → Paths R w (branched t b s q) (branched u b s' q')
  unfolding branched
  branched_rel b h s (path s₀ cs) = path s (each_append cs (cons (condition h) nil))

  finish_rel :
      {v : N.World} {rs : List (Row M.Term)} {rs' : List (Row N.Term)} {r : Row M.Term} {r' : Row N.Term}
      {qs : List (Path M.Term)} {qs' : List (Path N.Term)}
      → R.Worlds w v → Each (RowsOf R w) rs rs' → RowsOf R w r r' → Each (Paths R w) qs qs'
      → Explorings R (waiting_on qs (finish w rs r)) (waiting_on qs' (finish v rs' r'))
  unfolding waiting_on finish
  finish_rel {qs} {qs'} k rs r ps =
      either_of (λ x y. Explorings R (waiting_on qs x) (waiting_on qs' y)) (ap (leb 64) (each-length rs))
      stopped (exploring k (each_append rs (cons r nil)) ps)

  turn_rel :
      {v : N.World} {rs : List (Row M.Term)} {rs' : List (Row N.Term)} {x : Turn M.Term} {x' : Turn N.Term}
      {qs : List (Path M.Term)} {qs' : List (Path N.Term)}
      → R.Worlds w v → Each (RowsOf R w) rs rs' → Turns R w x x' → Each (Paths R w) qs qs'
      → Explorings R (on_turn w rs qs x) (on_turn v rs' qs' x')
  unfolding on_turn
  turn_rel k rs (finishes r) ps = finish_rel k rs r ps
  turn_rel k rs (goes q) ps = exploring k rs (cons q ps)
  turn_rel k rs (forks a b) ps = exploring k rs (cons a (cons b ps))

module _ {M N : Model} {R : Relation M N} (I : InStep R) (p : Program) where
  turned_rel :
      (most : ℕ) (w : M.World) {q : Path M.Term} {q' : Path N.Term} {x : Next M.Term} {x' : Next N.Term}
      → Paths R w q q' → Nexts R w x x' → Turns R w (turned most q x) (turned most q' x')
  unfolding turned stepped
  turned_rel most w (path s cs) (Relation.goes h) = goes (path h cs)
  turned_rel most w (path s cs) (Relation.stops h) = finishes (row _ (ended h) (path s cs))
  turned_rel most w (path s cs) (Relation.forks h a b) =
      either_of (Turns R w) (ap (leb most) (each-length cs)) (finishes (cut_rel R Rows.branches _ _ (path s cs)))
      (forks (branched_rel R _ h a (path s cs)) (branched_rel R _ h b (path s cs)))
  turned_rel most w q (Relation.is_true {t} h a) = absurd (I.alongside.unknown w t _ h)
  turned_rel most w q (Relation.is_false {t} h a) = absurd (I.alongside.unknown w t _ h)

  after_move_rel :
      (most : ℕ) {w : M.World} {m : Moved M} {m' : Moved N} {rs : List (Row M.Term)} {rs' : List (Row N.Term)}
      {q : Path M.Term} {q' : Path N.Term} {qs : List (Path M.Term)} {qs' : List (Path N.Term)}
      → Moves R w m m' → Each (RowsOf R w) rs rs' → Paths R w q q' → Each (Paths R w) qs qs'
      → Explorings R (after_move M p most rs q qs m) (after_move N p most rs' q' qs' m')
  unfolding after_move overfull turn_in
  after_move_rel most {m} {m'} h rs q qs =
      let g = h.grows in
      either_of (Explorings R) (ap (ltb 2048) (I.counted m.world m'.world h.worlds)) stopped
      (turn_rel R h.worlds (each_map (grow-row g) _ _ rs) (turned_rel most m.world (grow-path g _ _ q) h.nexts) (each_map (grow-path g) _ _ qs))

  pub advance_rel :
      (budget most : ℕ) {x : Exploring M.World M.Term} {y : Exploring N.World N.Term}
      → Explorings R x y → Explorings R (advance M p budget most x) (advance N p budget most y)
  unfolding advance
  advance_rel budget most stopped = stopped
  advance_rel budget most (exploring k rs nil) = exploring k rs nil
  advance_rel budget most (exploring {w} {v} k rs (cons (path {n} {s} {s'} h cs) qs)) =
      either (Explorings R) (leb budget n)
      (finish_rel R k rs (cut_rel R Rows.steps _ _ (path h cs)) qs)
      (after_move_rel most (move_rel (alongside_laws I.alongside) p w v s s' k h) rs (path h cs) qs)

  -- after every command
  pub commands_rel :
      (budget most : ℕ) (w : M.World) (v : N.World) → R.Worlds w v
      → (n : ℕ) → Explorings R (after_commands M p budget most w n) (after_commands N p budget most v n)
  unfolding after_commands begin
  commands_rel budget most w v k zero = exploring k nil (cons (path (start_rel p) nil) nil)
  commands_rel budget most w v k (suc n) = advance_rel budget most (commands_rel budget most w v k n)
