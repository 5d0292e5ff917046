-- The exploration ends, within 65 × (budget + 1) commands, and what it then comes to is the table: one command at a time and depth first
-- are the same. Over any model. Assumes nothing.
use Prim.Native.Nat.{ℕ, zero, suc, ◌+◌, ◌-◌, ◌*◌, ◌≤◌, ◌<◌}
use Rattle.std.specs.Prelude.{◌≡◌, leb}
use Rattle.std.proofs.Math.Path.{refl, sym, ap, subst}
use Rattle.std.proofs.Common.{◌∙◌, leb-true, leb-false}
use mathlib.Core.List.{List, [], ◌∷◌, ◌++◌}
use Rattle.std.proofs.Math.ListN.{length, length-append}
use native.Mathlib.Omega.{arith}
use Rattle.std.proofs.Math.Nat.{suc-mul}
use Rattle.gil.specs.Names.{Program}
use Rattle.gil.specs.Machine.{Model, Next, on, ends, fork, Moved, move}
use Rattle.gil.specs.Rows.{Path, Row, cut_for, steps}
use Rattle.gil.specs.Explore.{stepped, branched, turned, Explored, refused, explored, Exploring, stopped, exploring, finish, waiting_on, on_turn, walk_turn, overfull, turn_in, after_move, advance, begin, after_commands, walk_move, walk, explore}
use Rattle.gil.proofs.Theory.Tests.{either, chosen}

module _ (M : Model) (p : Program) (budget most : ℕ) where
  -- what the waiting branches come to, depth first
  walk_all : List (Path M.Term) → Explored M.World M.Term → Explored M.World M.Term
  walk_all [] e = e
  walk_all (q ∷ qs) e = walk_all qs (walk M p most (budget - q.steps) q e)

  rest : Exploring M.World M.Term → Explored M.World M.Term
  rest (stopped n) = refused n
  rest (exploring w rows qs) = walk_all qs (explored w rows)

  walk_refused : (k : ℕ) (q : Path M.Term) (n : ℕ) → walk M p most k q (refused n) ≡ refused n
  unfolding walk
  walk_refused zero q n = refl
  walk_refused (suc k) q n = refl

  all-refused : (qs : List (Path M.Term)) (n : ℕ) → walk_all qs (refused n) ≡ refused n
  unfolding walk_all
  all-refused [] n = refl
  all-refused (q ∷ qs) n = ap (walk_all qs) (walk_refused (budget - q.steps) q n) ∙ all-refused qs n

  rest_waiting : (qs : List (Path M.Term)) (e : Explored M.World M.Term) → rest (waiting_on qs e) ≡ walk_all qs e
  unfolding rest waiting_on
  rest_waiting qs (refused n) = sym (all-refused qs n)
  rest_waiting qs (explored w rows) = refl

  rest-turn :
      (w : M.World) (rows : List (Row M.Term)) (qs : List (Path M.Term)) (q : Path M.Term) (x : Next M.Term)
      → rest (on_turn w rows qs (turned most q x)) ≡ walk_all qs (walk_turn (walk M p most (budget - suc q.steps)) w rows (turned most q x))
  unfolding on_turn walk_turn turned rest walk_all stepped branched
  rest-turn w rows qs q (on s) = refl
  rest-turn w rows qs q (ends e) = rest_waiting qs (finish w rows _)
  rest-turn w rows qs q (fork t a b) =
      either (λ x y. rest (on_turn w rows qs x) ≡ walk_all qs (walk_turn (walk M p most (budget - suc q.steps)) w rows y))
      (leb most (length q.conditions))
      (rest_waiting qs (finish w rows _)) refl

  rest-cut :
      (w : M.World) (rows : List (Row M.Term)) (qs : List (Path M.Term)) (q : Path M.Term) → budget ≤ q.steps
      → rest (waiting_on qs (finish w rows (cut_for steps q))) ≡ walk_all qs (walk M p most (budget - q.steps) q (explored w rows))
  unfolding walk
  rest-cut w rows qs q h =
      let e : 0 ≡ budget - q.steps = omega arith in
      rest_waiting qs (finish w rows (cut_for steps q)) ∙ ap (λ (k : ℕ). walk_all qs (walk M p most k q (explored w rows))) e

  rest-move :
      (w : M.World) (rows : List (Row M.Term)) (qs : List (Path M.Term)) (q : Path M.Term) → q.steps < budget
      → rest (after_move M p most rows q qs (move M p w q.state)) ≡ walk_all qs (walk M p most (budget - q.steps) q (explored w rows))
  unfolding walk walk_move after_move turn_in rest
  rest-move w rows qs q h =
      let m = move M p w q.state in
      let e : suc (budget - suc q.steps) ≡ budget - q.steps = omega arith in
      either (λ x y. rest x ≡ walk_all qs y) (overfull M p m.world) (sym (all-refused qs 10)) (rest-turn m.world rows qs q m.next)
      ∙ ap (λ (k : ℕ). walk_all qs (walk M p most k q (explored w rows))) e

  -- a command does not change what the exploration will come to
  rest-advance : (x : Exploring M.World M.Term) → rest (advance M p budget most x) ≡ rest x
  unfolding advance rest walk_all
  rest-advance (stopped n) = refl
  rest-advance (exploring w rows []) = refl
  rest-advance (exploring w rows (q ∷ qs)) =
      chosen (λ x. rest x ≡ walk_all qs (walk M p most (budget - q.steps) q (explored w rows))) (leb budget q.steps)
      (λ e. rest-cut w rows qs q (leb-true _ _ e))
      (λ e. rest-move w rows qs q (leb-false _ _ e))

  rest-commands : (w : M.World) (n : ℕ) → rest (after_commands M p budget most w n) ≡ explore M p budget most w
  unfolding after_commands rest walk_all begin explore
  rest-commands w zero = let e : budget - 0 ≡ budget = omega arith in ap (λ (k : ℕ). walk M p most k (begin M p) (explored w [])) e
  rest-commands w (suc n) = rest-advance (after_commands M p budget most w n) ∙ rest-commands w n

  -- the most commands that are left: for the branch at hand what its steps allow and one to cut it; for each further row as many as a
  -- whole path takes
  left : Exploring M.World M.Term → ℕ
  left (stopped n) = 0
  left (exploring w rows []) = 0
  left (exploring w rows (q ∷ qs)) = suc (budget - q.steps) + (64 - length rows) * suc budget

  -- a row more leaves a whole path's commands less
  row-left :
      (w : M.World) (rows : List (Row M.Term)) (r : Row M.Term) (qs : List (Path M.Term)) (k : ℕ) → length rows < 64
      → left (exploring w (rows ++ (r ∷ [])) qs) ≤ k + (64 - length rows) * suc budget
  unfolding left
  row-left w rows r [] k h = omega arith
  row-left w rows r (q ∷ qs) k h =
      let d : length (rows ++ (r ∷ [])) ≡ length rows + 1 = length-append rows (r ∷ []) in
      let e : 64 - length rows ≡ suc (64 - length (rows ++ (r ∷ []))) = omega arith in
      let f : (64 - length rows) * suc budget ≡ (64 - length (rows ++ (r ∷ []))) * suc budget + suc budget =
      ap (λ (i : ℕ). i * suc budget) e ∙ suc-mul (64 - length (rows ++ (r ∷ []))) (suc budget) in
      omega arith

  finish-left :
      (w : M.World) (rows : List (Row M.Term)) (qs : List (Path M.Term)) (r : Row M.Term) (k : ℕ)
      → left (waiting_on qs (finish w rows r)) ≤ k + (64 - length rows) * suc budget
  unfolding finish waiting_on left
  finish-left w rows qs r k =
      let none : 0 ≤ k + (64 - length rows) * suc budget = omega arith in
      chosen (λ x. left (waiting_on qs x) ≤ k + (64 - length rows) * suc budget) (leb 64 (length rows))
      (λ e. none)
      (λ e. row-left w rows r qs k (leb-false _ _ e))

  turn-left :
      (w : M.World) (rows : List (Row M.Term)) (qs : List (Path M.Term)) (q : Path M.Term) (x : Next M.Term) → q.steps < budget
      → left (on_turn w rows qs (turned most q x)) ≤ budget - q.steps + (64 - length rows) * suc budget
  unfolding on_turn turned left stepped branched
  turn-left w rows qs q (on s) h = omega arith
  turn-left w rows qs q (ends e) h = finish-left w rows qs _ (budget - q.steps)
  turn-left w rows qs q (fork t a b) h =
      let less : suc (budget - suc q.steps) + (64 - length rows) * suc budget ≤ budget - q.steps + (64 - length rows) * suc budget =
      omega arith in
      chosen (λ x. left (on_turn w rows qs x) ≤ budget - q.steps + (64 - length rows) * suc budget) (leb most (length q.conditions))
      (λ e. finish-left w rows qs _ (budget - q.steps))
      (λ e. less)

  move-left :
      (rows : List (Row M.Term)) (qs : List (Path M.Term)) (q : Path M.Term) (m : Moved M) → q.steps < budget
      → left (after_move M p most rows q qs m) ≤ budget - q.steps + (64 - length rows) * suc budget
  unfolding after_move left turn_in
  move-left rows qs q m h =
      let none : 0 ≤ budget - q.steps + (64 - length rows) * suc budget = omega arith in
      chosen (λ x. left x ≤ budget - q.steps + (64 - length rows) * suc budget) (overfull M p m.world)
      (λ e. none)
      (λ e. turn-left m.world rows qs q m.next h)

  advance-left : (x : Exploring M.World M.Term) → left (advance M p budget most x) ≤ left x - 1
  unfolding advance left
  advance-left (stopped n) = omega arith
  advance-left (exploring w rows []) = omega arith
  advance-left (exploring w rows (q ∷ qs)) =
      let e : budget - q.steps + (64 - length rows) * suc budget ≡ suc (budget - q.steps) + (64 - length rows) * suc budget - 1 = omega arith in
      subst (λ (k : ℕ). left (advance M p budget most (exploring w rows (q ∷ qs))) ≤ k) e
      (chosen (λ x. left x ≤ budget - q.steps + (64 - length rows) * suc budget) (leb budget q.steps)
      (λ e. finish-left w rows qs _ (budget - q.steps))
      (λ e. move-left rows qs q (move M p w q.state) (leb-false _ _ e)))

  commands-left : (w : M.World) (n : ℕ) → left (after_commands M p budget most w n) ≤ 65 * suc budget - n
  unfolding after_commands left begin
  commands-left w zero = omega arith
  commands-left w (suc n) =
      let x = after_commands M p budget most w n in
      let ih : left x ≤ 65 * suc budget - n = commands-left w n in
      let h : left (advance M p budget most x) ≤ left x - 1 = advance-left x in
      omega arith

  none_left : (x : Exploring M.World M.Term) → left x ≤ 0 → x ≡ waiting_on [] (rest x)
  unfolding left rest walk_all waiting_on
  none_left (stopped n) h = refl
  none_left (exploring w rows []) h = refl
  none_left (exploring w rows (q ∷ qs)) h = absurd (omega arith)

  -- it ends, and comes to the table
  pub ends_in :
      (w : M.World) (n : ℕ) → 65 * suc budget ≤ n → after_commands M p budget most w n ≡ waiting_on [] (explore M p budget most w)
  ends_in w n h =
      let k : left (after_commands M p budget most w n) ≤ 65 * suc budget - n = commands-left w n in
      let none : left (after_commands M p budget most w n) ≤ 0 = omega arith in
      none_left (after_commands M p budget most w n) none ∙ ap (waiting_on []) (rest-commands w n)
