-- A command makes at most 511 terms: two expressions at most eight deep make at most 255 each. So where the pool is not overfull before a
-- command, the count of terms after it is exact in 32 bits. Assumes nothing.
use Rattle.std.specs.Prelude.{ℕ, zero, suc, ◌+◌, ◌≤◌, Bool, true, false, refl, ◌≡◌, [], ◌∷◌, length, get_or, ltb, leb}
use Rattle.std.proofs.Math.Option.{Option, none, some}
use Rattle.std.proofs.Common.{ap, arith, length-append}
use Rattle.gil.specs.Numbers.{most_frames, most_inputs, most_locations, most_cells, wrong_sort, no_such_cell, ninth_frame, seventeenth_input, seventeenth_location}
use Rattle.gil.specs.Tree.{Op, Expr, Cmd}
use Rattle.gil.specs.Names.{Program}
use Rattle.gil.specs.Values.{Value, const, term, number, boolean, location, Fit, right, wrong, unlike, fit, Node, same_sort, booleans}
use Rattle.gil.specs.Values as Values
use Rattle.gil.specs.Machine.{Model, Store, State, Next, move, settled, exec, eval, operate, fitted, combine, negate, negated, making, the_location, jump, must, there, give, stop, and_then, ◌>>=◌, ◌>>◌, Result, ok, err, command_at, sort_in, cell_at, put_cell, frames, steer, goto, onward, fork, Memory, looked_up, written, dropped, fresh_location, fresh_input}
use Rattle.gil.specs.Pool.{pooled, added}
use Rattle.machine_code.specs.WellFormed.{ExprFits, a_number, a_truth, a_variable, a_not, an_operator, CmdFits, an_assign, a_jump, a_call, a_lookup, a_mutate, a_dispose, a_u_sym, an_i_sym, a_return, a_fail, a_vanish}

-- how many terms an expression at most so deep can make
most : ℕ → ℕ
most zero = 0
most (suc d) = suc (most d + most d)

pub world_of : {W A : Type 0} → Result W A → W
world_of (ok w a) = w
world_of (err w n) = w

-- for a model in which making a term makes at most one
module _ (M : Model) (grows : (w : M.World) (n : Node M.Term) → M.made (M.make w n).0 ≤ suc (M.made w)) where
  -- the world after an action has at most so many terms
  abbrev Within : {A : Type 0} → Result M.World A → ℕ → Type 0
  Within r n = M.made (world_of r) ≤ n

  then-within : {A B : Type 0} (r : Result M.World A) (f : A → M.World → Result M.World B) (n m : ℕ) → n ≤ m → Within r n
      → ((a : A) (w : M.World) → M.made w ≤ n → Within (f a w) m)
      → Within (and_then r f) m
  unfolding and_then world_of
  then-within (ok w a) f n m h few k = k a w few
  then-within (err w e) f n m h few k = omega arith

  must-within : {B : Type 0} (b : Bool) (e : ℕ) (f : M.World → Result M.World B) (w : M.World) (n : ℕ) → M.made w ≤ n → Within (f w) n
      → Within ((must b e >> f) w) n
  unfolding must give stop and_then ◌>>◌ world_of
  must-within true e f w n few h = h
  must-within false e f w n few h = few

  there-within : {A : Type 0} (o : Option A) (e : ℕ) (w : M.World) (n : ℕ) → M.made w ≤ n → Within (there o e w) n
  unfolding there give stop world_of
  there-within none e w n few = few
  there-within (some a) e w n few = few

  made-within : (node : Node M.Term) (w : M.World) (n : ℕ) → M.made w ≤ n → Within (making M node w) (suc n)
  unfolding making world_of
  made-within node w n few = omega (arith, grows w node)

  combine-within : (o : Op) (a b : Value M.Term) (w : M.World) (n : ℕ) → M.made w ≤ n → Within (combine M o a b w) (suc n)
  unfolding combine give world_of
  combine-within o (const a) (const b) w n few = omega arith
  combine-within o (const a) (term u) w n few = made-within (Values.bin o (const a) (term u)) w n few
  combine-within o (term t) (const b) w n few = made-within (Values.bin o (term t) (const b)) w n few
  combine-within o (term t) (term u) w n few = made-within (Values.bin o (term t) (term u)) w n few

  fitted-within : (f : Fit) (o : Op) (a b : Value M.Term) (w : M.World) (n : ℕ) → M.made w ≤ n → Within (fitted M f o a b w) (suc n)
  unfolding fitted stop give world_of
  fitted-within right o a b w n few = combine-within o a b w n few
  fitted-within wrong o a b w n few = omega arith
  fitted-within unlike o a b w n few = omega arith

  negated-within : (a : Value M.Term) (w : M.World) (n : ℕ) → M.made w ≤ n → Within (negated M a w) (suc n)
  unfolding negated give world_of
  negated-within (const c) w n few = omega arith
  negated-within (term t) w n few = made-within (Values.neg (term t)) w n few

  -- expressions
  eval-within : {variables d : ℕ} {e : Expr ℕ} → ExprFits variables d e → (ρ : Store M.Term) (w : M.World) (n : ℕ) → M.made w ≤ n
      → Within (eval M ρ e w) (n + most d)
  unfolding eval give ◌>>=◌ world_of most operate negate
  eval-within (a_number h) ρ w n few = omega arith
  eval-within a_truth ρ w n few = omega arith
  eval-within (a_variable {d} {x} h) ρ w n few = there-within (get_or ρ x none) 1 w (n + suc (most d + most d)) (omega arith)
  eval-within (a_not {d} {e} h) ρ w n few =
      then-within (eval M ρ e w) (λ a. negate M a) (n + most d) (n + suc (most d + most d)) (omega arith)
      (eval-within h ρ w n few)
      (λ a w few.
      let k : suc (n + most d) ≤ n + suc (most d + most d) = omega arith in
      must-within (same_sort booleans (sort_in M a)) wrong_sort (negated M a) w (n + suc (most d + most d)) (omega arith)
      (omega (arith, negated-within a w (n + most d) few)))
  eval-within (an_operator {d} {o} {a = e} {b = e'} h k) ρ w n few =
      then-within (eval M ρ e w) (λ a. eval M ρ e' >>= (λ b. operate M o a b)) (n + most d) (n + suc (most d + most d)) (omega arith)
      (eval-within h ρ w n few)
      (λ a w few.
      then-within (eval M ρ e' w) (λ b. operate M o a b) (n + most d + most d) (n + suc (most d + most d)) (omega arith)
      (eval-within k ρ w (n + most d) few)
      (λ b w few. omega (arith, fitted-within (fit o (sort_in M a) (sort_in M b)) o a b w (n + most d + most d) few)))

  -- a command with one expression, of which the rest makes nothing
  operand-within : {variables : ℕ} {e : Expr ℕ} {B : Type 0} → ExprFits variables 8 e → (ρ : Store M.Term) (w : M.World) (n : ℕ)
      (f : Value M.Term → M.World → Result M.World B)
      → M.made w ≤ n
      → ((a : Value M.Term) (w : M.World) (n : ℕ) → M.made w ≤ n → Within (f a w) (n + 256))
      → Within ((eval M ρ e >>= f) w) (n + 511)
  unfolding ◌>>=◌ most
  operand-within {e = e} h ρ w n f few k =
      then-within (eval M ρ e w) f (n + 255) (n + 511) (omega arith) (eval-within h ρ w n few)
      (λ a w few. omega (arith, k a w (n + 255) few))

  location-within : {B : Type 0} (a : Value M.Term) (f : ℕ → M.World → Result M.World B) (w : M.World) (n : ℕ) → M.made w ≤ n
      → ((l : ℕ) → Within (f l w) n)
      → Within ((the_location M a >>= f) w) n
  unfolding the_location stop give and_then ◌>>=◌ world_of
  location-within (const (number k)) f w n few h = few
  location-within (const (boolean b)) f w n few h = few
  location-within (const (location l)) f w n few h = h l
  location-within (term t) f w n few h = few

  second-within : {variables : ℕ} {e : Expr ℕ} {B : Type 0} → ExprFits variables 8 e → (ρ : Store M.Term) (w : M.World) (n : ℕ)
      (f : Value M.Term → M.World → Result M.World B)
      → M.made w ≤ n
      → ((a : Value M.Term) (w : M.World) (n : ℕ) → M.made w ≤ n → Within (f a w) n)
      → Within ((eval M ρ e >>= f) w) (n + 256)
  unfolding ◌>>=◌ most
  second-within {e = e} h ρ w n f few k =
      then-within (eval M ρ e w) f (n + 255) (n + 256) (omega arith) (eval-within h ρ w n few)
      (λ a w few. omega (arith, k a w (n + 255) few))

  found_within : {A B : Type 0} (o : Option A) (e : ℕ) (f : A → M.World → Result M.World B) (w : M.World) (n : ℕ) → M.made w ≤ n
      → ((a : A) → Within (f a w) n)
      → Within ((there o e >>= f) w) n
  unfolding there stop give and_then ◌>>=◌ world_of
  found_within none e f w n few h = few
  found_within (some a) e f w n few h = h a

  -- the actions on the memory: one makes a term
  looked_up-within : (l q : ℕ) (m : Memory M.Term) (w : M.World) (n : ℕ) → M.made w ≤ n → Within (looked_up M l q m w) n
  unfolding looked_up give world_of
  looked_up-within l q m w n few = found_within (cell_at l q m.cells) no_such_cell _ w n few (λ v. few)

  written-within : (l q : ℕ) (v : Value M.Term) (m : Memory M.Term) (w : M.World) (n : ℕ) → M.made w ≤ n → Within (written M l q v m w) n
  unfolding written give world_of
  written-within l q v m w n few = must-within (leb (length (put_cell l q v m.cells)) most_cells) 7 _ w n few few

  dropped-within : (l : ℕ) (m : Memory M.Term) (w : M.World) (n : ℕ) → M.made w ≤ n → Within (dropped M l m w) n
  unfolding dropped give world_of
  dropped-within l m w n few = few

  fresh_location-within : (j : ℕ) (m : Memory M.Term) (w : M.World) (n : ℕ) → M.made w ≤ n → Within (fresh_location M j m w) n
  unfolding fresh_location give world_of
  fresh_location-within j m w n few = must-within (ltb m.counters.locations most_locations) seventeenth_location _ w n few few

  fresh_input-within : (j : ℕ) (m : Memory M.Term) (w : M.World) (n : ℕ) → M.made w ≤ n → Within (fresh_input M j m w) (suc n)
  unfolding fresh_input give ◌>>=◌ world_of
  fresh_input-within j m w n few =
      must-within (ltb m.counters.inputs most_inputs) seventeenth_input _ w (suc n) (omega arith)
      (then-within (making M (Values.input m.counters.inputs) w) _ (suc n) (suc n) (omega arith)
      (made-within (Values.input m.counters.inputs) w n few) (λ v w few. few))

  -- and its answer given
  answer-within : {A B : Type 0} (r : M.World → Result M.World A) (f : A → B) (w : M.World) (n : ℕ) → Within (r w) n
      → Within ((r >>= (λ a. give (f a))) w) n
  unfolding ◌>>=◌ give world_of
  answer-within r f w n few = then-within (r w) _ n n (omega arith) few (λ a w few. few)

  jump-within : (k : ℕ) (s : State M.Term) (a : Value M.Term) (w : M.World) (n : ℕ) → M.made w ≤ n → Within (jump M k s a w) n
  unfolding jump stop give world_of
  jump-within k s (const (number i)) w n few = few
  jump-within k s (const (boolean true)) w n few = few
  jump-within k s (const (boolean false)) w n few = few
  jump-within k s (const (location l)) w n few = few
  jump-within k s (term t) w n few =
      must-within (same_sort booleans (M.sort t)) wrong_sort (give (fork t (steer (goto k) s) (steer onward s))) w n few few

  exec-within : (p : Program) (s : State M.Term) {variables procedures : ℕ} {c : Cmd ℕ} → CmdFits variables procedures c
      → (w : M.World) (n : ℕ)
      → M.made w ≤ n
      → Within (exec M p s c w) (n + 511)
  unfolding exec give world_of
  exec-within p s (an_assign hx h) w n few = operand-within h s.variables w n _ few (λ a w n few. omega arith)
  exec-within p s (a_jump {n = k} h hk) w n few =
      operand-within h s.variables w n _ few (λ a w n few. jump-within k s a w (n + 256) (omega arith))
  exec-within p s (a_call hx hf h) w n few =
      operand-within h s.variables w n _ few
      (λ a w n few. must-within (ltb (frames s.control) most_frames) ninth_frame _ w (n + 256) (omega arith) (omega arith))
  exec-within p s (a_lookup {q = q} hx h hq) w n few =
      operand-within h s.variables w n _ few
      (λ a w n few.
      location-within a _ w (n + 256) (omega arith)
      (λ l. answer-within (looked_up M l q s.memory) _ w (n + 256) (looked_up-within l q s.memory w (n + 256) (omega arith))))
  exec-within p s (a_mutate {q = q} {e = e} {d = d} hx h hq k) w n few =
      operand-within h s.variables w n _ few
      (λ a w n few. second-within k s.variables w n _ few
      (λ b w n few.
      location-within a _ w n few
      (λ l. answer-within (written M l q b s.memory) _ w n (written-within l q b s.memory w n few))))
  exec-within p s (a_dispose hx h) w n few =
      operand-within h s.variables w n _ few
      (λ a w n few.
      location-within a _ w (n + 256) (omega arith)
      (λ l. answer-within (dropped M l s.memory) _ w (n + 256) (dropped-within l s.memory w (n + 256) (omega arith))))
  exec-within p s (a_u_sym {j = j} hx hj) w n few =
      answer-within (fresh_location M j s.memory) _ w (n + 511) (fresh_location-within j s.memory w (n + 511) (omega arith))
  exec-within p s (an_i_sym {j = j} hx hj) w n few =
      answer-within (fresh_input M j s.memory) _ w (n + 511) (omega (arith, fresh_input-within j s.memory w n few))
  exec-within p s (a_return h) w n few = operand-within h s.variables w n _ few (λ a w n few. omega arith)
  exec-within p s (a_fail h) w n few = operand-within h s.variables w n _ few (λ a w n few. omega arith)
  exec-within p s a_vanish w n few = omega arith

  settled-world : (r : Result M.World (Next M.Term)) → (settled M r).world ≡ world_of r
  unfolding settled world_of
  settled-world (ok w n) = refl
  settled-world (err w n) = refl

  pub move-grows : (p : Program) (w : M.World) (s : State M.Term) {variables procedures : ℕ}
      → CmdFits variables procedures (command_at p s.control)
      → M.made (move M p w s).world ≤ M.made w + 511
  unfolding move
  move-grows p w s fits =
      omega (arith, ap M.made (settled-world (exec M p s (command_at p s.control) w)), exec-within p s fits w (M.made w) (omega arith))

-- the pool's model makes one at a time
pooled-grows : (w : pooled.World) (n : Node pooled.Term) → pooled.made (pooled.make w n).0 ≤ suc (pooled.made w)
unfolding pooled added
pooled-grows w n = omega (arith, length-append w (n ∷ []))

pub pooled-moves : (p : Program) (w : pooled.World) (s : State pooled.Term) {variables procedures : ℕ}
    → CmdFits variables procedures (command_at p s.control)
    → pooled.made (move pooled p w s).world ≤ pooled.made w + 511
pooled-moves p w s fits = move-grows pooled pooled-grows p w s fits
