-- A path has at most 32 cells, since a 33rd is error 7: from a state with no more, every command comes to states with no more. Over any
-- model of terms. Assumes nothing.
use Rattle.std.specs.Prelude.{ℕ, ◌≤◌, Bool, ◌≡◌, ltb, leb}
use Rattle.std.proofs.Math.Bool.{true, false}
use Rattle.std.proofs.Math.Path.{refl}
use mathlib.Core.List.{List, [], ◌∷◌}
use Rattle.std.proofs.Common.{arith, leb-true}
use Rattle.std.proofs.Math.ListN.{length}
use Rattle.gil.specs.Numbers.{most_frames, most_inputs, most_locations, most_cells, wrong_sort, ninth_frame, seventeenth_input, seventeenth_location}
use Rattle.gil.specs.Tree.{Cmd, assign, ifgoto, call, lookup, mutate, dispose, u_sym, i_sym, return, fail, vanish}
use Rattle.gil.specs.Names.{Program}
use Rattle.gil.specs.Values.{const, term, number, boolean, location, same_sort, booleans}
use Rattle.gil.specs.Values as Values
use Rattle.gil.specs.Machine.{Model, Val, Caller, Memory, Answer, State, End, Next, on, ends, fork, Result, ok, err, and_then, ◌>>=◌, ◌>>◌, give, stop, must, there, making, eval, the_location, jump, exec, settled, move, command_at, frames, steer, goto, onward, assigned, with_memory, answered, opened, closed, returns_to, counting, with_cells, cell_at, put_cell, without_cells, looked_up, written, dropped, fresh_location, fresh_input}
use Rattle.machine_cells.specs.Laws.InUse.{without_fewer}

module _ {T : Type 0} where
  abbrev pub FewMemory : Memory T → Type 0
  FewMemory m = length m.cells ≤ most_cells

  abbrev FewAnswer : Answer T → Type 0
  FewAnswer a = FewMemory a.memory

  pub data FewNext : Next T → Type 0 where
    few_on : {s : State T} → FewMemory s.memory → FewNext (on s)
    few_end : {e : End T} → FewNext (ends e)
    few_fork : {t : T} {a b : State T} → FewMemory a.memory → FewMemory b.memory → FewNext (fork t a b)

-- what an action comes to: an answer with few cells, or an error
module _ {W A : Type 0} (P : A → Type 0) where
  data FewResult : Result W A → Type 0 where
    few_ok : {w : W} {a : A} → P a → FewResult (ok w a)
    few_err : {w : W} {n : ℕ} → FewResult (err w n)

module _ {W A : Type 0} {P : A → Type 0} where
  must-few : (b : Bool) (n : ℕ) (m : W → Result W A) (w : W) → (b ≡ true → FewResult P (m w)) → FewResult P ((must b n >> m) w)
  unfolding must give stop and_then ◌>>◌
  must-few true n m w h = h refl
  must-few false n m w h = few_err

module _ {W A B : Type 0} {P : B → Type 0} where
  then-few : (r : Result W A) (f : A → W → Result W B) → ((a : A) (w : W) → FewResult P (f a w)) → FewResult P (and_then r f)
  unfolding and_then
  then-few (ok w a) f h = h a w
  then-few (err w n) f h = few_err

-- the actions on the memory
module _ (M : Model) (m : Memory M.Term) (few : FewMemory m) where
  looked_up-few : (l q : ℕ) (w : M.World) → FewResult FewAnswer (looked_up M l q m w)
  unfolding looked_up ◌>>=◌ give
  looked_up-few l q w = then-few (there (cell_at l q m.cells) 3 w) _ (λ v w. few_ok few)

  written-few : (l q : ℕ) (v : Val M) (w : M.World) → FewResult FewAnswer (written M l q v m w)
  unfolding written give with_cells
  written-few l q v w =
      must-few (leb (length (put_cell l q v m.cells)) most_cells) 7 _ w (λ e. few_ok (leb-true (length (put_cell l q v m.cells)) most_cells e))

  dropped-few : (l : ℕ) (w : M.World) → FewResult FewAnswer (dropped M l m w)
  unfolding dropped give with_cells
  dropped-few l w = let fewer : length (without_cells l m.cells) ≤ most_cells = omega (arith, without_fewer l m.cells) in few_ok fewer

  fresh_location-few : (j : ℕ) (w : M.World) → FewResult FewAnswer (fresh_location M j m w)
  unfolding fresh_location give counting
  fresh_location-few j w = must-few (ltb m.counters.locations most_locations) seventeenth_location _ w (λ e. few_ok few)

  fresh_input-few : (j : ℕ) (w : M.World) → FewResult FewAnswer (fresh_input M j m w)
  unfolding fresh_input ◌>>=◌ give counting
  fresh_input-few j w =
      must-few (ltb m.counters.inputs most_inputs) seventeenth_input _ w
      (λ e. then-few (making M (Values.input m.counters.inputs) w) _ (λ v w. few_ok few))

module _ (M : Model) (p : Program) (s : State M.Term) (few : FewMemory s.memory) where
  jump-few : (n : ℕ) (a : Val M) (w : M.World) → FewResult FewNext (jump M n s a w)
  unfolding jump stop give steer
  jump-few n (const (number k)) w = few_err
  jump-few n (const (boolean true)) w = few_ok (few_on few)
  jump-few n (const (boolean false)) w = few_ok (few_on few)
  jump-few n (const (location l)) w = few_err
  jump-few n (term t) w =
      must-few (same_sort booleans (M.sort t)) wrong_sort (give (fork t (steer (goto n) s) (steer onward s))) w (λ e. few_ok (few_fork few few))

  returns-few : (ks : List Caller) (v : Val M) (w : M.World) → FewResult FewNext (give (returns_to ks v s) w)
  unfolding give returns_to closed
  returns-few [] v w = few_ok few_end
  returns-few (k ∷ ks) v w = few_ok (few_on few)

  answered-few : {r : Result M.World (Answer M.Term)} (x : ℕ) → FewResult FewAnswer r
      → FewResult FewNext (and_then r (λ a. give (on (answered x a s))))
  unfolding and_then give answered assigned with_memory
  answered-few x (few_ok h) = few_ok (few_on h)
  answered-few x few_err = few_err

  exec-few : (c : Cmd ℕ) (w : M.World) → FewResult FewNext (exec M p s c w)
  unfolding exec ◌>>=◌ give assigned opened steer
  exec-few (assign x e) w = then-few (eval M s.variables e w) _ (λ v w. few_ok (few_on few))
  exec-few (ifgoto e n) w = then-few (eval M s.variables e w) _ (λ v w. jump-few n v w)
  exec-few (call x f e) w =
      then-few (eval M s.variables e w) _ (λ v w. must-few (ltb (frames s.control) most_frames) ninth_frame _ w (λ e. few_ok (few_on few)))
  exec-few (lookup x e q) w =
      then-few (eval M s.variables e w) _
      (λ v w. then-few (the_location M v w) _ (λ l w. answered-few x (looked_up-few M s.memory few l q w)))
  exec-few (mutate x e q d) w =
      then-few (eval M s.variables e w) _
      (λ v w.
      then-few (eval M s.variables d w) _
      (λ u w. then-few (the_location M v w) _ (λ l w. answered-few x (written-few M s.memory few l q u w))))
  exec-few (dispose x e) w =
      then-few (eval M s.variables e w) _
      (λ v w. then-few (the_location M v w) _ (λ l w. answered-few x (dropped-few M s.memory few l w)))
  exec-few (u_sym x j) w = answered-few x (fresh_location-few M s.memory few j w)
  exec-few (i_sym x j) w = answered-few x (fresh_input-few M s.memory few j w)
  exec-few (return e) w = then-few (eval M s.variables e w) _ (λ v w. returns-few s.control.callers v w)
  exec-few (fail e) w = then-few (eval M s.variables e w) _ (λ v w. few_ok few_end)
  exec-few vanish w = few_ok few_end

  settled-few : {r : Result M.World (Next M.Term)} → FewResult FewNext r → FewNext (settled M r).next
  unfolding settled
  settled-few (few_ok h) = h
  settled-few few_err = few_end

  pub move-few : (w : M.World) → FewNext (move M p w s).next
  unfolding move
  move-few w = settled-few (exec-few (command_at p s.control) w)
