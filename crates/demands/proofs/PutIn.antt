-- A sound row's words, with inputs put in, are the words of the row with the inputs put in: what is read from the bytes is what demand 3
-- says of the definitions. Assumes nothing.
use Prim.Native.Nat.{ℕ, zero, suc, ◌+◌, ◌*◌, ◌-◌, ◌/◌, ◌%◌, ◌<◌}
use Rattle.std.proofs.Common.{arith, ◌∙◌, drop-drop}
use Rattle.std.specs.Prelude.{◌≡◌, true, false, drop, eqb}
use Rattle.std.proofs.Math.Path.{refl, sym, ap, ap₂}
use mathlib.Core.List.{List, [], ◌∷◌, ◌++◌, map, append_assoc}
use Rattle.std.proofs.Math.Option.{Option, none, some}
use Rattle.std.proofs.Math.ListN.{length, replicate}
use Rattle.std.proofs.lemmas.List.{length-map}
use Rattle.gil.specs.Names.{gather}
use Rattle.gil.specs.Values.{Constant, Value, const}
use Rattle.gil.specs.Machine.{Cell, returned, failed, vanished, error}
use Rattle.gil.specs.Rows.{steps, branches, Outcome, ended, cut, Row}
use Rattle.gil.specs.Pool.{Ref, number_term, boolean_term, place_in, Pool, value_of}
use Rattle.gil.specs.Accounts as Accounts
use Rattle.gil.specs.Numbers.{as_returned, as_failed, as_cut, head_room, conditions_room, variables_room, cells_room}
use Rattle.gil.specs.Layout.{word_bytes, row_bytes, answer_bytes, room, parts_words, bit, constant_words, value_words, variable_words, cell_words, end_words, outcome_words, head_words, row_parts, row_words, reason_code, ref_tag, no_number}
use Rattle.gil.proofs.Theory.Gathered.{gather_append, length-gather-each}
use Rattle.machine_code.specs.WellFormed as WellFormed
use Rattle.machine_code.specs.WellFormed.{Each}
use Rattle.machine_values.specs.Mirror.{truth_word}
use Rattle.lent_words.specs.Mirror.{word_at}
use Rattle.lent_words.specs.Laws.Reads.{word_at-bytes}
use Rattle.lent_words.specs.Laws.Rooms.{length-words}
use Rattle.lent_words.specs.Laws.Parts as parts
use Rattle.lent_words.specs.Laws.Parts.{Change, change, changed, parts-changed}
use Rattle.lent_words.specs.Laws.Row.{variable_two, cell_four, outcome-three, head-fits, conditions-fit, variables-fit, cells_fit}
use Rattle.machine_values.specs.Laws.{ConstAs, a_number, a_truth, a_location}
use Rattle.table_locate.specs.Laws.Sound.{ValueFits, fits_number, fits_truth, fits_location, fits_term, VariableFits, unbound, bound, CellFits, fits_returned, fits_failed, fits_vanished, fits_error, OutcomeFits, fits_ended, fits_cut, RowFits}
use Rattle.table_locate.proofs.Laws.Terms.{ValuesAs, tag_of, word_of, two_words}
use Rattle.table_locate.proofs.Laws.Rows.{within}
use Rattle.demands.specs.FromBytes.{put_tag, put_word, put_variables, put_cells, put_outcome, put_head, put_row}

-- a constant's two words, from its packed value
packed-words : {c : Constant} {x : ℕ} → ConstAs c x → constant_words c ≡ x / 4294967296 ∷ x % 4294967296 ∷ []
unfolding constant_words truth_word bit
packed-words (a_number {n} h) =
    let t : 1 ≡ (4294967296 + n) / 4294967296 = omega arith in
    let w : n ≡ (4294967296 + n) % 4294967296 = omega arith in
    ap₂ (λ (a b : ℕ). a ∷ b ∷ []) t w
packed-words (a_truth {b = true}) = refl
packed-words (a_truth {b = false}) = refl
packed-words (a_location {l} h) =
    let t : 3 ≡ (12884901888 + l) / 4294967296 = omega arith in
    let w : l ≡ (12884901888 + l) % 4294967296 = omega arith in
    ap₂ (λ (a b : ℕ). a ∷ b ∷ []) t w

-- zeros are left as they are
variables-zeros : (values : List ℕ) (n : ℕ) → put_variables values (replicate n 0) ≡ replicate n 0
unfolding put_variables put_tag put_word
variables-zeros values zero = refl
variables-zeros values (suc zero) = refl
variables-zeros values (suc (suc n)) = ap (λ (l : List ℕ). 0 ∷ 0 ∷ l) (variables-zeros values n)

cells-zeros : (values : List ℕ) (n : ℕ) → put_cells values (replicate n 0) ≡ replicate n 0
unfolding put_cells put_tag put_word
cells-zeros values zero = refl
cells-zeros values (suc zero) = refl
cells-zeros values (suc (suc zero)) = refl
cells-zeros values (suc (suc (suc zero))) = refl
cells-zeros values (suc (suc (suc (suc n)))) = ap (λ (l : List ℕ). 0 ∷ 0 ∷ 0 ∷ 0 ∷ l) (cells-zeros values n)

-- parts side by side, and zeros behind
module _ {A B : Type 0} {P : A → Type 0} (put : List ℕ → List ℕ) (f : A → List ℕ) (g : B → List ℕ) (h : A → B)
    (one : (a : A) → P a → (rest : List ℕ) → put (f a ++ rest) ≡ g (h a) ++ put rest) where
  put-gather : {l : List A} → Each P l → (rest : List ℕ) → put (gather f l ++ rest) ≡ gather g (map h l) ++ put rest
  unfolding gather
  put-gather WellFormed.none rest = refl
  put-gather (WellFormed.more {a = a} {l = l} p ps) rest =
      ap put (append_assoc (f a) (gather f l) rest)
      ∙ one a p (gather f l ++ rest)
      ∙ ap (λ (r : List ℕ). g (h a) ++ r) (put-gather ps rest)
      ∙ sym (append_assoc (g (h a)) (gather g (map h l)) (put rest))

  put-room :
      (zeros : (n : ℕ) → put (replicate n 0) ≡ replicate n 0) (k n : ℕ)
      → ((a : A) → length (f a) ≡ k)
      → ((b : B) → length (g b) ≡ k)
      → {l : List A}
      → Each P l
      → put (room n (gather f l)) ≡ room n (gather g (map h l))
  unfolding room
  put-room zeros k n u v {l} ps =
      let same : length (gather f l) ≡ length (gather g (map h l)) =
      length-gather-each f k u l ∙ ap (λ (m : ℕ). k * m) (sym (length-map l h)) ∙ sym (length-gather-each g k v (map h l)) in
      put-gather ps (replicate (n - length (gather f l)) 0)
      ∙ ap (λ (r : List ℕ). gather g (map h l) ++ r) (zeros (n - length (gather f l)))
      ∙ ap (λ (m : ℕ). gather g (map h l) ++ replicate (n - m) 0) same

-- putting inputs in is a change of each part, in turn
abbrev row_changes : List ℕ → List Change
row_changes vs =
    change head_room (put_head vs)
    ∷ change conditions_room (λ ws. replicate conditions_room 0)
    ∷ change variables_room (put_variables vs)
    ∷ change cells_room (put_cells vs)
    ∷ []

by_parts : (vs ws : List ℕ) → put_row vs ws ≡ changed (row_changes vs) ws
unfolding put_row changed
by_parts vs ws =
    let v : drop conditions_room (drop head_room ws) ≡ drop 48 ws = drop-drop conditions_room head_room ws in
    let d : drop variables_room (drop 48 ws) ≡ drop 80 ws = drop-drop variables_room 48 ws in
    let z : drop cells_room (drop 80 ws) ≡ drop 208 ws = drop-drop cells_room 80 ws in
    rw (v, d, z)

module _ {w : Pool} {cs : List Constant} {vs : List ℕ} (values : ValuesAs w cs vs) where
  value : Value Ref → Value ⊥
  value v = const (value_of cs v)

  -- a value's two words
  put-value : {v : Value Ref} → ValueFits w v → constant_words (value_of cs v) ≡ put_tag vs (tag_of v) (word_of v) ∷ put_word vs (tag_of v) (word_of v) ∷ []
  unfolding value_of constant_words tag_of word_of value_words put_tag put_word ref_tag place_in
  put-value (fits_number h) = refl
  put-value fits_truth = refl
  put-value (fits_location h) = refl
  put-value (fits_term {r = number_term k} f) = packed-words (values.each k f.there).is
  put-value (fits_term {r = boolean_term k} f) = packed-words (values.each k f.there).is

  variable_put :
      (v : Option (Value Ref)) → VariableFits w v → (rest : List ℕ)
      → put_variables vs (variable_words ref_tag place_in v ++ rest) ≡ variable_words no_number no_number (Accounts.put_variable value v) ++ put_variables vs rest
  unfolding variable_words Accounts.put_variable value put_variables put_tag put_word value_words
  variable_put none unbound rest = refl
  variable_put (some v) (bound f) rest =
      ap (put_variables vs) (two_words v rest) ∙ ap (λ (l : List ℕ). l ++ put_variables vs rest) (sym (put-value f))

  cell-put :
      (c : Cell Ref) → CellFits w c → (rest : List ℕ)
      → put_cells vs (cell_words ref_tag place_in c ++ rest) ≡ cell_words no_number no_number (Accounts.put_cell value c) ++ put_cells vs rest
  unfolding cell_words Accounts.put_cell value put_cells value_words
  cell-put c f rest =
      ap (λ (l : List ℕ). put_cells vs (c.location ∷ c.property ∷ l)) (two_words c.value rest)
      ∙ ap (λ (l : List ℕ). c.location ∷ c.property ∷ (l ++ put_cells vs rest)) (sym (put-value f.value))

  -- an outcome that is no cut
  no_cut : (o tag x : ℕ) → eqb o as_cut ≡ false → put_outcome vs o tag x ≡ put_tag vs tag x ∷ put_word vs tag x ∷ []
  unfolding put_outcome
  no_cut o tag x e = simp (e, put_outcome)

  -- the outcome's three words and what stands behind them in the head; first where it is a value
  valued-put :
      (o : ℕ) → eqb o as_cut ≡ false → {u : Value Ref} → ValueFits w u → (s p c i n : ℕ) (more : List ℕ)
      → put_head vs (room head_room (o ∷ (value_words ref_tag place_in u ++ (s ∷ p ∷ c ∷ i ∷ n ∷ more))))
      ≡ room head_room (o ∷ (constant_words (value_of cs u) ++ (s ∷ p ∷ c ∷ i ∷ 0 ∷ more)))
  unfolding put_head room
  valued-put o e {u} f s p c i n more =
      ap (λ (l : List ℕ). put_head vs (room head_room (o ∷ l))) (two_words u (s ∷ p ∷ c ∷ i ∷ n ∷ more))
      ∙ ap
      (λ (l : List ℕ). o ∷ (l ++ (s ∷ p ∷ c ∷ i ∷ 0 ∷ (more ++ replicate (head_room - length (o ∷ s ∷ s ∷ s ∷ p ∷ c ∷ i ∷ n ∷ more)) 0))))
      (no_cut o (tag_of u) (word_of u) e)
      ∙ ap (λ (l : List ℕ). room head_room (o ∷ (l ++ (s ∷ p ∷ c ∷ i ∷ 0 ∷ more)))) (sym (put-value f))

  head-put :
      (o : Outcome Ref) → OutcomeFits w o → (s p c i n : ℕ) (more : List ℕ)
      → put_head vs (room head_room (outcome_words ref_tag place_in o ++ (s ∷ p ∷ c ∷ i ∷ n ∷ more)))
      ≡ room head_room (outcome_words no_number no_number (Accounts.put_outcome (value_of cs) o) ++ (s ∷ p ∷ c ∷ i ∷ 0 ∷ more))
  unfolding outcome_words end_words reason_code Accounts.put_outcome Accounts.put_end value_words put_head put_outcome put_tag put_word room
  head-put (ended (returned u)) (fits_ended (fits_returned f)) s p c i n more = valued-put as_returned refl f s p c i n more
  head-put (ended (failed u)) (fits_ended (fits_failed f)) s p c i n more = valued-put as_failed refl f s p c i n more
  head-put (ended vanished) (fits_ended fits_vanished) s p c i n more = refl
  head-put (ended (error k)) (fits_ended (fits_error f g)) s p c i n more = refl
  head-put (cut steps) fits_cut s p c i n more = refl
  head-put (cut branches) fits_cut s p c i n more = refl

  -- a row's words with the inputs put in are the words of the row with the inputs put in
  pub row_put :
      {r : Row Ref} → RowFits w r
      → put_row vs (row_words ref_tag place_in r) ≡ row_words no_number no_number (Accounts.put_in (value_of cs) r)
  unfolding row_words row_parts head_words Accounts.put_in Accounts.row_with value room gather
  row_put {r} f =
      let counts : (ls : List ℕ) → List ℕ =
      λ ls. room head_room (outcome_words no_number no_number (Accounts.put_outcome (value_of cs) r.outcome) ++ (r.steps ∷ r.procedure ∷ r.command ∷ r.inputs ∷ 0 ∷ ls)) in
      let head : put_head vs (room head_room (head_words ref_tag place_in r)) ≡ room head_room (head_words no_number no_number (Accounts.put_in (value_of cs) r)) =
      head-put r.outcome f.outcome r.steps r.procedure r.command r.inputs (length r.conditions)
      (length r.variables ∷ length r.cells ∷ [])
      ∙ ap₂ (λ (v c : ℕ). counts (v ∷ c ∷ []))
      (sym (length-map r.variables (Accounts.put_variable value))) (sym (length-map r.cells (Accounts.put_cell value))) in
      by_parts vs (row_words ref_tag place_in r)
      ∙ parts-changed
      (parts.more (head-fits ref_tag place_in r) head
      (parts.more (conditions-fit ref_tag place_in (within f)) refl
      (parts.more (variables-fit ref_tag place_in (within f))
      (put-room (put_variables vs) (variable_words ref_tag place_in) (variable_words no_number no_number) (Accounts.put_variable value) variable_put
      (variables-zeros vs) 2 variables_room (variable_two ref_tag place_in) (variable_two no_number no_number) f.variables.variables)
      (parts.more (cells_fit ref_tag place_in (within f))
      (put-room (put_cells vs) (cell_words ref_tag place_in) (cell_words no_number no_number) (Accounts.put_cell value) cell-put
      (cells-zeros vs) 4 cells_room (cell_four ref_tag place_in) (cell_four no_number no_number) f.cells.cells)
      parts.none))))

-- word 3 of an answer is its steps
steps-among :
    (o : List ℕ) (s : ℕ) (m z y x : List ℕ)
    → gather word_bytes (((o ++ (s ∷ m)) ++ z) ++ y) ++ x
    ≡ gather word_bytes o ++ (word_bytes s ++ (gather word_bytes (m ++ (z ++ y)) ++ x))
unfolding gather
steps-among o s m z y x =
    let apart : ((o ++ (s ∷ m)) ++ z) ++ y ≡ o ++ (s ∷ (m ++ (z ++ y))) = simp append_assoc in
    ap (λ (l : List ℕ). gather word_bytes l ++ x) apart
    ∙ ap (λ (l : List ℕ). l ++ x) (gather_append word_bytes o (s ∷ (m ++ (z ++ y))))
    ∙ simp append_assoc

pub answer-steps : (q : Row ⊥) → q.steps < 4294967296 → (x : List ℕ) → word_at (answer_bytes q ++ x) 12 ≡ q.steps
unfolding answer_bytes row_bytes row_words row_parts parts_words head_words room
answer-steps q h x =
    let o : List ℕ = outcome_words no_number no_number q.outcome in
    let twelve : 12 ≡ length (gather word_bytes o) = sym (length-words o ∙ ap (λ (n : ℕ). 4 * n) (outcome-three no_number no_number q.outcome)) in
    ap (λ (l : List ℕ). word_at l 12) (steps-among o q.steps _ _ _ x)
    ∙ ap (word_at _) twelve
    ∙ word_at-bytes (gather word_bytes o) _ q.steps h
