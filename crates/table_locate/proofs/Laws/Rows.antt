-- For a sound table, what is read from the bytes of table and pool is document 01's row: `locate_law`. Assumes nothing.
use Prim.Native.Nat.{ℕ, suc, ◌+◌, ◌*◌, ◌-◌, ◌≤◌, ◌<◌}
use Rattle.std.proofs.Math.Nat.{zero-add}
use native.Mathlib.Omega.{arith}
use Rattle.std.specs.Prelude.{◌≡◌, Bool, true, false, ◌&&◌, get_or, replicate}
use Rattle.std.proofs.Math.Path.{refl, sym, ap, ap₂}
use Rattle.std.proofs.Common.{◌∙◌, subst}
use mathlib.Core.List.{List, [], ◌∷◌, ◌++◌, append_assoc}
use Rattle.std.proofs.Math.ListN.{length, length-append}
use Rattle.gil.specs.Names.{gather}
use Rattle.gil.specs.Values.{Constant, truth_in, same_truth, term}
use Rattle.gil.specs.Machine.{Cell}
use Rattle.gil.specs.Rows.{Condition, steps, branches, Outcome, Row}
use Rattle.gil.specs.Pool.{Ref, place_in, Pool, value_of, pool_values, meets, place_among, placed}
use Rattle.gil.specs.Numbers.{most_branches, most_rows, most_terms, word_length, row_length, heading_length, table_length, inputs_length, head_room, row_room, conditions_at, conditions_word}
use Rattle.gil.specs.Layout.{word_bytes, room, bit, reason_code, variable_words, cell_words, condition_words, end_words, outcome_words, head_numbers, head_words, row_parts, row_words, row_bytes, ref_tag, pool_bytes, table_head, table_bytes, input_words}
use Rattle.machine_code.specs.WellFormed as WellFormed
use Rattle.machine_code.specs.WellFormed.{Each}
use Rattle.machine_code.proofs.Accepted.Lists.{each_append}
use Rattle.gil.proofs.Theory.Gathered.{gather_append}
use Rattle.lent_words.specs.Mirror.{word_at, at_most}
use Rattle.lent_words.specs.Laws.Words.{all_of}
use Rattle.lent_words.specs.Laws.Reads.{Words, none, more, word_at-words}
use Rattle.lent_words.specs.Laws.Rooms.{length-words, words-zeros, words_append, words-room, thing_word}
use Rattle.lent_words.specs.Laws.Parts as parts
use Rattle.lent_words.specs.Laws.Parts.{words_before, parts-small, part-word}
use Rattle.lent_words.specs.Laws.Row.{Within, condition_two, row_fits, conditions-fit, row-words-long, row-head-word}
use Rattle.machine_code.specs.Mirror.{if?}
use Rattle.table_locate.specs.Mirror.{values_to, condition_holds, conditions_hold, row_holds, first_row, locate_in}
use Rattle.table_locate.specs.Laws.Sound.{ConditionFits, VariableFits, unbound, bound, CellFits, fits_returned, fits_failed, fits_vanished, fits_error, OutcomeFits, fits_ended, fits_cut, RowFits, Sound}
use Rattle.table_locate.specs.Laws.Inputs.{Bytes}
use Rattle.table_locate.proofs.Laws.Terms.{bit-small, value-words, ValuesAs, values_as, condition_as}

words-gather : {A : Type 0} {P : A → Type 0} {f : A → List ℕ} {l : List A} → ((a : A) → P a → Words (f a)) → Each P l → Words (gather f l)
unfolding gather
words-gather g WellFormed.none = none
words-gather g (WellFormed.more p ps) = words_append (g _ p) (words-gather g ps)

-- The words of a row
module _ {w : Pool} (few : length w ≤ most_terms) where
  outcome-words : {o : Outcome Ref} → OutcomeFits w o → Words (outcome_words ref_tag place_in o)
  unfolding outcome_words end_words reason_code
  outcome-words (fits_ended (fits_returned f)) = more {w = 1} (omega arith) (value-words few f)
  outcome-words (fits_ended (fits_failed f)) = more {w = 2} (omega arith) (value-words few f)
  outcome-words (fits_ended fits_vanished) = more {w = 3} (omega arith) (words-zeros 2)
  outcome-words (fits_ended (fits_error {n} f g)) = more {w = 4} (omega arith) (more {w = 0} (omega arith) (more {w = n} (omega arith) none))
  outcome-words (fits_cut {why = steps}) = more {w = 5} (omega arith) (more {w = 0} (omega arith) (more {w = 1} (omega arith) none))
  outcome-words (fits_cut {why = branches}) = more {w = 5} (omega arith) (more {w = 0} (omega arith) (more {w = 2} (omega arith) none))

  condition-words : (c : Condition Ref) → ConditionFits w c → Words (condition_words ref_tag place_in c)
  unfolding condition_words
  condition-words c f = more {w = place_in c.term} (omega (arith, f.reference.there)) (more (bit-small c.truth) none)

  variable_words_lem : (v : _) → VariableFits w v → Words (variable_words ref_tag place_in v)
  unfolding variable_words
  variable_words_lem v unbound = words-zeros 2
  variable_words_lem v (bound f) = value-words few f

  cell-words : (c : Cell Ref) → CellFits w c → Words (cell_words ref_tag place_in c)
  unfolding cell_words
  cell-words c f =
      more {w = c.location} (omega (arith, f.location)) (more {w = c.property} (omega (arith, f.property)) (value-words few f.value))

  pub row_words_lem : {r : Row Ref} → RowFits w r → Words (row_words ref_tag place_in r)
  unfolding row_words row_parts head_words
  row_words_lem {r} f =
      parts-small
      (parts.more
      (words_append (outcome-words f.outcome)
      (more {w = r.steps} (omega (arith, f.steps))
      (more {w = r.procedure} (omega (arith, f.procedure))
      (more f.command
      (more {w = r.inputs} (omega (arith, f.inputs))
      (more {w = length r.conditions} (omega (arith, f.few_conditions))
      (more {w = length r.variables} (omega (arith, f.variables.few_variables))
      (more {w = length r.cells} (omega (arith, f.cells.few_cells)) none))))))))
      (parts.more (words-gather condition-words f.conditions)
      (parts.more (words-gather variable_words_lem f.variables.variables)
      (parts.more (words-gather cell-words f.cells.cells) (parts.more none (parts.more none (parts.more none parts.none)))))))

pub within : {w : Pool} {r : Row Ref} → RowFits w r → Within r
within f = record { conditions = f.few_conditions; variables = f.variables.few_variables; cells = f.cells.few_cells }

pub length-row : {w : Pool} {r : Row Ref} → RowFits w r → length (row_words ref_tag place_in r) ≡ row_room
length-row f = row-words-long ref_tag place_in (within f)

-- a word of a row's head, behind its outcome, and the two words of a condition
pub head-word :
    {w : Pool} {r : Row Ref} → RowFits w r → (m : ℕ) → 3 + m < head_room → get_or (row_words ref_tag place_in r) (3 + m) 0 ≡ get_or (head_numbers r) m 0
head-word f m h = row-head-word ref_tag place_in (within f) m h

condition-word :
    {w : Pool} {r : Row Ref} → RowFits w r → (done cs : List (Condition Ref)) (c : Condition Ref) (at j : ℕ)
    → r.conditions ≡ done ++ c ∷ cs
    → at ≡ head_room + 2 * length done + j
    → j < 2
    → get_or (row_words ref_tag place_in r) at 0 ≡ get_or (condition_words ref_tag place_in c) j 0
unfolding row_words row_parts words_before
condition-word {r = r} f done cs c at j e h few =
    let i : length done < most_branches = omega (arith, simp length-append at (ap length e), f.few_conditions) in
    part-word 1 at (2 * length done + j) (row_fits ref_tag place_in (within f)) (conditions-fit ref_tag place_in (within f)) refl (omega arith) (omega arith)
    ∙ ap (λ (l : List (Condition Ref)). get_or (gather (condition_words ref_tag place_in) l) (2 * length done + j) 0) e
    ∙ thing_word (condition_words ref_tag place_in) 2 (condition_two ref_tag place_in) done cs c (2 * length done + j) j few refl

-- A row stands in a table: each of its words is where it is read
unfoldable pub RowAt : List ℕ → ℕ → Row Ref → Type 0
RowAt table row r = (at j : ℕ) → j < row_room → at ≡ heading_length + row_length * row + 4 * j → word_at table at ≡ get_or (row_words ref_tag place_in r) j 0

if_and : (b x : Bool) → if? b x false ≡ (b && x)
if_and true x = refl
if_and false x = refl

module _ {w : Pool} {cs : List Constant} {vs : List ℕ} (values : ValuesAs w cs vs) (table : List ℕ) where
  -- a condition, all conditions from one on, and a row
  condition-holds :
      (row : ℕ) (r : Row Ref) (done ds : List (Condition Ref)) (c : Condition Ref)
      → RowAt table row r
      → RowFits w r
      → r.conditions ≡ done ++ c ∷ ds
      → ConditionFits w c
      → condition_holds table vs row (length done) ≡ same_truth c.truth (truth_in (value_of cs (term c.term)))
  unfolding RowAt condition_holds condition_words
  condition-holds row r done ds c here sound e f =
      let i : ℕ = length done in
      let g : i < most_branches = omega (arith, simp length-append at (ap length e), sound.few_conditions) in
      let place : word_at table (heading_length + row_length * row + 8 * i + conditions_at) ≡ place_in c.term =
      here (heading_length + row_length * row + 8 * i + conditions_at) (head_room + 2 * i) (omega arith) (omega arith)
      ∙ condition-word sound done ds c (head_room + 2 * i) 0 e (omega arith) (omega arith) in
      let truth : word_at table (heading_length + row_length * row + 8 * i + (conditions_at + 4)) ≡ bit c.truth =
      here (heading_length + row_length * row + 8 * i + (conditions_at + 4)) (head_room + 1 + 2 * i) (omega arith) (omega arith)
      ∙ condition-word sound done ds c (head_room + 1 + 2 * i) 1 e (omega arith) (omega arith) in
      rw (place, truth) (condition_as values f.reference f.sort c.truth)

  conditions_hold_lem :
      (row : ℕ) (r : Row Ref) (done : List (Condition Ref)) {ds : List (Condition Ref)}
      → RowAt table row r
      → RowFits w r
      → r.conditions ≡ done ++ ds
      → Each (ConditionFits w) ds
      → conditions_hold table vs row (length ds) (length done) ≡ meets cs ds
  unfolding conditions_hold meets
  conditions_hold_lem row r done here few e WellFormed.none = refl
  conditions_hold_lem row r done here few e (WellFormed.more {a = c} {l = ds} f fs) =
      let next : length (done ++ (c ∷ [])) ≡ length done + 1 = simp length-append in
      let rest : conditions_hold table vs row (length ds) (length done + 1) ≡ meets cs ds =
      ap (λ (n : ℕ). conditions_hold table vs row (length ds) n) (sym next)
      ∙ conditions_hold_lem row r (done ++ (c ∷ [])) here few (e ∙ sym (append_assoc done (c ∷ []) ds)) fs in
      ap₂ (λ (b x : Bool). if? b x false) (condition-holds row r done ds c here few e f) rest
      ∙ if_and (same_truth c.truth (truth_in (value_of cs (term c.term)))) (meets cs ds)

  pub row-holds : (row : ℕ) {r : Row Ref} → RowAt table row r → RowFits w r → row_holds table vs row ≡ meets cs r.conditions
  unfolding row_holds RowAt
  row-holds row {r} here f =
      let n : word_at table (heading_length + row_length * row + word_length * conditions_word) ≡ length r.conditions =
      here (heading_length + row_length * row + word_length * conditions_word) conditions_word (omega arith) (omega arith) ∙ head-word f 4 (omega arith) in
      ap (λ (k : ℕ). conditions_hold table vs row k 0) (ap (at_most most_branches) n ∙ all_of most_branches (length r.conditions) f.few_conditions)
      ∙ conditions_hold_lem row r [] here f refl f.conditions

-- The table's heading and rows
each_first : {A : Type 0} {P : A → Type 0} {a : A} {l : List A} → Each P (a ∷ l) → P a
each_first (WellFormed.more p ps) = p

length-rows :
    {w : Pool} {rs : List (Row Ref)} → length w ≤ most_terms → Each (RowFits w) rs → length (gather (row_bytes ref_tag place_in) rs) ≡ row_length * length rs
unfolding gather row_bytes
length-rows few WellFormed.none = refl
length-rows few (WellFormed.more {a = r} f fs) =
    let h : _ ≡ _ = length-rows few fs in
    simp (length-append, length-words (row_words ref_tag place_in r), length-row f) (omega arith)

heading : (rows terms : ℕ) → List ℕ
heading rows terms = room head_room (rows ∷ terms ∷ [])

heading-words : {rows terms : ℕ} → rows ≤ most_rows → terms ≤ most_terms → Words (heading rows terms)
unfolding heading
heading-words {rows} {terms} f g = words-room head_room (more {w = rows} (omega arith) (more {w = terms} (omega arith) none))

length-heading : (rows terms : ℕ) → length (heading rows terms) ≡ head_room
unfolding heading room
length-heading rows terms = refl

zeros-behind : Pool → List (Row Ref) → List ℕ
zeros-behind w rows = replicate (table_length - length (table_head w rows ++ gather (row_bytes ref_tag place_in) rows)) 0

table-parts :
    (w : Pool) (rows : List (Row Ref)) (extra : List ℕ)
    → table_bytes w rows ++ extra
    ≡ gather word_bytes (heading (length rows) (length w)) ++ (gather (row_bytes ref_tag place_in) rows ++ (zeros-behind w rows ++ extra))
unfolding table_bytes table_head heading zeros-behind room
table-parts w rows extra = simp append_assoc

module _ {w : Pool} {rows : List (Row Ref)} (s : Sound w rows) (extra : List ℕ) where
  heading-word :
      (at j : ℕ) → at ≡ 0 + 4 * j → j < head_room → word_at (table_bytes w rows ++ extra) at ≡ get_or (heading (length rows) (length w)) j 0
  heading-word at j e h =
      rw (table-parts w rows extra, e)
      (word_at-words [] (gather (row_bytes ref_tag place_in) rows ++ (zeros-behind w rows ++ extra)) j (heading-words s.few_rows s.few_terms)
      (rw length-heading h))

  pub row_count : word_at (table_bytes w rows ++ extra) 0 ≡ length rows
  unfolding heading room
  row_count = heading-word 0 0 refl (omega arith)

  pub term-count : word_at (table_bytes w rows ++ extra) 4 ≡ length w
  unfolding heading room
  term-count = heading-word 4 1 refl (omega arith)

  pub row_at : (done rs : List (Row Ref)) (r : Row Ref) → rows ≡ done ++ r ∷ rs → RowAt (table_bytes w rows ++ extra) (length done) r
  unfolding RowAt gather row_bytes
  row_at done rs r e at j h g =
      let (before, here) = each_append done (r ∷ rs) (subst (λ (l : List (Row Ref)). Each (RowFits w) l) e s.rows) in
      let f : RowFits w r = each_first here in
      let a : List ℕ = gather word_bytes (heading (length rows) (length w)) ++ gather (row_bytes ref_tag place_in) done in
      let z : List ℕ = gather (row_bytes ref_tag place_in) rs ++ (zeros-behind w rows ++ extra) in
      let p : table_bytes w rows ++ extra ≡ a ++ (gather word_bytes (row_words ref_tag place_in r) ++ z) =
      table-parts w rows extra
      ∙ ap (λ (l : List ℕ). gather word_bytes (heading (length rows) (length w)) ++ (l ++ (zeros-behind w rows ++ extra)))
      (ap (gather (row_bytes ref_tag place_in)) e ∙ gather_append (row_bytes ref_tag place_in) done (r ∷ rs))
      ∙ simp append_assoc in
      let i : at ≡ length a + 4 * j =
      simp (length-append, length-words (heading (length rows) (length w)), length-heading, length-rows s.few_terms before) g in
      rw (p, i) (word_at-words a z j (row_words_lem s.few_terms f) (rw (length-row f) h))

  -- the first row that holds, from a row on
  pick : (b : Bool) (n m p : ℕ) → m ≡ n + 1 + p → if? b n m ≡ n + (elim b [ true ↦ 0 | false ↦ suc p ])
  pick true n m p e = omega arith
  pick false n m p e = omega arith

  rows-from :
      {cs : List Constant} {vs : List ℕ} (done : List (Row Ref)) {rs : List (Row Ref)}
      → ValuesAs w cs vs
      → rows ≡ done ++ rs
      → Each (RowFits w) rs
      → first_row (table_bytes w rows ++ extra) vs (length rs) (length done) ≡ length done + place_among cs rs
  unfolding first_row place_among
  rows-from done v e WellFormed.none = omega arith
  rows-from {cs} {vs} done v e (WellFormed.more {a = r} {l = rs} f fs) =
      let t : List ℕ = table_bytes w rows ++ extra in
      let next : length (done ++ (r ∷ [])) ≡ length done + 1 = simp length-append in
      let rest : first_row t vs (length rs) (length done + 1) ≡ length done + 1 + place_among cs rs =
      ap (λ (n : ℕ). first_row t vs (length rs) n) (sym next)
      ∙ rows-from (done ++ (r ∷ [])) v (e ∙ sym (append_assoc done (r ∷ []) rs)) fs
      ∙ ap (λ (n : ℕ). n + place_among cs rs) next in
      ap (λ (b : Bool). if? b (length done) (first_row t vs (length rs) (length done + 1)))
      (row-holds v t (length done) (row_at done rs r e) f)
      ∙ pick (meets cs r.conditions) (length done) (first_row t vs (length rs) (length done + 1)) (place_among cs rs) rest

  -- For a sound table: document 01's row.
  pub locate_law :
      (rest inputs : List ℕ) → length inputs ≡ inputs_length → Bytes inputs
      → locate_in (table_bytes w rows ++ extra) (pool_bytes w ++ rest) inputs ≡ placed (input_words inputs) w rows
  unfolding locate_in placed
  locate_law rest inputs long bytes =
      let t : List ℕ = table_bytes w rows ++ extra in
      let vs : List ℕ = values_to (pool_bytes w ++ rest) inputs (replicate most_terms 0) (length w) in
      let n : at_most most_rows (word_at t 0) ≡ length rows = ap (at_most most_rows) row_count ∙ all_of most_rows (length rows) s.few_rows in
      let m : at_most most_terms (word_at t 4) ≡ length w = ap (at_most most_terms) term-count ∙ all_of most_terms (length w) s.few_terms in
      ap₂ (λ (k l : ℕ). first_row t (values_to (pool_bytes w ++ rest) inputs (replicate most_terms 0) k) l 0) m n
      ∙ rows-from [] (values_as inputs long bytes rest s.few_terms s.terms) refl s.rows
      ∙ zero-add (place_among (pool_values (input_words inputs) w) rows)
