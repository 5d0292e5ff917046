-- The lines of a table, taken from its bytes and its pool's, are document 01's printed form. Assumes nothing.
use Prim.Native.Nat.{ℕ, suc, ◌+◌, ◌*◌, ◌-◌, ◌≤◌, ◌<◌}
use native.Mathlib.Omega.{arith}
use Rattle.std.specs.Prelude.{◌≡◌, Bool, replicate}
use Rattle.std.proofs.Math.Path.{refl, ap, ap₂}
use Rattle.std.proofs.Common.{sym, ◌∙◌, lt-ltb, ne_eqb}
use Rattle.std.proofs.Math.Bool.{true, false}
use mathlib.Core.List.{List, [], ◌∷◌, ◌++◌, append_assoc}
use Rattle.std.proofs.Math.Option.{Option}
use Rattle.std.proofs.Math.ListN.{length, get_or, drop}
use Rattle.gil.specs.Numbers.{most_terms, most_rows, most_branches, most_procedures, table_length, heading_length, row_length, row_room, head_room, conditions_room, as_returned, as_failed, as_vanished, as_error, as_cut, for_steps, for_branches, boolean_term_tag, outcome_word, tag_word, value_word, steps_word, procedure_word, command_word, conditions_word}
use Rattle.gil.specs.Text.{bytes}
use Rattle.gil.specs.Names.{gather, Program}
use Rattle.gil.specs.Values.{Value, term}
use Rattle.gil.specs.Machine.{procedure_at, returned, failed, vanished, error}
use Rattle.gil.specs.Rows.{Condition, steps, branches, Outcome, ended, cut, Row}
use Rattle.gil.specs.Explore.{explored}
use Rattle.gil.specs.Pool.{Ref, boolean_term, place_in, Pool}
use Rattle.gil.specs.Layout.{room, parts_words, bit, ref_tag, value_words, condition_words, end_words, outcome_words, reason_code, head_numbers, head_words, row_parts, row_words, row_bytes, pool_bytes, table_head, table_bytes}
use Rattle.gil.specs.Printed.{decimal, pool_texts, value_text, value_field, end_fields, outcome_fields, unless_true, condition_text, conditions_after, conditions_field, line_end, row_line, row_lines, heading, explored_text}
use Rattle.machine_code.specs.WellFormed.{Each}
use Rattle.machine_code.specs.WellFormed as each
use Rattle.lent_words.specs.Mirror.{word_at, at_most}
use Rattle.lent_words.specs.Laws.Words.{all_of}
use Rattle.lent_words.specs.Laws.Reads.{Words, word_at-words}
use Rattle.lent_words.specs.Laws.Reads as words
use Rattle.lent_words.specs.Laws.Rooms.{words-zeros, length-words}
use Rattle.lent_words.specs.Laws.Parts.{words_before, part-there, part-word}
use Rattle.lent_words.specs.Laws.Row.{head-fits, row_fits, row-words-long}
use Rattle.print_parts.specs.Mirror.{runs, cut_form, outcome_form, unless_form, row_word, condition_form, further_form, conditions_form}
use Rattle.text_names.specs.declared.Names.{Names}
use Rattle.print_lines.specs.Mirror.{sizes_in, name_form, start_form, place_form, row_form, table_form}
use Rattle.print_fields.specs.Mirror.{no_sizes, sizes_to, field_form}
use Rattle.print_laws.specs.Laws.Printable.{RowFits, Printable}
use Rattle.print_laws.specs.Laws.Places.{first, after, more-there, each_at, Sized, thing_word}
use Rattle.print_laws.specs.Laws.Texts.{tag_of, word_of, two_words, field-form}

regroup : (a b c d e g h : List ℕ) → (a ++ b) ++ (c ++ d ++ e) ++ g ++ h ≡ a ++ b ++ c ++ d ++ e ++ g ++ h
regroup a b c d e g h = simp append_assoc

rows-sized : {k : ℕ} {rows : List (Row Ref)} → Each (RowFits k) rows → Each (Sized (row_words ref_tag place_in) row_room) rows
rows-sized each.none = each.none
rows-sized (each.more f fs) = each.more (record { size = row-words-long ref_tag place_in f.within; words = f.words }) (rows-sized fs)

-- the heading's words
module _ (w : Pool) (rows : List (Row Ref)) (rest : List ℕ) (few_terms : length w ≤ most_terms) (few_rows : length rows ≤ most_rows) where
  head-words : Words (room 16 (length rows ∷ length w ∷ []))
  unfolding room
  head-words = words.more {w = length rows} (omega arith) (words.more {w = length w} (omega arith) (words-zeros 14))

  after_heading : List ℕ
  after_heading = replicate (table_length - length (table_head w rows ++ gather (row_bytes ref_tag place_in) rows)) 0 ++ rest

  table-parts : table_bytes w rows ++ rest ≡ table_head w rows ++ (gather (row_bytes ref_tag place_in) rows ++ after_heading)
  unfolding table_bytes room after_heading
  table-parts = simp append_assoc

  head-word : (k at : ℕ) → k < 16 → at ≡ 4 * k → word_at (table_bytes w rows ++ rest) at ≡ get_or (room 16 (length rows ∷ length w ∷ [])) k 0
  unfolding table_head room
  head-word k at h e =
      let z : at ≡ length {A = ℕ} [] + 4 * k = omega arith in
      ap₂ word_at table-parts z ∙ word_at-words [] (gather (row_bytes ref_tag place_in) rows ++ after_heading) k head-words h

  row_count : word_at (table_bytes w rows ++ rest) 0 ≡ length rows
  unfolding room
  row_count = head-word 0 0 (omega arith) (omega arith)

  term-count : word_at (table_bytes w rows ++ rest) 4 ≡ length w
  unfolding room
  term-count = head-word 1 4 (omega arith) (omega arith)

  row_word_lem :
      (j m : ℕ) {k : ℕ} {r : Row Ref} {later : List (Row Ref)} → Each (RowFits k) rows → drop j rows ≡ r ∷ later → m < row_room
      → row_word (table_bytes w rows ++ rest) j m ≡ get_or (row_words ref_tag place_in r) m 0
  unfolding row_word row_bytes
  row_word_lem j m {k} {r} {later} f e h =
      let l : length (table_head w rows) ≡ heading_length = unfold table_head room in length-words (room 16 (length rows ∷ length w ∷ [])) in
      let z : heading_length + row_length * j + 4 * m ≡ length (table_head w rows) + 4 * (row_room * j) + 4 * m = omega arith in
      ap (λ (b : List ℕ). word_at b (heading_length + row_length * j + 4 * m)) table-parts
      ∙ thing_word (row_words ref_tag place_in) row_room (table_head w rows) after_heading j m (heading_length + row_length * j + 4 * m) r (rows-sized f) (more-there rows j e) h z
      ∙ ap (λ (x : Row Ref). get_or (row_words ref_tag place_in x) m 0) (first rows j r e)

-- A table that is printable, and something after it and after its pool
module _ (text : List ℕ) (names : Names) (p : Program) (w : Pool) (rows : List (Row Ref)) (f : Printable text names p w rows) (rest rest' : List ℕ) where
  abbrev table : List ℕ
  table = table_bytes w rows ++ rest

  abbrev pool : List ℕ
  pool = pool_bytes w ++ rest'

  abbrev ss : List ℕ
  ss = sizes_to pool no_sizes (length w)

  abbrev ts : List (Option (List ℕ))
  ts = pool_texts w

  field : (v : Value Ref) → field_form pool ss (tag_of v) (word_of v) ≡ value_field ts v
  field v = field-form w rest' f.few_terms f.terms_fit v

  -- an outcome's three words, and what they print as
  record Three (o : Outcome Ref) : Type 0 where
    a : ℕ
    b : ℕ
    c : ℕ
    words : outcome_words ref_tag place_in o ≡ a ∷ b ∷ c ∷ []
    form : outcome_form pool ss a b c ≡ outcome_fields ts o

  three : (o : Outcome Ref) → Three o
  unfolding outcome_words end_words reason_code outcome_form cut_form outcome_fields end_fields
  three (ended (returned v)) =
      record { a = as_returned; b = tag_of v; c = word_of v; words = ap (λ (l : List ℕ). as_returned ∷ l) (two_words v); form = ap (λ (l : List ℕ). bytes "returned," ++ l) (field v) }
  three (ended (failed v)) =
      record { a = as_failed; b = tag_of v; c = word_of v; words = ap (λ (l : List ℕ). as_failed ∷ l) (two_words v); form = ap (λ (l : List ℕ). bytes "failed," ++ l) (field v) }
  three (ended vanished) = record { a = as_vanished; b = 0; c = 0; words = refl; form = refl }
  three (ended (error n)) = record { a = as_error; b = 0; c = n; words = refl; form = refl }
  three (cut steps) = record { a = as_cut; b = 0; c = for_steps; words = refl; form = refl }
  three (cut branches) = record { a = as_cut; b = 0; c = for_branches; words = refl; form = refl }

  -- conditions
  term-field : (r : Ref) → field_form pool ss boolean_term_tag (place_in r) ≡ value_field ts (term r)
  unfolding value_field value_text
  term-field r = unfold tag_of word_of value_words ref_tag place_in in field (term (boolean_term (place_in r)))

  unless : (b : Bool) → unless_form (bit b) ≡ unless_true b
  unfolding unless_form bit unless_true
  unless true = refl
  unless false = refl

  module _ (j : ℕ) {r : Row Ref} {later : List (Row Ref)} (here : drop j rows ≡ r ∷ later) where
    abbrev ws : List ℕ
    ws = row_words ref_tag place_in r

    word : (m : ℕ) → m < row_room → row_word table j m ≡ get_or ws m 0
    word m h = row_word_lem w rows rest f.few_terms f.few_rows j m f.rows_fit here h

    condition :
        (i : ℕ) (c : Condition Ref) {l : List ℕ} → drop (head_room + 2 * i) ws ≡ place_in c.term ∷ bit c.truth ∷ l → i < 16
        → condition_form table pool ss j i ≡ condition_text ts c
    unfolding condition_form condition_text
    condition i c {l} e h =
        let s : suc (head_room + 2 * i) ≡ head_room + 1 + 2 * i = omega arith in
        let x : row_word table j (head_room + 2 * i) ≡ place_in c.term = word (head_room + 2 * i) (omega arith) ∙ first ws (head_room + 2 * i) 0 e in
        let y : row_word table j (head_room + 1 + 2 * i) ≡ bit c.truth =
        word (head_room + 1 + 2 * i) (omega arith) ∙ first ws (head_room + 1 + 2 * i) 0 (ap (λ (n : ℕ). drop n ws) (sym s) ∙ after ws (head_room + 2 * i) e) in
        ap₂ (λ (k b : ℕ). unless_form b ++ field_form pool ss boolean_term_tag k) x y ∙ ap₂ (λ (s t : List ℕ). s ++ t) (unless c.truth) (term-field c.term)

    further :
        (cs : List (Condition Ref)) (i : ℕ) (l : List ℕ) → drop (head_room + 2 * i) ws ≡ gather (condition_words ref_tag place_in) cs ++ l → i + length cs ≤ 16
        → runs (further_form table pool ss j) i (length cs) ≡ conditions_after ts cs
    unfolding runs further_form conditions_after gather condition_words
    further [] i l e h = refl
    further (c ∷ cs) i l e h =
        let s : suc (suc (head_room + 2 * i)) ≡ head_room + 2 * suc i = omega arith in
        let g : drop (head_room + 2 * suc i) ws ≡ gather (condition_words ref_tag place_in) cs ++ l =
        ap (λ (n : ℕ). drop n ws) (sym s) ∙ after ws (suc (head_room + 2 * i)) (after ws (head_room + 2 * i) e) in
        ap₂ (λ (a b : List ℕ). bytes "; " ++ a ++ b) (condition i c e (omega arith)) (further cs (suc i) l g (omega arith))

    conditions :
        (cs : List (Condition Ref)) (l : List ℕ) → drop 16 ws ≡ gather (condition_words ref_tag place_in) cs ++ l → length cs ≤ 16
        → conditions_form table pool ss j (length cs) ≡ conditions_field ts cs
    unfolding conditions_form conditions_field gather condition_words
    conditions [] l e h = refl
    conditions (c ∷ cs) l e h =
        let z : suc (length cs) ≡ 0 → ⊥ = λ q. omega arith in
        let n : suc (length cs) - 1 ≡ length cs = omega arith in
        let g : drop (head_room + 2 * 1) ws ≡ gather (condition_words ref_tag place_in) cs ++ l = after ws 17 (after ws 16 e) in
        simp (ne_eqb (suc (length cs)) 0 z, n)
        (ap₂ (λ (a b : List ℕ). a ++ b) (condition 0 c e (omega arith)) (further cs 1 l g (omega arith)))

    -- the row
    fits : RowFits (length p.procedures) r
    fits = rw (first rows j r here) at (each_at f.rows_fit j r (more-there rows j here))

    outcome : Three r.outcome
    outcome = three r.outcome

    -- word m of the head, where the outcome's three are known
    headed : (m x : ℕ) → m < head_room → get_or ((outcome.a ∷ outcome.b ∷ outcome.c ∷ []) ++ head_numbers r) m 0 ≡ x → row_word table j m ≡ x
    unfolding row_words row_parts words_before head_words
    headed m x h e =
        word m (omega arith)
        ∙ part-word 0 m m (row_fits ref_tag place_in fits.within) (head-fits ref_tag place_in r) refl (omega arith) h
        ∙ ap (λ (o : List ℕ). get_or (o ++ head_numbers r) m 0) outcome.words
        ∙ e

    -- what stands after the head
    later-words : List ℕ
    later-words =
        replicate (conditions_room - length (gather (condition_words ref_tag place_in) r.conditions)) 0
        ++ parts_words (drop 2 (row_parts ref_tag place_in r))

    conditions-there : drop head_room ws ≡ gather (condition_words ref_tag place_in) r.conditions ++ later-words
    unfolding row_words row_parts words_before room later-words
    conditions-there =
        part-there 1 (row_fits ref_tag place_in fits.within) refl
        ∙ append_assoc (gather (condition_words ref_tag place_in) r.conditions) _ _

    start : start_form table pool ss j ≡ decimal j ++ (44 ∷ outcome_fields ts r.outcome)
    unfolding start_form
    start =
        simp (headed outcome_word outcome.a (omega arith) refl, headed tag_word outcome.b (omega arith) refl, headed value_word outcome.c (omega arith) refl)
        (ap (λ (l : List ℕ). decimal j ++ (44 ∷ l)) outcome.form)

    named : name_form text names r.procedure ≡ (procedure_at p r.procedure).name
    unfolding name_form
    named =
        let h : r.procedure < most_procedures = omega (arith, fits.procedure, f.few_procedures) in
        simp (lt-ltb r.procedure most_procedures h) (f.named r.procedure fits.procedure)

    place : place_form text names table j ≡ (44 ∷ decimal r.steps) ++ (44 ∷ (procedure_at p r.procedure).name) ++ (44 ∷ decimal r.command)
    unfolding place_form
    place =
        simp (headed steps_word r.steps (omega arith) refl, headed procedure_word r.procedure (omega arith) refl, headed command_word r.command (omega arith) refl, named)

    listed : conditions_form table pool ss j (at_most most_branches (row_word table j conditions_word)) ≡ conditions_field ts r.conditions
    listed =
        let n : row_word table j conditions_word ≡ length r.conditions = headed conditions_word (length r.conditions) (omega arith) refl in
        ap (λ (k : ℕ). conditions_form table pool ss j (at_most most_branches k)) n
        ∙ ap (conditions_form table pool ss j) (all_of most_branches (length r.conditions) fits.within.conditions)
        ∙ conditions r.conditions later-words conditions-there fits.within.conditions

    line : row_form text names table pool ss j ≡ row_line p ts j r
    unfolding row_form row_line
    line =
        ap₂ (λ (a b : List ℕ). a ++ b ++ (44 ∷ conditions_form table pool ss j (at_most most_branches (row_word table j conditions_word))) ++ line_end) start place
        ∙ ap
        (λ (l : List ℕ).
        (decimal j ++ (44 ∷ outcome_fields ts r.outcome))
        ++ ((44 ∷ decimal r.steps) ++ (44 ∷ (procedure_at p r.procedure).name) ++ (44 ∷ decimal r.command))
        ++ (44 ∷ l)
        ++ line_end) listed
        ∙ regroup (decimal j) (44 ∷ outcome_fields ts r.outcome) (44 ∷ decimal r.steps) (44 ∷ (procedure_at p r.procedure).name)
        (44 ∷ decimal r.command) (44 ∷ conditions_field ts r.conditions) line_end

  lines :
      (later : List (Row Ref)) (j : ℕ) → drop j rows ≡ later → runs (row_form text names table pool ss) j (length later) ≡ row_lines p ts j later
  unfolding runs row_lines
  lines [] j e = refl
  lines (r ∷ later) j e = ap₂ (λ (a b : List ℕ). a ++ b) (line j e) (lines later (suc j) (after rows j e))

  -- the table printed from its bytes is the table printed
  pub table_law : table_form text names (table_bytes w rows ++ rest) (pool_bytes w ++ rest') ≡ explored_text p (explored w rows)
  unfolding table_form sizes_in explored_text
  table_law =
      let m : at_most most_terms (word_at table 4) ≡ length w =
      ap (at_most most_terms) (term-count w rows rest f.few_terms f.few_rows) ∙ all_of most_terms (length w) f.few_terms in
      let n : at_most most_rows (word_at table 0) ≡ length rows =
      ap (at_most most_rows) (row_count w rows rest f.few_terms f.few_rows) ∙ all_of most_rows (length rows) f.few_rows in
      ap₂ (λ (a b : ℕ). heading ++ runs (row_form text names table pool (sizes_to pool no_sizes a)) 0 b) m n
      ∙ ap (λ (l : List ℕ). heading ++ l) (lines rows 0 refl)
