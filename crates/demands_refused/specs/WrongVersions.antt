-- "See these rejected": wrong versions of the calls, and for each the demand that refuses it, as a theorem. docs/WRONG-VERSIONS.md lists them.
-- A version is refused if it is wrong on one text; the texts are those of examples 1 and 8, and one that makes too many terms (Examples).
-- Assumes nothing.
use Prim.Native.Nat.{ℕ, zero, suc, ◌+◌, ◌*◌, ◌%◌, ◌≤◌, ◌<◌}
use native.Mathlib.Omega.{arith}
use Rattle.std.proofs.Math.Path.{◌≡◌, refl, sym, ap, subst}
use Rattle.std.proofs.Common.{◌∙◌, ap₂, ltb-true, le-ltb}
use Rattle.std.specs.Prelude.{Bool, true, ◌&&◌, ◌||◌, length, replicate, ltb}
use Rattle.std.proofs.Math.Bool.{false}
use mathlib.Core.List.{List, [], ◌∷◌, ◌++◌}
use Rattle.std.proofs.Math.ListN.{get_or, drop}
use Rattle.std.proofs.lemmas.List.{length-replicate}
use Rattle.gil.specs.Names.{Program, Checked, accepted, gather, check_text}
use Rattle.gil.specs.Machine.{vanished}
use Rattle.gil.specs.Rows.{Row, Outcome, ended, cut, steps, cut_for}
use Rattle.gil.specs.Explore.{Explored, explored, begin, after_commands}
use Rattle.gil.specs.Values.{Constant}
use Rattle.gil.specs.Pool.{Ref, place_in, Pool, pooled, table, value_of}
use Rattle.gil.specs.Accounts.{put_end, put_variable, row_with, put_outcome, put_in, Stands, here, further, Accounts, exploration_after}
use Rattle.gil.proofs.Demand3.{after_every_command}
use Rattle.gil.specs.Plain as Plain
use Rattle.gil.proofs.Theory.Tests.{no_false, and_left, and_right}
use Rattle.gil.specs.Numbers.{table_length, pool_length, answer_length, inputs_length, heading_length, row_length, for_terms}
use Rattle.gil.specs.Layout.{word_bytes, row_bytes, room, constant_words, value_words, reason_code, end_words, outcome_words, head_words, parts_words, row_parts, row_words, ref_tag, table_bytes, pool_bytes, answer_bytes, input_words}
use Rattle.gil.specs.Calls as Calls
use Rattle.gil.specs.Calls.{PlainAnswer, TableAnswer}
use Rattle.gil.specs.Promises.{check, plain_run, explore, place, Version}
use Rattle.machine_code.specs.WellFormed.{none, more}
use Rattle.demands.specs.Reasons.{CheckReason, PlainReason, ExploreReason, PlaceReason}
use Rattle.demands.proofs.Refusals.{check-refuses, plain-refuses, plain_runs, sound-table, placed_row, explore-refuses, explore-explores, place-refuses}
use Rattle.demands.proofs.Determined.{ran_as, explored_as}
use Rattle.demands.specs.FromBytes.{rows_in, steps_in, meets_row, put_in_bytes, OneRow}
use Rattle.demands.proofs.Rows.{each_at, stands_at, rows-read, meets-read, steps-read, put-read}
use Rattle.demands_refused.specs.Examples.{text8, program8, row8, text_a, terms_a, row_a, row_a', inputs38, text_many, computed}
use Rattle.demands.proofs.Orders.{first_holds}
use Rattle.demands.specs.Demands.{Demand1, Demand2, Demand3}
use Rattle.lent_words.specs.Mirror.{word_at}
use Rattle.table_locate.specs.Laws.Inputs.{Bytes}
use Rattle.table_locate.specs.Laws.Sound.{Sound, RowFits, OutcomeFits, fits_ended, fits_vanished, fits_cut}
use Rattle.table_locate.proofs.Laws.Rows.{RowAt, row_count}

-- lent memory, and inputs, of just the length needed
pub lent_table : List ℕ
lent_table = replicate table_length 0

pub lent_pool : List ℕ
lent_pool = replicate pool_length 0

pub lent_answer : List ℕ
lent_answer = replicate answer_length 0

pub no_inputs : List ℕ
no_inputs = replicate inputs_length 0

enough : (n : ℕ) → ltb (length {A = ℕ} (replicate n 0)) n ≡ false
enough n =
    let e : length {A = ℕ} (replicate n 0) ≡ n = length-replicate n 0 in
    le-ltb (length {A = ℕ} (replicate n 0)) n (omega arith)

tables_long : Calls.short_tables lent_table lent_pool ≡ false
unfolding Calls.short_tables lent_table lent_pool
tables_long = ap₂ (λ (a b : Bool). a || b) (enough table_length) (enough pool_length)

budgets_right : Calls.wrong_budgets 1024 16 ≡ true → ⊥
unfolding Calls.wrong_budgets
budgets_right e = no_false e refl

inputs_long : Calls.wrong_inputs no_inputs ≡ false
unfolding Calls.wrong_inputs no_inputs
inputs_long = refl

answer-long : ltb (length lent_answer) answer_length ≡ false
unfolding lent_answer
answer-long = enough answer_length

-- a text that is accepted and explored is refused for no reason
module _
    (text : List ℕ) {p : Program} {terms : Pool} {rows : List (Row Ref)} (reads : check_text text ≡ accepted p)
    (explores : table p 1024 16 ≡ explored terms rows)
  where
    tables_go :
        (succeed : Pool → List (Row Ref) → ℕ) (b : Bool) → b ≡ false
        → (Calls.explore_on succeed 1024 16 lent_table lent_pool (Calls.first_of (Calls.wrong_budgets 1024 16) b (check_text text))).returns
        ≡ succeed terms rows
    unfolding Calls.wrong_budgets Calls.first_of Calls.explore_on Calls.tables_after
    tables_go succeed b e =
        ap (λ (a : Bool). (Calls.explore_on succeed 1024 16 lent_table lent_pool (Calls.first_of false a (check_text text))).returns) e
        ∙ ap (λ (c : Checked). (Calls.explore_on succeed 1024 16 lent_table lent_pool c).returns) reads
        ∙ ap (λ (x : Explored Pool Ref). (Calls.tables_after succeed lent_table lent_pool x).returns) explores

    explore-none : (n : ℕ) → ExploreReason text 1024 16 lent_table lent_pool n → ⊥
    unfolding Calls.explore_call Calls.succeeds
    explore-none = (explore-refuses text 1024 16 lent_table lent_pool).otherwise.0 (tables_go Calls.succeeds _ tables_long)

    place_none : (n : ℕ) → PlaceReason text no_inputs 1024 16 lent_table lent_pool n → ⊥
    unfolding Calls.place_call Calls.places_in
    place_none =
        (place-refuses text no_inputs 1024 16 lent_table lent_pool).otherwise.0
        (let e : _ ≡ _ = tables_go (Calls.places_in no_inputs) _ (ap₂ (λ (a b : Bool). a || b) inputs_long tables_long) in
        rw e (placed_row text 1024 16 budgets_right (input_words no_inputs) reads explores))

    plain-none : (budget : ℕ) → Calls.wrong_budget budget ≡ false → (n : ℕ) → PlainReason text no_inputs budget lent_answer n → ⊥
    unfolding Calls.plain_call Calls.first_of Calls.plain_on
    plain-none budget few =
        (plain-refuses text no_inputs budget lent_answer).otherwise.0
        (ap₂ (λ (a b : Bool). (Calls.plain_on no_inputs budget lent_answer (Calls.first_of a b (check_text text))).returns) few
        (ap₂ (λ (a b : Bool). a || b) inputs_long answer-long)
        ∙ ap (λ (c : Checked). (Calls.plain_on no_inputs budget lent_answer c).returns) reads)

    check-none : (n : ℕ) → CheckReason text n → ⊥
    unfolding Calls.check_call Calls.text_answer
    check-none = (check-refuses text).otherwise.0 (ap Calls.text_answer reads)

many-refused : (Calls.explore_call text_many 1024 16 lent_table lent_pool).returns ≡ 10
unfolding Calls.explore_call Calls.wrong_budgets Calls.first_of Calls.explore_on Calls.tables_after
many-refused =
    ap (λ (b : Bool). (Calls.explore_on Calls.succeeds 1024 16 lent_table lent_pool (Calls.first_of false b (check_text text_many))).returns) tables_long
    ∙ ap (λ (c : Checked). (Calls.explore_on Calls.succeeds 1024 16 lent_table lent_pool c).returns) computed.reads_many
    ∙ ap (λ (x : Explored Pool Ref). (Calls.tables_after Calls.succeeds lent_table lent_pool x).returns) computed.table_many

module _ (v : Version) where
  -- REFUSES EVERYTHING (demand 1), in any one of the four calls
  pub no-check-refuses-all : ((text : List ℕ) → 1 ≤ v (check text)) → Demand1 v → ⊥
  no-check-refuses-all always d =
      let e : v (check text8) ≡ 0 = (d.refuses (check text8)).otherwise.1 (check-none text8 computed.reads8 computed.table8) in
      omega (arith, always text8)

  pub no-plain-refuses-all :
      ((text inputs : List ℕ) (budget : ℕ) (answer : List ℕ) → 1 ≤ (v (plain_run text inputs budget answer)).returns) → Demand1 v → ⊥
  no-plain-refuses-all always d =
      let e : (v (plain_run text8 no_inputs 1024 lent_answer)).returns ≡ 0 =
      (d.refuses (plain_run text8 no_inputs 1024 lent_answer)).otherwise.1
      (plain-none text8 computed.reads8 computed.table8 1024 (unfold Calls.wrong_budget in refl)) in
      omega (arith, always text8 no_inputs 1024 lent_answer)

  pub no-explore-refuses-all :
      ((text : List ℕ) (budget most : ℕ) (t w : List ℕ) → 1 ≤ (v (explore text budget most t w)).returns) → Demand1 v → ⊥
  no-explore-refuses-all always d =
      let e : (v (explore text8 1024 16 lent_table lent_pool)).returns ≡ 0 =
      (d.refuses (explore text8 1024 16 lent_table lent_pool)).otherwise.1 (explore-none text8 computed.reads8 computed.table8) in
      omega (arith, always text8 1024 16 lent_table lent_pool)

  pub no-place-refuses-all :
      ((text inputs : List ℕ) (budget most : ℕ) (t w : List ℕ) → (v (place text inputs budget most t w)).returns ≤ 10) → Demand1 v → ⊥
  no-place-refuses-all always d =
      let (e, _) =
      (d.refuses (place text8 no_inputs 1024 16 lent_table lent_pool)).otherwise.1 (place_none text8 computed.reads8 computed.table8) in
      omega (arith, always text8 no_inputs 1024 16 lent_table lent_pool)

  -- A MADE-UP COUNT OF TERMS (demand 1, by refusal 10): too many, where a text that makes no term is refused; too few, where one that would
  -- make the 2,049th is not
  pub no-terms_too_many : (v (explore text8 1024 16 lent_table lent_pool)).returns ≡ 10 → Demand1 v → ⊥
  no-terms_too_many e d =
      explore-none text8 computed.reads8 computed.table8 for_terms
      (first_holds (((d.refuses (explore text8 1024 16 lent_table lent_pool)).exactly for_terms (omega arith) (omega arith)).0 e))

  pub no-terms_too_few : ((v (explore text_many 1024 16 lent_table lent_pool)).returns ≡ 10 → ⊥) → Demand1 v → ⊥
  no-terms_too_few e d =
      e
      (((d.refuses (explore text_many 1024 16 lent_table lent_pool)).exactly for_terms (omega arith) (omega arith)).1
      (((explore-refuses text_many 1024 16 lent_table lent_pool).exactly for_terms (omega arith) (omega arith)).0 many-refused))

-- the tables of the two texts are sound, and so are those that wrong versions make of their rows
sound_8 : Sound [] (row8 (ended vanished) 1 ∷ [])
sound_8 = sound-table text8 1024 16 budgets_right computed.reads8 computed.table8

sound_A : Sound terms_a (row_a ∷ row_a' ∷ [])
sound_A = sound-table text_a 1024 16 budgets_right computed.reads_a computed.table_a

sound-twice : Sound terms_a (row_a ∷ row_a ∷ [])
sound-twice =
    let r : RowFits terms_a row_a = each_at sound_A.rows here in
    record { few_terms = sound_A.few_terms; terms = sound_A.terms; some_row = omega arith; few_rows = omega arith; rows = more r (more r none) }

sound-made_up : (o : Outcome Ref) (n : ℕ) → OutcomeFits [] o → n ≤ 1024 → Sound [] (row8 o n ∷ [])
unfolding row8
sound-made_up o n f h =
    let r : RowFits [] (row8 (ended vanished) 1) = each_at sound_8.rows here in
    record {
      few_terms = sound_8.few_terms;
      terms = sound_8.terms;
      some_row = omega arith;
      few_rows = omega arith;
      rows =
          more
          (record {
            outcome = f;
            steps = h;
            procedure = r.procedure;
            command = r.command;
            inputs = r.inputs;
            few_conditions = r.few_conditions;
            conditions = r.conditions;
            variables = r.variables;
            cells = r.cells;
          })
          none;
    }

-- two tables of the same bytes have the same words in each row
same_word :
    {u w : Pool} {rows others : List (Row Ref)} (s : Sound u rows) (s' : Sound w others) (extra : List ℕ) {k : ℕ} {r r' : Row Ref}
    → Stands k r rows
    → Stands k r' others
    → (j : ℕ)
    → j < 256
    → table_bytes u rows ++ extra ≡ table_bytes w others ++ extra
    → get_or (row_words ref_tag place_in r) j 0 ≡ get_or (row_words ref_tag place_in r') j 0
unfolding RowAt
same_word s s' extra {k} here-is there-is j h e =
    sym (stands_at s extra here-is (heading_length + row_length * k + 4 * j) j h refl)
    ∙ ap (λ (l : List ℕ). word_at l (heading_length + row_length * k + 4 * j)) e
    ∙ stands_at s' extra there-is (heading_length + row_length * k + 4 * j) j h refl

-- bytes of an answer: the lowest of its outcome, and of its steps
vanished-first : (n : ℕ) (x : List ℕ) → get_or (answer_bytes (row8 (ended vanished) n) ++ x) 0 0 ≡ 3
unfolding row8 answer_bytes row_bytes gather row_words row_parts parts_words head_words room outcome_words end_words word_bytes
vanished-first n x = refl

cut-first : (x : List ℕ) → get_or (answer_bytes (row8 (cut steps) 0) ++ x) 0 0 ≡ 5
unfolding row8 answer_bytes row_bytes gather row_words row_parts parts_words head_words room outcome_words reason_code word_bytes
cut-first x = refl

steps_byte : (n : ℕ) (x : List ℕ) → get_or (answer_bytes (row8 (ended vanished) n) ++ x) 12 0 ≡ n % 256
unfolding row8 answer_bytes row_bytes gather row_words row_parts parts_words head_words room outcome_words end_words word_bytes
steps_byte n x = refl

module _ (v : Version) (d : Demand2 v) where
  -- what demand 2 says of the two texts
  table_of :
      (text : List ℕ) {p : Program} {terms : Pool} {rows : List (Row Ref)}
      → check_text text ≡ accepted p
      → table p 1024 16 ≡ explored terms rows
      → (v (explore text 1024 16 lent_table lent_pool)).table ≡ table_bytes terms rows ++ drop table_length lent_table
  table_of text reads explores =
      ap (λ (a : TableAnswer). a.table)
      (explored_as (d.answers (explore text 1024 16 lent_table lent_pool) (explore-none text reads explores)) reads explores)

  -- ONE CONSTANT TABLE (demand 2)
  pub no_constant_table :
      (T : List ℕ) → (v (explore text8 1024 16 lent_table lent_pool)).table ≡ T → (v (explore text_a 1024 16 lent_table lent_pool)).table ≡ T → ⊥
  no_constant_table T e f =
      let x : List ℕ = drop table_length lent_table in
      let same : table_bytes [] (row8 (ended vanished) 1 ∷ []) ++ x ≡ table_bytes terms_a (row_a ∷ row_a' ∷ []) ++ x =
      sym (table_of text8 computed.reads8 computed.table8) ∙ e ∙ sym f ∙ table_of text_a computed.reads_a computed.table_a in
      let z : ◌≡◌ {A = ℕ} 1 2 =
      sym (row_count sound_8 x) ∙ ap (λ (l : List ℕ). word_at l 0) same ∙ row_count sound_A x in
      omega arith

  -- WRITES NOTHING (demand 2)
  pub no-explore-writes-nothing : ((text : List ℕ) (budget most : ℕ) (t w : List ℕ) → (v (explore text budget most t w)).table ≡ t) → ⊥
  no-explore-writes-nothing f =
      no_constant_table lent_table (f text8 1024 16 lent_table lent_pool) (f text_a 1024 16 lent_table lent_pool)

  answer_of_lem :
      (budget : ℕ) → Calls.wrong_budget budget ≡ false
      → v (plain_run text8 no_inputs budget lent_answer)
      ≡ record { returns = 0; answer = answer_bytes (Plain.plain_run program8 (input_words no_inputs) budget) ++ drop answer_length lent_answer }
  answer_of_lem budget few =
      ran_as (d.answers (plain_run text8 no_inputs budget lent_answer) (plain-none text8 computed.reads8 computed.table8 budget few)) computed.reads8

  pub no-plain-writes-nothing :
      ((text inputs : List ℕ) (budget : ℕ) (answer : List ℕ) → (v (plain_run text inputs budget answer)).answer ≡ answer) → ⊥
  unfolding Calls.wrong_budget
  no-plain-writes-nothing f =
      let x : List ℕ = drop answer_length lent_answer in
      let run : ℕ → Row ⊥ = Plain.plain_run program8 (input_words no_inputs) in
      let kept : (budget : ℕ) → Calls.wrong_budget budget ≡ false → (r : Row ⊥) → run budget ≡ r → answer_bytes r ++ x ≡ lent_answer =
      λ budget few r e.
      ap (λ (q : Row ⊥). answer_bytes q ++ x) (sym e)
      ∙ ap (λ (a : PlainAnswer). a.answer) (sym (answer_of_lem budget few))
      ∙ f text8 no_inputs budget lent_answer in
      let z : ◌≡◌ {A = ℕ} 3 5 =
      sym (vanished-first 1 x)
      ∙ ap (λ (l : List ℕ). get_or l 0 0)
      (kept 7 refl (row8 (ended vanished) 1) (computed.run8 (input_words no_inputs))
      ∙ sym (kept 0 refl (row8 (cut steps) 0) (computed.cut8 (input_words no_inputs))))
      ∙ cut-first x in
      omega arith

  -- a table for example 8 of one row that is not its row
  other_row :
      (o : Outcome Ref) (n : ℕ) → OutcomeFits [] o → n ≤ 1024
      → (v (explore text8 1024 16 lent_table lent_pool)).table ≡ table_bytes [] (row8 o n ∷ []) ++ drop table_length lent_table
      → (j : ℕ)
      → j < 256
      → get_or (row_words ref_tag place_in (row8 (ended vanished) 1)) j 0 ≡ get_or (row_words ref_tag place_in (row8 o n)) j 0
  other_row o n f h e j l =
      same_word sound_8 (sound-made_up o n f h) (drop table_length lent_table) here here j l
      (sym (table_of text8 computed.reads8 computed.table8) ∙ e)

  -- A MADE-UP COUNT OF STEPS (demand 2): any but the one step of example 8
  pub no-made_up_steps :
      (n : ℕ) → n ≤ 1024 → (n ≡ 1 → ⊥)
      → (v (explore text8 1024 16 lent_table lent_pool)).table ≡ table_bytes [] (row8 (ended vanished) n ∷ []) ++ drop table_length lent_table
      → ⊥
  unfolding row8 row_words row_parts parts_words head_words outcome_words end_words room
  no-made_up_steps n h f e = f (sym (other_row (ended vanished) n (fits_ended fits_vanished) h e 3 (omega arith)))

  -- ONE ROW CUT AT NOUGHT STEPS (demand 2)
  pub no-cut-at_nought :
      (v (explore text8 1024 16 lent_table lent_pool)).table ≡ table_bytes [] (row8 (cut steps) 0 ∷ []) ++ drop table_length lent_table → ⊥
  unfolding row8 row_words row_parts parts_words head_words outcome_words end_words reason_code room
  no-cut-at_nought e =
      let z : ◌≡◌ {A = ℕ} 3 5 = other_row (cut steps) 0 fits_cut (omega arith) e 0 (omega arith) in
      omega arith

  -- THE FIRST PATH AND AN INVENTED REST (demand 2): any other table, pool or answer than the definitions' is refused, on any text; so example
  -- 1's first row, twice
  pub no_invented_table :
      (text : List ℕ) (budget most : ℕ) (t w : List ℕ)
      → ((n : ℕ) → ExploreReason text budget most t w n → ⊥)
      → (v (explore text budget most t w) ≡ Calls.explore_call text budget most t w → ⊥)
      → ⊥
  no_invented_table text budget most t w no-reason other =
      let y = explore-explores text budget most t w no-reason in
      other (explored_as (d.answers (explore text budget most t w) no-reason) y.reads y.explores ∙ sym y.is)

  pub no_invented_rest :
      (v (explore text_a 1024 16 lent_table lent_pool)).table ≡ table_bytes terms_a (row_a ∷ row_a ∷ []) ++ drop table_length lent_table → ⊥
  unfolding row_a row_a' row_words row_parts parts_words head_words outcome_words end_words room value_words constant_words
  no_invented_rest e =
      let z : ◌≡◌ {A = ℕ} 1 2 =
      same_word sound_A sound-twice (drop table_length lent_table) (further here) (further here) 0 (omega arith)
      (sym (table_of text_a computed.reads_a computed.table_a) ∙ e) in
      omega arith

-- every number of a list is a byte
all_small : List ℕ → Bool
all_small [] = true
all_small (a ∷ l) = ltb a 256 && all_small l

small_bytes : (l : List ℕ) → all_small l ≡ true → Bytes l
unfolding all_small
small_bytes [] e k = omega arith
small_bytes (a ∷ l) e zero = ltb-true a 256 (and_left (ltb a 256) (all_small l) e)
small_bytes (a ∷ l) e (suc k) = small_bytes l (and_right (ltb a 256) (all_small l) e) k

bytes_38 : Bytes inputs38
unfolding inputs38 all_small
bytes_38 = small_bytes inputs38 refl

long_38 : length inputs38 ≡ inputs_length
unfolding inputs38
long_38 = refl

bytes-none : Bytes no_inputs
unfolding no_inputs all_small
bytes-none = small_bytes no_inputs refl

long-none : length no_inputs ≡ inputs_length
unfolding no_inputs
long-none = refl

answer-room : answer_length ≤ length lent_answer
unfolding lent_answer
answer-room = let e : length {A = ℕ} (replicate answer_length 0) ≡ answer_length = length-replicate {A = ℕ} answer_length 0 in omega arith

-- example 8's row with inputs put in, and its steps
put_8 : (n : ℕ) (cs : List Constant) → put_in (value_of cs) (row8 (ended vanished) n) ≡ row8 (ended vanished) n
unfolding row8 put_in row_with put_outcome put_end put_variable value_of
put_8 n cs = refl

steps_8 : (n : ℕ) {m : ℕ} → m ≡ (row8 {T = Ref} (ended vanished) n).steps → m ≡ n
unfolding row8
steps_8 n e = e

-- a table of wrong rows, with the surplus of lent memory
abbrev wrong_table : Pool → List (Row Ref) → TableAnswer
wrong_table terms rows =
    record { returns = 0; table = table_bytes terms rows ++ drop table_length lent_table; pool = pool_bytes terms ++ drop pool_length lent_pool }

module _ (v : Version) (d : Demand3 v) where
  -- what demand 3 says of what a version left
  row-among :
      (text inputs : List ℕ) → length inputs ≡ inputs_length → Bytes inputs → (a : TableAnswer)
      → v (explore text 1024 16 lent_table lent_pool) ≡ a
      → a.returns ≡ 0
      → OneRow inputs a.table a.pool lent_answer (v (place text inputs 1024 16 lent_table lent_pool)).returns
      (λ n. v (plain_run text inputs n lent_answer))
  row-among text inputs long bytes a e success =
      subst
      (λ (b : TableAnswer).
      OneRow inputs b.table b.pool lent_answer (v (place text inputs 1024 16 lent_table lent_pool)).returns
      (λ n. v (plain_run text inputs n lent_answer)))
      e
      (d.accounts text inputs 1024 16 lent_table lent_pool lent_answer long bytes answer-room
      (ap (λ (b : TableAnswer). b.returns) e ∙ success))

  -- THE FIRST PATH AND AN INVENTED REST (demand 3): no inputs meet two rows' conditions; of example 1's first row, twice, 3 and 8 meet both
  pub no_two_rows :
      (text inputs : List ℕ) → length inputs ≡ inputs_length → Bytes inputs → (a : TableAnswer)
      → v (explore text 1024 16 lent_table lent_pool) ≡ a
      → a.returns ≡ 0
      → (j k : ℕ)
      → j < k
      → k < rows_in a.table
      → meets_row a.table a.pool inputs j ≡ true
      → meets_row a.table a.pool inputs k ≡ true
      → ⊥
  no_two_rows text inputs long bytes a e success j k before there meets-j meets-k =
      let o = row-among text inputs long bytes a e success in
      let first : j ≡ o.row = o.only j (omega arith) meets-j in
      let second : k ≡ o.row = o.only k there meets-k in
      omega arith

  pub no_invented_rest_3 : v (explore text_a 1024 16 lent_table lent_pool) ≡ wrong_table terms_a (row_a ∷ row_a ∷ []) → ⊥
  no_invented_rest_3 e =
      let x : List ℕ = drop table_length lent_table in
      let y : List ℕ = drop pool_length lent_pool in
      let rows : rows_in (table_bytes terms_a (row_a ∷ row_a ∷ []) ++ x) ≡ 2 = rows-read sound-twice x y inputs38 long_38 bytes_38 in
      no_two_rows text_a inputs38 long_38 bytes_38 (wrong_table terms_a (row_a ∷ row_a ∷ [])) e refl 0 1 (omega arith) (omega arith)
      (meets-read sound-twice x y inputs38 long_38 bytes_38 here ∙ computed.meets_a)
      (meets-read sound-twice x y inputs38 long_38 bytes_38 (further here) ∙ computed.meets_a)

  -- A MADE-UP COUNT OF STEPS (demand 3): the plain run given seven steps uses one
  pub no-made_up_steps_3 :
      v (explore text8 1024 16 lent_table lent_pool) ≡ wrong_table [] (row8 (ended vanished) 7 ∷ [])
      → v (plain_run text8 no_inputs 7 lent_answer) ≡ Calls.plain_call text8 no_inputs 7 lent_answer
      → ⊥
  unfolding Calls.wrong_budget
  no-made_up_steps_3 e f =
      let x : List ℕ = drop table_length lent_table in
      let y : List ℕ = drop pool_length lent_pool in
      let z : List ℕ = drop answer_length lent_answer in
      let T : List ℕ = table_bytes [] (row8 (ended vanished) 7 ∷ []) ++ x in
      let s : Sound [] (row8 (ended vanished) 7 ∷ []) = sound-made_up (ended vanished) 7 (fits_ended fits_vanished) (omega arith) in
      let o = row-among text8 no_inputs long-none bytes-none (wrong_table [] (row8 (ended vanished) 7 ∷ [])) e refl in
      let rows : rows_in T ≡ 1 = rows-read s x y no_inputs long-none bytes-none in
      let there : o.row < rows_in T = o.there in
      let only : o.row ≡ 0 = omega arith in
      let seven : steps_in T 0 ≡ 7 = steps_8 7 (steps-read s x y no_inputs long-none bytes-none here) in
      let put : put_in_bytes T (pool_bytes [] ++ y) no_inputs 0 ≡ answer_bytes (row8 (ended vanished) 7) =
      put-read s x y no_inputs long-none bytes-none here ∙ ap answer_bytes (put_8 7 _) in
      let answers : List ℕ → PlainAnswer = λ l. record { returns = 0; answer = l ++ z } in
      let ran : v (plain_run text8 no_inputs (steps_in T 0) lent_answer) ≡ answers (put_in_bytes T (pool_bytes [] ++ y) no_inputs 0) =
      subst (λ (k : ℕ). v (plain_run text8 no_inputs (steps_in T k) lent_answer) ≡ answers (put_in_bytes T (pool_bytes [] ++ y) no_inputs k)) only o.ran in
      let right : Calls.plain_call text8 no_inputs 7 lent_answer ≡ answers (answer_bytes (Plain.plain_run program8 (input_words no_inputs) 7)) =
      ran_as (plain_runs text8 no_inputs 7 lent_answer (plain-none text8 computed.reads8 computed.table8 7 refl)) computed.reads8 in
      let same : answer_bytes (row8 (ended vanished) 1) ++ z ≡ answer_bytes (row8 (ended vanished) 7) ++ z =
      ap (λ (r : Row ⊥). answer_bytes r ++ z) (sym (computed.run8 (input_words no_inputs)))
      ∙ ap (λ (a : PlainAnswer). a.answer)
      (sym right ∙ sym f ∙ ap (λ (n : ℕ). v (plain_run text8 no_inputs n lent_answer)) (sym seven) ∙ ran)
      ∙ ap (λ (l : List ℕ). l ++ z) put in
      let wrong : ◌≡◌ {A = ℕ} 1 7 = sym (steps_byte 1 z) ∙ ap (λ (l : List ℕ). get_or l 12 0) same ∙ steps_byte 7 z in
      omega arith

-- "One row cut at nought steps would satisfy demand 3 alone, so 3 is stated over demand 2's table": it accounts for all inputs, as after no
-- command of the exploration
pub cut_at_nought : Program → Row Ref
unfolding pooled
cut_at_nought p = cut_for steps (begin pooled p)

pub nought_accounts : (p : Program) (inputs : List ℕ) → Accounts p inputs [] (cut_at_nought p ∷ [])
unfolding cut_at_nought exploration_after after_commands pooled
nought_accounts p inputs = after_every_command p 1024 16 inputs 0 [] [] (begin pooled p ∷ []) refl
