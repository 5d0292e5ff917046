-- Demand 3 over the bytes that the calls leave: an exploration that was not refused has a sound table, and place and the plain run are not
-- refused either. Assumes nothing.
use Prim.Native.Nat.{ℕ, ◌+◌, ◌≤◌}
use Rattle.std.specs.Prelude.{◌≡◌, Bool, false, not, ◌||◌, length}
use Rattle.std.proofs.Common.{sym, ◌∙◌, ap₂, subst, le-ltb, eq-eqb}
use Rattle.std.proofs.Math.Path.{ap}
use mathlib.Core.List.{List, ◌++◌}
use Rattle.std.proofs.Math.ListN.{drop}
use Rattle.gil.specs.Names.{Program, accepted, check_text}
use Rattle.gil.specs.Rows.{Row}
use Rattle.gil.specs.Explore.{explored}
use Rattle.gil.specs.Pool.{Ref, Pool, table, value_of, pool_values, meets, placed}
use Rattle.gil.specs.Accounts.{put_in, Stands}
use Rattle.gil.proofs.Demand3.{of_the_table}
use Rattle.gil.proofs.Theory.Tests.{no_false}
use Rattle.gil.specs.Numbers.{most_steps, for_budgets, first_row, table_length, pool_length, answer_length, inputs_length}
use Rattle.gil.specs.Layout.{table_bytes, pool_bytes, answer_bytes, input_words}
use Rattle.gil.specs.Calls as Calls
use Rattle.gil.specs.Calls.{PlainAnswer, TableAnswer}
use Rattle.lent_words.specs.Mirror.{word_at}
use Rattle.table_locate.specs.Laws.Sound.{Sound}
use Rattle.table_locate.specs.Laws.Inputs.{Bytes}
use Rattle.demands.specs.Reasons.{of_budgets, of_lists, of_text, of_exploring, PlainReason, ExploreReason, PlaceReason, ExploresAs}
use Rattle.demands.proofs.Refusals.{sound-table, plain_runs, explore-refuses, explore-explores, place-explores}
use Rattle.demands.proofs.Determined.{ran_as, explored_as, same_tables}
use Rattle.demands.specs.FromBytes.{rows_in, steps_in, meets_row, put_in_bytes, OneRow}
use Rattle.demands.proofs.Rows.{Found, rows-read, meets-read, steps-read, put-read, accounted-found}

-- Arguments that are not refused
inputs-right : (inputs : List ℕ) → length inputs ≡ inputs_length → Calls.wrong_inputs inputs ≡ false
unfolding Calls.wrong_inputs
inputs-right inputs long = ap not (eq-eqb (length inputs) inputs_length long)

budget_right : (steps : ℕ) → steps ≤ most_steps → Calls.wrong_budget steps ≡ false
unfolding Calls.wrong_budget
budget_right steps h = le-ltb most_steps steps h

module _ (text inputs : List ℕ) (budget most : ℕ) (t w : List ℕ) where
  no-reason : (Calls.explore_call text budget most t w).returns ≡ 0 → (n : ℕ) → ExploreReason text budget most t w n → ⊥
  no-reason success = (explore-refuses text budget most t w).otherwise.0 success

  -- a reason of place, or of the plain run, is one of explore
  place-reason :
      length inputs ≡ inputs_length → (n : ℕ) → PlaceReason text inputs budget most t w n → ExploreReason text budget most t w n
  place-reason long n (of_budgets e) = of_budgets e
  place-reason long n (of_lists e) = of_lists (ap (λ (b : Bool). b || Calls.short_tables t w) (sym (inputs-right inputs long)) ∙ e)
  place-reason long n (of_text r) = of_text r
  place-reason long n (of_exploring r) = of_exploring r

  plain-reason :
      (steps : ℕ) (answer : List ℕ) → length inputs ≡ inputs_length → steps ≤ most_steps → answer_length ≤ length answer → (n : ℕ)
      → PlainReason text inputs steps answer n → ExploreReason text budget most t w n
  plain-reason steps answer long h g n (of_budgets e) = no_false e (budget_right steps h)
  plain-reason steps answer long h g n (of_lists e) =
      no_false e (ap₂ (λ (a b : Bool). a || b) (inputs-right inputs long) (le-ltb (length answer) answer_length g))
  plain-reason steps answer long h g n (of_text r) = of_text r
  plain-reason steps answer long h g n (of_exploring r) = elim r [ ]

  -- place explores into its table and pool just as explore does
  pub same-exploring :
      length inputs ≡ inputs_length → (Calls.explore_call text budget most t w).returns ≡ 0
      → ((Calls.place_call text inputs budget most t w).table ≡ (Calls.explore_call text budget most t w).table)
      × ((Calls.place_call text inputs budget most t w).pool ≡ (Calls.explore_call text budget most t w).pool)
  same-exploring long success =
      same_tables (place-explores text inputs budget most t w (λ n r. no-reason success n (place-reason long n r)))
      (explore-explores text budget most t w (no-reason success))

  module _
      (answer : List ℕ) (long : length inputs ≡ inputs_length) (bytes : Bytes inputs) (room : answer_length ≤ length answer)
      (none : (n : ℕ) → ExploreReason text budget most t w n → ⊥)
    where
      found :
          {p : Program} {terms : Pool} {rows : List (Row Ref)} (extra rest : List ℕ) → check_text text ≡ accepted p
          → table p budget most ≡ explored terms rows
          → Found (table_bytes terms rows ++ extra) (pool_bytes terms ++ rest) inputs p (placed (input_words inputs) terms rows)
      found {p} {terms} {rows} extra rest reads explores =
          let s : Sound terms rows = sound-table text budget most (λ e. none for_budgets (of_budgets e)) reads explores in
          let (a, e) = of_the_table p budget most (input_words inputs) terms rows explores in
          accounted-found s extra rest inputs long bytes p (placed (input_words inputs) terms rows) a e

      from_found :
          {p : Program} {terms : Pool} {rows : List (Row Ref)} → check_text text ≡ accepted p → table p budget most ≡ explored terms rows
          → OneRow inputs (table_bytes terms rows ++ drop table_length t) (pool_bytes terms ++ drop pool_length w) answer
          (Calls.place_call text inputs budget most t w).returns (λ steps. Calls.plain_call text inputs steps answer)
      unfolding Calls.places_in
      from_found {p} {terms} {rows} reads explores =
          let f = found (drop table_length t) (drop pool_length w) reads explores in
          let n : ℕ = steps_in (table_bytes terms rows ++ drop table_length t) f.row in
          let place = place-explores text inputs budget most t w (λ k r. none k (place-reason long k r)) in
          let run = plain_runs text inputs n answer (λ k r. none k (plain-reason n answer long f.few room k r)) in
          let ran =
          ran_as run reads ∙ ap (λ (l : List ℕ). record { returns = 0; answer = l ++ drop answer_length answer }) f.ran in
          record {
            row = f.row;
            there = f.there;
            met = f.met;
            only = f.only;
            placed = ap (λ (a : TableAnswer). a.returns) (explored_as place reads explores) ∙ ap (λ (k : ℕ). first_row + k) f.placed;
            ran = ran;
            used = ap (λ (a : PlainAnswer). word_at a.answer 12) ran ∙ f.used (drop answer_length answer);
          }

      from_tables :
          {a : TableAnswer} → ExploresAs Calls.succeeds text budget most t w a
          → OneRow inputs a.table a.pool answer (Calls.place_call text inputs budget most t w).returns
          (λ steps. Calls.plain_call text inputs steps answer)
      from_tables x =
          subst
          (λ (b : TableAnswer).
          OneRow inputs b.table b.pool answer (Calls.place_call text inputs budget most t w).returns
          (λ steps. Calls.plain_call text inputs steps answer))
          (sym x.is) (from_found x.reads x.explores)

  pub one-row :
      (answer : List ℕ) → length inputs ≡ inputs_length → Bytes inputs → answer_length ≤ length answer
      → (Calls.explore_call text budget most t w).returns ≡ 0
      → OneRow inputs (Calls.explore_call text budget most t w).table (Calls.explore_call text budget most t w).pool answer
      (Calls.place_call text inputs budget most t w).returns (λ steps. Calls.plain_call text inputs steps answer)
  one-row answer long bytes room success =
      from_tables answer long bytes room (no-reason success) (explore-explores text budget most t w (no-reason success))

-- what FromBytes reads in the bytes of an accepted text's table and pool
module _
    (text : List ℕ) (budget most : ℕ) (right : Calls.wrong_budgets budget most ≡ false) {p : Program} {terms : Pool} {rows : List (Row Ref)}
    (reads : check_text text ≡ accepted p) (explores : table p budget most ≡ explored terms rows) (surplus rest inputs : List ℕ)
    (long : length inputs ≡ inputs_length) (bytes : Bytes inputs)
  where
    pub bytes_read :
        (rows_in (table_bytes terms rows ++ surplus) ≡ length rows)
        × ((k : ℕ) (r : Row Ref) → Stands k r rows
        → (meets_row (table_bytes terms rows ++ surplus) (pool_bytes terms ++ rest) inputs k
        ≡ meets (pool_values (input_words inputs) terms) r.conditions)
        × (steps_in (table_bytes terms rows ++ surplus) k ≡ r.steps)
        × (put_in_bytes (table_bytes terms rows ++ surplus) (pool_bytes terms ++ rest) inputs k
        ≡ answer_bytes (put_in (value_of (pool_values (input_words inputs) terms)) r)))
    bytes_read =
        let s : Sound terms rows = sound-table text budget most (λ e. no_false e right) reads explores in (
          rows-read s surplus rest inputs long bytes,
          λ k r stands. (
            meets-read s surplus rest inputs long bytes stands,
            steps-read s surplus rest inputs long bytes stands,
            put-read s surplus rest inputs long bytes stands,
          ),
        )
