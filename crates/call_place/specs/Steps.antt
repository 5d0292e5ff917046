-- What place answers and leaves where it refuses, where its exploration is refused, and where it finds a row: the laws that its proof cites.
-- Assumes nothing.
use Rattle.std.specs.Prelude.{ℕ, ◌+◌, ◌≤◌, ◌<◌, Bool, false, ◌||◌, length, ltb, Option, None, Some, IsSomeAnd}
use Rattle.std.proofs.Math.Path.{◌≡◌, refl, sym, ap, ap₂}
use Rattle.std.proofs.Common.{arith, ◌∙◌, subst, subst₂}
use mathlib.Core.List.{List, ◌++◌}
use Rattle.std.proofs.Math.ListN.{drop}
use Rattle.gil.specs.Explore as Explore
use Rattle.gil.specs.Pool.{Pool, Ref}
use Rattle.gil.specs.Pool as Pools
use Rattle.gil.specs.Calls.{wrong_budgets, short_tables, wrong_inputs, TableAnswer, tables_after, places_in, place_call}
use Rattle.gil.specs.Numbers.{table_length, pool_length, first_row, most_rows}
use Rattle.gil.specs.Layout.{table_bytes, pool_bytes}
use Rattle.machine_code.proofs.Accepted.Lists.{or_false}
use Rattle.table_locate.specs.Laws.Inputs.{Bytes}
use Rattle.lent_words.specs.Mirror.{word_at}
use Rattle.lent_words.specs.Laws.Words.{at_most-min}
use Rattle.table_locate.specs.Mirror.{locate_in, found, rows_in}
use Rattle.table_locate.proofs.Laws.Place.{place_found}
use Rattle.table_explore.specs.Mirror.{Explored}
use Rattle.table_explore_laws.specs.Laws.Leaves.{ExploredAs, was_refused, was_explored}
use Rattle.call_given.specs.Mirror.{Begun}
use Rattle.call_given.specs.Laws.{begun-on, tables_long, inputs_long}
use Rattle.call_explore.specs.Mirror.{Leaves}
use Rattle.call_explore.specs.Laws.{tables_refused, Was, was, tables_are, answers_are}

module _ (text inputs : List ℕ) (steps branches : ℕ) (t w : List ℕ) where
  abbrev Places : ℕ → List ℕ → List ℕ → Type 0
  Places r t' w' = ◌≡◌ {A = TableAnswer} (record { returns = r; table = t'; pool = w' }) (place_call text inputs steps branches t w)

  abbrev shorts : Bool
  shorts = ltb (length t) table_length || ltb (length w) pool_length

  -- the beginning, given what the tests answered
  module _
      {budgets list short lists : Bool} {code : List ℕ} {read : ℕ} (eb : budgets ≡ wrong_budgets steps branches) (es : short ≡ shorts)
      (ei : list ≡ wrong_inputs inputs) (el : lists ≡ (list || short)) (b : Begun budgets lists text code read)
    where
      begun : Begun (wrong_budgets steps branches) (wrong_inputs inputs || shorts) text code read
      begun = subst₂ (λ (x y : Bool). Begun x y text code read) eb (el ∙ ap₂ (λ (x y : Bool). x || y) ei es) b

      pub place-refused : (read ≡ 0 → ⊥) → Places read t w
      unfolding place_call short_tables
      place-refused z = tables_refused (places_in inputs) text steps branches t w begun z

      module _ (z : read ≡ 0) where
        right : (wrong_inputs inputs ≡ false) × (shorts ≡ false)
        right = or_false (wrong_inputs inputs) shorts (begun-on begun z).right_lists

        pub long : (table_length ≤ length t) × (pool_length ≤ length w)
        long = tables_long (length t) (length w) right.1

        module _ {r : ℕ} {t' w' : List ℕ} (h : Leaves code steps branches t w r t' w') where
          left : Was text steps branches t w (wrong_inputs inputs || shorts) r t' w'
          left = was text steps branches t w begun z long h

          pub place-full : (r ≡ 0 → ⊥) → Places r t' w'
          unfolding place_call short_tables tables_after
          place-full n = answers_are (places_in inputs) left (full left.goes left.answers left.table left.pool)
            where
              full :
                  {e : Explore.Explored Pool Ref} {x : Explored} → ExploredAs e x → r ≡ x.refusal → t' ≡ x.table ++ drop table_length t
                  → w' ≡ x.pool ++ drop pool_length w
                  → ◌≡◌ {A = TableAnswer} (record { returns = r; table = t'; pool = w' }) (tables_after (places_in inputs) t w e)
              full (was_refused {n = k} e _ et ep) ea eb ec =
                  tables_are (tables_after (places_in inputs) t w (Explore.refused k)) (ea ∙ e)
                  (eb ∙ ap (λ (l : List ℕ). l ++ drop table_length t) et) (ec ∙ ap (λ (l : List ℕ). l ++ drop pool_length w) ep) refl
              full (was_explored e few et ep) ea eb ec = absurd (n (ea ∙ e))

          pub place-places :
              Bytes inputs → r ≡ 0 → (o : Option ℕ) → found o (rows_in t') (locate_in t' w' inputs)
              → IsSomeAnd o (λ k. (k < most_rows) × Places (first_row + k) t' w')
          unfolding place_call short_tables tables_after
          place-places bytes n o f = there left.goes refl left.answers left.table left.pool o f
            where
              there :
                  {e : Explore.Explored Pool Ref} {x : Explored} → ExploredAs e x → Pools.table left.program steps branches ≡ e
                  → r ≡ x.refusal
                  → t' ≡ x.table ++ drop table_length t
                  → w' ≡ x.pool ++ drop pool_length w
                  → (o : Option ℕ)
                  → found o (rows_in t') (locate_in t' w' inputs)
                  → IsSomeAnd o (λ k. (k < most_rows) × Places (first_row + k) t' w')
              there (was_refused e m et ep) g ea eb ec o f = absurd (m (sym e ∙ sym ea ∙ n))
              there (was_explored {w = terms} {rows = rows} e few et ep) g ea eb ec o f =
                  let a = eb ∙ ap (λ (l : List ℕ). l ++ drop table_length t) et in
                  let b = ec ∙ ap (λ (l : List ℕ). l ++ drop pool_length w) ep in
                  let at : found o (rows_in (table_bytes terms rows ++ drop table_length t)) (locate_in (table_bytes terms rows ++ drop table_length t) (pool_bytes terms ++ drop pool_length w) inputs) =
                  subst₂ (λ (l m : List ℕ). found o (rows_in l) (locate_in l m inputs)) a b f in
                  row o a b f
                  (place_found steps branches left.well_formed left.small.0 left.small.1 g (drop table_length t) (drop pool_length w) inputs
                  (inputs_long inputs right.0) bytes o at)
                where
                  row :
                      (o : Option ℕ) → t' ≡ table_bytes terms rows ++ drop table_length t → w' ≡ pool_bytes terms ++ drop pool_length w
                      → found o (rows_in t') (locate_in t' w' inputs)
                      → IsSomeAnd o (λ k. first_row + k ≡ places_in inputs terms rows)
                      → IsSomeAnd o (λ k. (k < most_rows) × Places (first_row + k) t' w')
                  row None a b f h = h
                  row (Some k) a b (is, below) h = (
                    omega (arith, below, at_most-min most_rows (word_at t' 0)),
                    answers_are (places_in inputs) left (subst (λ e. ◌≡◌ {A = TableAnswer} (record { returns = first_row + k; table = t'; pool = w' }) (tables_after (places_in inputs) t w e)) (sym g)
                        (tables_are (tables_after (places_in inputs) t w (Explore.explored terms rows)) h a b refl)),
                  )
