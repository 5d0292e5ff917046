-- What the functions' own proofs cite: one more term's value, and what `all` and `find` over the numbers come to; and the conditions and the rows one
-- by one. Assumes nothing.
use Rattle.std.specs.Prelude.{ℕ, zero, suc, ◌+◌, ◌*◌, ◌-◌, ◌≤◌, ◌<◌, ◌≡◌, refl, Bool, true, false, List, set, replicate, Option, None, Some, MatchOption, ◌&&◌}
use Rattle.std.specs.List.{list_all, range_with_len}
use Rattle.std.proofs.Common.{add-one, add-zero, ◌∙◌, sym, ap, ap₂, inl, inr, arith}
use Rattle.std.proofs.lemmas.Bool.{cases_eq}
use Rattle.machine_code.specs.Mirror.{if?}
use Rattle.gil.specs.Numbers.{most_branches, most_rows, most_terms, word_length, row_length, heading_length, conditions_word}
use Rattle.lent_words.specs.Mirror.{word_at, at_most}
use Rattle.table_locate.specs.Mirror.{term_value, values_to, condition_holds, conditions_hold, row_holds, first_row, found, locate_in}

left : (n i : ℕ) → i < n → n - i ≡ suc (n - (i + 1))
left n i h = omega arith

all_left : (n : ℕ) → n ≡ n - 0
all_left n = omega arith

module _ (table vs : List ℕ) where
  conditions_all : (row n i : ℕ) → conditions_hold table vs row n i ≡ list_all (condition_holds table vs row) (range_with_len i n)
  unfolding conditions_hold
  conditions_all row zero i = refl
  conditions_all row (suc n) i = rw (conditions_all row n (i + 1)) (both (condition_holds table vs row i) _)
    where
      both : (b x : Bool) → if? b x false ≡ (b && x)
      both true x = refl
      both false x = refl

  -- all of the conditions that the row counts
  pub all_hold :
      (row : ℕ) {b : Bool} {n w : ℕ} → w ≡ word_at table (heading_length + row_length * row + word_length * conditions_word)
      → n ≡ at_most most_branches w → b ≡ list_all (condition_holds table vs row) (range_with_len 0 n) → b ≡ row_holds table vs row
  unfolding row_holds
  all_hold row e f g = (rw (f, e) at g) ∙ sym (conditions_all row _ 0)

  abbrev Fails : (from to : ℕ) → Type 0
  Fails from to = (j : ℕ) → from ≤ j → j < to → row_holds table vs j ≡ false

  first_at : (k i r : ℕ) → i ≤ r → r < i + k → row_holds table vs r ≡ true → Fails i r → first_row table vs k i ≡ r
  unfolding first_row
  first_at zero i r l h e f = absurd (omega arith)
  first_at (suc k) i r l h e f = elim (cases_eq i r) [ inl x ↦ rw (x, e) | inr x ↦ rw (f i (omega arith) (omega arith)) (first_at k (i + 1) r (omega arith) (omega arith) e (λ j m g. f j (omega arith) g)) ]

  first_none : (k i : ℕ) → Fails i (i + k) → first_row table vs k i ≡ i + k
  unfolding first_row
  first_none zero i f = sym (add-zero i)
  first_none (suc k) i f = rw (f i (omega arith) (omega arith)) (first_none k (i + 1) (λ j l h. f j (omega arith) (omega arith)) ∙ omega arith)

  -- the first row that holds, or none
  pub first_found :
      (n : ℕ) (o : Option ℕ)
      → MatchOption o ((k : ℕ) → 0 ≤ k → k < n → row_holds table vs k ≡ false)
      (λ r. (0 ≤ r) × (r < n) × (row_holds table vs r ≡ true) × ((k : ℕ) → 0 ≤ k → k < r → row_holds table vs k ≡ false))
      → found o n (first_row table vs n 0)
  first_found n None h = first_none n 0 (λ j l g. h j l (omega arith)) ∙ omega arith
  first_found n (Some r) h = (first_at n 0 r (omega arith) (omega (arith, h.1)) h.2 (λ j l g. h.3 j l g), h.1)

  -- the conditions of a row one by one: from the first of them, over one that holds or one that fails, to the end
  pub conditions-start : (row n : ℕ) → conditions_hold table vs row n 0 ≡ conditions_hold table vs row (n - 0) 0
  conditions-start row n = ap (λ (k : ℕ). conditions_hold table vs row k 0) (all_left n)

  pub row_count :
      (row n w : ℕ) → w ≡ word_at table (heading_length + row_length * row + word_length * conditions_word) → n ≡ at_most most_branches w → row_holds table vs row ≡ conditions_hold table vs row n 0
  unfolding row_holds
  row_count row n w e f = ap (λ (k : ℕ). conditions_hold table vs row k 0) (ap (at_most most_branches) (sym e) ∙ sym f)

  pub conditions-more :
      (row n i : ℕ) → i < n → condition_holds table vs row i ≡ true
      → conditions_hold table vs row (n - i) i ≡ conditions_hold table vs row (n - (i + 1)) (i + 1)
  unfolding conditions_hold
  conditions-more row n i h e =
      ap (λ (k : ℕ). conditions_hold table vs row k i) (left n i h)
      ∙ ap (λ (b : Bool). if? b (conditions_hold table vs row (n - (i + 1)) (i + 1)) false) e

  pub conditions-stop : (row n i : ℕ) → i < n → condition_holds table vs row i ≡ false → conditions_hold table vs row (n - i) i ≡ false
  unfolding conditions_hold
  conditions-stop row n i h e =
      ap (λ (k : ℕ). conditions_hold table vs row k i) (left n i h)
      ∙ ap (λ (b : Bool). if? b (conditions_hold table vs row (n - (i + 1)) (i + 1)) false) e

  pub conditions-end : (row n i : ℕ) → n ≤ i → conditions_hold table vs row (n - i) i ≡ true
  unfolding conditions_hold
  conditions-end row n i h = let e : n - i ≡ 0 = omega arith in ap (λ (k : ℕ). conditions_hold table vs row k i) e

  -- and the rows: from any of them, over one that fails, to one that holds or the end
  pub rows_start : (n : ℕ) → first_row table vs n 0 ≡ first_row table vs (n - 0) 0
  rows_start n = ap (λ (k : ℕ). first_row table vs k 0) (all_left n)

  pub rows_more : (n r : ℕ) → r < n → row_holds table vs r ≡ false → first_row table vs (n - r) r ≡ first_row table vs (n - (r + 1)) (r + 1)
  unfolding first_row
  rows_more n r h e =
      ap (λ (k : ℕ). first_row table vs k r) (left n r h) ∙ ap (λ (b : Bool). if? b r (first_row table vs (n - (r + 1)) (r + 1))) e

  pub rows-found : (n r : ℕ) → r < n → row_holds table vs r ≡ true → first_row table vs (n - r) r ≡ r
  unfolding first_row
  rows-found n r h e =
      ap (λ (k : ℕ). first_row table vs k r) (left n r h) ∙ ap (λ (b : Bool). if? b r (first_row table vs (n - (r + 1)) (r + 1))) e

  pub rows_end : (n r : ℕ) → n ≤ r → first_row table vs (n - r) r ≡ r
  unfolding first_row
  rows_end n r h = let e : n - r ≡ 0 = omega arith in ap (λ (k : ℕ). first_row table vs k r) e

pub values_start : (pool inputs vs : List ℕ) → vs ≡ values_to pool inputs vs 0
unfolding values_to
values_start pool inputs vs = refl

pub values_more :
    (pool inputs vs₀ vs : List ℕ) (k : ℕ) → vs ≡ values_to pool inputs vs₀ k
    → set vs k (term_value pool inputs vs k) ≡ values_to pool inputs vs₀ (k + 1)
unfolding values_to
values_more pool inputs vs₀ vs k e =
    ap (λ (l : List ℕ). set l k (term_value pool inputs l k)) e ∙ ap (λ (j : ℕ). values_to pool inputs vs₀ j) (sym (add-one k))

-- the words of the heading, the values and the rows in one
pub locate_by :
    (table pool inputs : List ℕ) {vs : List ℕ} {terms rows r : ℕ} → terms ≡ word_at table 4
    → vs ≡ values_to pool inputs (replicate most_terms 0) (at_most most_terms terms) → rows ≡ word_at table 0 → r ≡ first_row table vs (at_most most_rows rows) 0
    → r ≡ locate_in table pool inputs
unfolding locate_in
locate_by table pool inputs e f g h =
    h
    ∙ ap₂ (λ (l : List ℕ) (k : ℕ). first_row table l (at_most most_rows k) 0)
    (f ∙ ap (λ (k : ℕ). values_to pool inputs (replicate most_terms 0) (at_most most_terms k)) e)
    g
