-- A sound table read from its bytes: each row's conditions, steps and words, and the row that inputs fall in, are those that demand 3 speaks
-- of over the definitions' rows. Assumes nothing.
use Rattle.std.specs.Prelude.{ℕ, zero, suc, ◌+◌, ◌*◌, ◌≤◌, ◌<◌, ◌≡◌, refl, true, get_or}
use Rattle.std.proofs.Common.{arith, ◌∙◌, ap₂, subst}
use Rattle.std.proofs.Math.Path.{sym, ap}
use mathlib.Core.List.{List, [], ◌∷◌, ◌++◌}
use Rattle.std.proofs.Math.ListN.{length}
use Rattle.gil.specs.Names.{Program, gather}
use Rattle.gil.specs.Values.{Constant}
use Rattle.gil.specs.Rows.{Row}
use Rattle.gil.specs.Plain.{plain_run}
use Rattle.gil.specs.Pool.{Ref, place_in, Pool, value_of, pool_values, meets}
use Rattle.gil.specs.Accounts.{row_with, put_in, Stands, here, further, Accounts}
use Rattle.gil.specs.Numbers.{row_room, most_terms}
use Rattle.gil.specs.Layout.{word_bytes, row_words, row_bytes, ref_tag, table_bytes, pool_bytes, answer_bytes, input_words}
use Rattle.machine_code.specs.WellFormed as WellFormed
use Rattle.machine_code.specs.WellFormed.{Each}
use Rattle.lent_words.specs.Mirror.{word_at, at_most}
use Rattle.lent_words.specs.Laws.Words.{all_of}
use Rattle.table_locate.specs.Laws.Sound.{RowFits, Sound}
use Rattle.table_locate.specs.Laws.Inputs.{Bytes}
use Rattle.table_locate.proofs.Laws.Terms.{ValuesAs, values_as}
use Rattle.table_locate.proofs.Laws.Rows.{RowAt, row_at, row_count, term-count, row-holds, length-row, head-word}
use Rattle.demands.specs.FromBytes.{rows_in, words_at, row_in, steps_in, values_in, meets_row, put_row, put_in_bytes}
use Rattle.demands.proofs.PutIn.{row_put, answer-steps}

-- words read one after another
words-read :
    (b : List ℕ) (at : ℕ) (l : List ℕ) → ((j : ℕ) → j < length l → word_at b (at + 4 * j) ≡ get_or l j 0) → words_at b at (length l) ≡ l
unfolding words_at
words-read b at [] f = refl
words-read b at (x ∷ l) f =
    let e : at ≡ at + 4 * 0 = omega arith in
    let rest : (j : ℕ) → j < length l → word_at b (at + 4 + 4 * j) ≡ get_or l j 0 =
    λ j h. let g : at + 4 + 4 * j ≡ at + 4 * suc j = omega arith in ap (word_at b) g ∙ f (suc j) (omega arith) in
    ap₂ (λ (a : ℕ) (r : List ℕ). a ∷ r) (ap (word_at b) e ∙ f 0 (omega arith)) (words-read b (at + 4) l rest)

-- the k-th of a list
record Around {A : Type 0} (k : ℕ) (a : A) (l : List A) : Type 0 where
  before : List A
  behind : List A
  is : l ≡ before ++ a ∷ behind
  long : length before ≡ k

around : {A : Type 0} {k : ℕ} {a : A} {l : List A} → Stands k a l → Around k a l
around (here {l = l}) = record { before = []; behind = l; is = refl; long = refl }
around (further {b = b} s) =
    let r = around s in
    record { before = b ∷ r.before; behind = r.behind; is = ap (λ (t : List _). b ∷ t) r.is; long = ap suc r.long }

pub each_at : {A : Type 0} {P : A → Type 0} {k : ℕ} {a : A} {l : List A} → Each P l → Stands k a l → P a
each_at WellFormed.none s = elim s [ ]
each_at (WellFormed.more p ps) here = p
each_at (WellFormed.more p ps) (further s) = each_at ps s

pub stands-below : {A : Type 0} {k : ℕ} {a : A} {l : List A} → Stands k a l → k < length l
stands-below here = omega arith
stands-below (further s) = let h : _ < _ = stands-below s in omega arith

standing : {A : Type 0} (k : ℕ) (l : List A) → k < length l → (a : A) × Stands k a l
standing k [] h = absurd (omega arith)
standing zero (a ∷ l) h = (a, here)
standing (suc k) (a ∷ l) h = let (b, s) = standing k l (omega arith) in (b, further s)

-- a row of a sound table stands where it is read
pub stands_at :
    {w : Pool} {rows : List (Row Ref)} → Sound w rows → (extra : List ℕ) → {k : ℕ} {r : Row Ref} → Stands k r rows
    → RowAt (table_bytes w rows ++ extra) k r
stands_at {w} {rows} s extra {r = r} stands =
    let a = around stands in
    subst (λ (j : ℕ). RowAt (table_bytes w rows ++ extra) j r) a.long (row_at s extra a.before a.behind r a.is)

-- the row that inputs fall in, found from the bytes alone
pub record Found (T P inputs : List ℕ) (p : Program) (place : ℕ) : Type 0 where
  pub row : ℕ
  pub there : row < rows_in T
  pub met : meets_row T P inputs row ≡ true
  pub only : (k : ℕ) → k < rows_in T → meets_row T P inputs k ≡ true → k ≡ row
  pub placed : place ≡ row
  pub few : steps_in T row ≤ 1024
  pub ran : answer_bytes (plain_run p (input_words inputs) (steps_in T row)) ≡ put_in_bytes T P inputs row
  pub used : (x : List ℕ) → word_at (put_in_bytes T P inputs row ++ x) 12 ≡ steps_in T row

module _ {w : Pool} {rows : List (Row Ref)} (s : Sound w rows) (extra rest inputs : List ℕ) (long : length inputs ≡ 64) (bytes : Bytes inputs) where
  abbrev T : List ℕ
  T = table_bytes w rows ++ extra

  abbrev P : List ℕ
  P = pool_bytes w ++ rest

  abbrev cs : List Constant
  cs = pool_values (input_words inputs) w

  pub rows-read : rows_in T ≡ length rows
  unfolding rows_in
  rows-read = row_count s extra

  values_read : ValuesAs w cs (values_in T P inputs)
  unfolding values_in
  values_read =
      let n : at_most most_terms (word_at (table_bytes w rows ++ extra) 4) ≡ length w =
      ap (at_most most_terms) (term-count s extra) ∙ all_of most_terms (length w) s.few_terms in
      rw n (values_as inputs long bytes rest s.few_terms s.terms)

  module _ {k : ℕ} {r : Row Ref} (stands : Stands k r rows) where
    fits : RowFits w r
    fits = each_at s.rows stands

    pub meets-read : meets_row T P inputs k ≡ meets cs r.conditions
    unfolding meets_row
    meets-read = row-holds values_read T k (stands_at s extra stands) fits

    pub steps-read : steps_in T k ≡ r.steps
    unfolding steps_in RowAt
    steps-read = stands_at s extra stands (64 + 1024 * k + 12) 3 (omega arith) (omega arith) ∙ head-word fits 0 (omega arith)

    row_read : row_in T k ≡ row_words ref_tag place_in r
    unfolding row_in RowAt
    row_read =
        let n : length (row_words ref_tag place_in r) ≡ row_room = length-row fits in
        ap (words_at T (64 + 1024 * k)) (sym n)
        ∙ words-read T (64 + 1024 * k) (row_words ref_tag place_in r)
        (λ j h. stands_at s extra stands (64 + 1024 * k + 4 * j) j (omega arith) refl)

    pub put-read : put_in_bytes T P inputs k ≡ answer_bytes (put_in (value_of cs) r)
    unfolding put_in_bytes answer_bytes row_bytes
    put-read = ap (λ (l : List ℕ). gather word_bytes (put_row (values_in T P inputs) l)) row_read ∙ ap (gather word_bytes) (row_put values_read fits)

    put-steps : (x : List ℕ) → word_at (put_in_bytes T P inputs k ++ x) 12 ≡ steps_in T k
    unfolding put_in row_with
    put-steps x =
        ap (λ (l : List ℕ). word_at (l ++ x) 12) put-read
        ∙ answer-steps (put_in (value_of cs) r) (omega (arith, fits.steps)) x
        ∙ sym steps-read

  -- the row that the definitions account for
  pub accounted-found :
      (p : Program) (place : ℕ) (a : Accounts p (input_words inputs) w rows) → place ≡ a.place → Found T P inputs p place
  accounted-found p place a e =
      record {
        row = a.place;
        there = rw rows-read (stands-below a.stands);
        met = meets-read a.stands ∙ a.met;
        only =
            λ k h m.
            let (r, stands) = standing k rows (rw rows-read at h) in
            a.only k r stands (sym (meets-read stands) ∙ m);
        placed = e;
        few = rw (steps-read a.stands) (fits a.stands).steps;
        ran =
            ap (λ (n : ℕ). answer_bytes (plain_run p (input_words inputs) n)) (steps-read a.stands)
            ∙ ap answer_bytes a.ran
            ∙ sym (put-read a.stands);
        used = λ x. put-steps a.stands x;
      }
