-- The laws that the proofs of `begin` and `input_words` cite: the beginning test by test, and the sixteen inputs read from their 64 bytes into
-- an array one after another. Assumes nothing.
use Rattle.std.specs.Prelude.{ℕ, zero, suc, ◌+◌, ◌*◌, ◌<◌, ◌≡◌, refl, Bool, true, false, List, [], ◌∷◌, ◌++◌, length, set, take}
use Rattle.std.proofs.Common.{arith, add-one, sym, ap, ap₂, ◌∙◌, subst, take_all, take-suc, take-suc-set}
use Rattle.gil.specs.Names.{check_text}
use Rattle.gil.specs.Numbers.{most_inputs, inputs_length, for_budgets, for_lists}
use Rattle.gil.specs.Layout.{input_words}
use Rattle.gil.specs.Calls.{first_of}
use Rattle.lent_words.specs.Mirror.{word_at}
use Rattle.table_locate.specs.Laws.Inputs.{input-word}
use Rattle.text_names.specs.declared.Names.{Names}
use Rattle.text_programs.specs.Mirror.Reads.{Reads}
use Rattle.call_given.specs.Mirror.{Begun, is_refused, is_read}
use Rattle.call_given.specs.Laws.{Judged, turned_down, taken_up, judged}

module _ {budgets lists : Bool} (text code : List ℕ) where
  first : {b l : Bool} → budgets ≡ b → lists ≡ l → first_of budgets lists (check_text text) ≡ first_of b l (check_text text)
  first e f = ap₂ (λ (b l : Bool). first_of b l (check_text text)) e f

  pub begun_budgets : budgets ≡ true → Begun budgets lists text code for_budgets
  unfolding first_of
  begun_budgets e = is_refused (first e refl) (λ z. omega arith)

  pub begun_lists : budgets ≡ false → lists ≡ true → Begun budgets lists text code for_lists
  unfolding first_of
  begun_lists e f = is_refused (first e f) (λ z. omega arith)

  pub begun-text : budgets ≡ false → lists ≡ false → {names : Names} {r : ℕ} → Reads text code names r → Begun budgets lists text code r
  unfolding first_of
  begun-text e f {names} {r} reads = go (subst (Judged text) (sym reads.answer) (judged text)) reads
    where
      go : {n : ℕ} → Judged text n → Reads text code names n → Begun budgets lists text code n
      go (turned_down g z) reads = is_refused (first e f ∙ g) z
      go (taken_up p g) reads = is_read (first e f ∙ g) (reads.words p g)

words_of : (n : ℕ) (inputs : List ℕ) → length inputs ≡ 4 * n → length (input_words inputs) ≡ n
unfolding input_words
words_of zero [] h = refl
words_of zero (x ∷ rest) h = absurd (omega arith)
words_of (suc n) [] h = absurd (omega arith)
words_of (suc n) (x ∷ []) h = absurd (omega arith)
words_of (suc n) (x ∷ y ∷ []) h = absurd (omega arith)
words_of (suc n) (x ∷ y ∷ z ∷ []) h = absurd (omega arith)
words_of (suc n) (x ∷ y ∷ z ∷ u ∷ rest) h =
    let g : length rest ≡ 4 * n = omega arith in
    ap suc (words_of n rest g)

module _ (inputs out : List ℕ) (i : ℕ) (long : length inputs ≡ inputs_length) (whole : length out ≡ most_inputs) (e : take i out ≡ take i (input_words inputs)) where
  -- one more
  pub read_more : i < most_inputs → take (i + 1) (set out i (word_at inputs (4 * i))) ≡ take (i + 1) (input_words inputs)
  read_more h =
      let sixteen : length (input_words inputs) ≡ most_inputs = words_of most_inputs inputs long in
      rw (add-one i)
      (take-suc-set out i (word_at inputs (4 * i)) (omega arith)
      ∙ ap (λ (l : List ℕ). l ++ (word_at inputs (4 * i) ∷ [])) e
      ∙ ap (λ (x : ℕ). take i (input_words inputs) ++ (x ∷ [])) (input-word inputs i (omega arith))
      ∙ sym (take-suc (input_words inputs) i 0 (omega arith)))

  -- all of them
  pub read_all : most_inputs ≡ i → out ≡ input_words inputs
  read_all h =
      let sixteen : length (input_words inputs) ≡ most_inputs = words_of most_inputs inputs long in
      sym (take_all i out (omega arith)) ∙ e ∙ take_all i (input_words inputs) (omega arith)
