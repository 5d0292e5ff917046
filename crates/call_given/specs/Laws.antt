-- What follows where a call goes on or refuses: the laws that the calls' proofs cite. Assumes nothing.
use Rattle.std.specs.Prelude.{ℕ, zero, suc, ◌≤◌, ◌<◌, ◌≡◌, refl, Bool, true, false, ◌||◌, List, [], ◌∷◌, length, get_or, ltb, eqb, Result, Ok, Err}
use Rattle.std.proofs.Common.{arith, ap, eqb-true, ltb-false}
use Rattle.std.proofs.lemmas.Bool.{not-false}
use Rattle.gil.specs.Tree.{Proc, Name}
use Rattle.gil.specs.Reading.{Read, faulty, read, procedures}
use Rattle.gil.specs.Names.{Program, Checked, refused, accepted, check_text, tested, refused_if, over_limits, wrong_names, wrong_jump, wrong_end}
use Rattle.gil.specs.Numbers.{most_bytes, for_length, for_form, for_limits, for_names, for_jump, for_end, table_length, pool_length, inputs_length}
use Rattle.gil.specs.Layout.{input_words}
use Rattle.gil.specs.Refusals.{answer_of, numbered}
use Rattle.gil.specs.declared.refusals.Refusal.{Refusal}
use Rattle.gil.specs.Calls.{first_of, wrong_inputs, text_answer, check_call}
use Rattle.gil.proofs.Theory.Tests.{chosen}
use Rattle.machine_code.specs.Code.{program_words}
use Rattle.machine_code.proofs.Accepted.Lists.{or_false}
use Rattle.table_locate.specs.Laws.Inputs.{Bytes}
use Rattle.call_given.specs.Mirror.{Begun, is_refused, is_read}

-- a text is refused by its number, which is not 0, or accepted
pub data Judged (text : List ℕ) : ℕ → Type 0 where
  turned_down : {n : ℕ} → check_text text ≡ refused n → (n ≡ 0 → ⊥) → Judged text n
  taken_up : (p : Program) → check_text text ≡ accepted p → Judged text 0

data NotNought : Checked → Type 0 where
  a_refusal : {n : ℕ} → for_length ≤ n → NotNought (refused n)
  a_program : {p : Program} → NotNought (accepted p)

refused_if_lem : (b : Bool) (n : ℕ) (c : Checked) → for_length ≤ n → NotNought c → NotNought (refused_if b n c)
unfolding refused_if
refused_if_lem true n c h k = a_refusal h
refused_if_lem false n c h k = k

tested-by : (r : Read (List (Proc Name))) → NotNought (tested r)
unfolding tested
tested-by faulty = a_refusal {n = for_form} (omega arith)
tested-by (read ps next) =
    refused_if_lem (over_limits ps) for_limits _ (omega arith)
    (refused_if_lem (wrong_names ps) for_names _ (omega arith)
    (refused_if_lem (wrong_jump ps) for_jump _ (omega arith) (refused_if_lem (wrong_end ps) for_end _ (omega arith) a_program)))

check-by : (text : List ℕ) → NotNought (check_text text)
unfolding check_text
check-by text =
    chosen NotNought (ltb most_bytes (length text)) (λ _. a_refusal {n = for_length} (omega arith)) (λ _. tested-by (procedures text))

pub judged : (text : List ℕ) → Judged text (check_call text)
unfolding check_call text_answer
judged text = go (check_text text) refl (check-by text)
  where
    go : (c : Checked) → check_text text ≡ c → NotNought c → Judged text (text_answer c)
    go (refused n) e (a_refusal h) = turned_down e (λ z. omega arith)
    go (accepted p) e a_program = taken_up p e

-- what a refusal and a success are as numbers
pub not_nought : {r : Result (Unit {0}) Refusal} {e : Refusal} → r ≡ Err e → answer_of r ≡ 0 → ⊥
not_nought {e = e} h z = numbered e h z

pub nought : {r : Result (Unit {0}) Refusal} {u : Unit {0}} → r ≡ Ok u → answer_of r ≡ 0
nought h = ap answer_of h

-- where a call goes on, nothing was refused, and it has its program's words
pub record GoesOn (budgets lists : Bool) (text code : List ℕ) : Type 0 where
  pub program : Program
  pub accepts : check_text text ≡ accepted program
  pub passes : first_of budgets lists (check_text text) ≡ accepted program
  pub right_budgets : budgets ≡ false
  pub right_lists : lists ≡ false
  pub words : code ≡ program_words program

-- a text's answer, where budgets and lists are right
pub first-text :
    {A : Type 0} (on : Checked → A) (text : List ℕ) {budgets lists : Bool} {c : Checked} → budgets ≡ false → lists ≡ false → check_text text ≡ c
    → on (first_of budgets lists (check_text text)) ≡ on c
unfolding first_of
first-text on text {budgets} {lists} {c} e f g = rw (e, f, g, first_of)

passed :
    {p : Program} (budgets lists : Bool) (c : Checked) → first_of budgets lists c ≡ accepted p
    → (c ≡ accepted p) × (budgets ≡ false) × (lists ≡ false)
unfolding first_of
passed true lists c e = let z : ◌≡◌ {A = ℕ} 0 1 = cc in absurd (omega arith)
passed false true c e = let z : ◌≡◌ {A = ℕ} 0 1 = cc in absurd (omega arith)
passed false false c e = (e, refl, refl)

module _ {budgets lists : Bool} {text code : List ℕ} where
  pub begun-refused : {r : ℕ} → Begun budgets lists text code r → (r ≡ 0 → ⊥) → first_of budgets lists (check_text text) ≡ refused r
  begun-refused (is_refused e n) z = e
  begun-refused (is_read e w) z = absurd (z refl)

  pub begun-on : {r : ℕ} → Begun budgets lists text code r → r ≡ 0 → GoesOn budgets lists text code
  begun-on (is_refused e n) z = absurd (n z)
  begun-on (is_read {p} e w) z =
      let (a, b, c) = passed budgets lists (check_text text) e in
      record { program = p; accepts = a; passes = e; right_budgets = b; right_lists = c; words = w }

-- what was tested holds
pub tables_long : (t w : ℕ) → (ltb t table_length || ltb w pool_length) ≡ false → (table_length ≤ t) × (pool_length ≤ w)
tables_long t w e =
    let (f, g) = or_false (ltb t table_length) (ltb w pool_length) e in
    (ltb-false t table_length f, ltb-false w pool_length g)

pub inputs_long : (inputs : List ℕ) → wrong_inputs inputs ≡ false → length inputs ≡ inputs_length
unfolding wrong_inputs
inputs_long inputs e = eqb-true (length inputs) inputs_length (not-false (eqb (length inputs) inputs_length) e)

-- each of the sixteen inputs is a word
pub words_small : (inputs : List ℕ) → Bytes inputs → (i : ℕ) → get_or (input_words inputs) i 0 < 4294967296
unfolding input_words
words_small [] b i = omega arith
words_small (x ∷ []) b i = omega arith
words_small (x ∷ y ∷ []) b i = omega arith
words_small (x ∷ y ∷ z ∷ []) b i = omega arith
words_small (x ∷ y ∷ z ∷ u ∷ rest) b zero = omega (arith, b 0, b 1, b 2, b 3)
words_small (x ∷ y ∷ z ∷ u ∷ rest) b (suc i) = words_small rest (λ k. b (suc (suc (suc (suc k))))) i
