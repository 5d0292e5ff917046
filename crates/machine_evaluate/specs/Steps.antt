-- The ways through an operator's evaluation, each as one law over words. Assumes nothing.
use Rattle.std.specs.Prelude.{ℕ, zero, suc, ◌+◌, ◌-◌, ◌/◌, ◌%◌, ◌<◌, ◌≤◌, true, ◌≡◌, refl, List, get_or, Option, Some, IfSome, Result, Ok, Err}
use Rattle.std.proofs.Math.Numerals.{sub-one}
use Rattle.std.proofs.Common.{subst, arith, eq-eqb, ne_eqb, lt-ltb, le-ltb}
use Rattle.gil.specs.Numbers.{most_depth}
use Rattle.gil.specs.declared.errors.Error.{Error}
use Rattle.gil.specs.declared.errors.Error.TheVariants.{NotBound}
use Rattle.machine_code.specs.Code.{code_words, not_node, plus_node, kind_range}
use Rattle.machine_values.specs.Mirror.{work_word}
use Rattle.machine_terms.specs.Mirror.{Did, did, needed_in, operate_in, negate_in}
use Rattle.machine_terms.specs.Steps.Worked.{worked}
use Rattle.machine_evaluate.specs.Mirror.{and_then_in, leaf_in, operand_by, second_by, operator_by, operator_in, operand_in, WorkedOut}

pub then-stops : {n : ℕ} {e : Error} {p : List ℕ} {D : Did (Result ℕ Error)} (f : ℕ → List ℕ → ℕ → Did (Result ℕ Error)) → did (Err e) p n ≡ D
    → did (Err e) p n ≡ and_then_in D f
unfolding and_then_in
then-stops f e = rw (← e) refl

pub then-goes : {a n : ℕ} {p : List ℕ} {D x : Did (Result ℕ Error)} (f : ℕ → List ℕ → ℕ → Did (Result ℕ Error))
    → did (Ok a) p n ≡ D
    → x ≡ f a p n
    → x ≡ and_then_in D f
unfolding and_then_in
then-goes f e k = rw (← e) k

module _ (code store : List ℕ) (frame : ℕ) where
  step : (d at : ℕ) (pool : List ℕ) (count : ℕ) → (d ≡ 0 → ⊥)
      → operator_in code store frame d at pool count ≡ operator_by code store frame (operand_in code store frame (d - 1)) at pool count
  unfolding operator_in operand_in
  step zero at pool count nz = absurd (nz refl)
  step (suc d) at pool count nz = rw sub-one

  pub past-depth : (d at : ℕ) (pool : List ℕ) (count : ℕ) → d ≡ 0 → did (Err NotBound) pool count ≡ operator_in code store frame d at pool count
  unfolding operator_in
  past-depth d at pool count e = rw e

  module _ {d at : ℕ} (pool : List ℕ) (count : ℕ) (nz : d ≡ 0 → ⊥) where
    pub past_end : code_words ≤ at → did (Err NotBound) pool count ≡ operator_in code store frame d at pool count
    unfolding operator_by
    past_end h = rw (step d at pool count nz) (simp (le-ltb at code_words h))

    module _ (h : at < code_words) where
      pub first-errs : {n : ℕ} {z : Error} {p : List ℕ} → did (Err z) p n ≡ operand_in code store frame (d - 1) (at + 1) pool count
          → did (Err z) p n ≡ operator_in code store frame d at pool count
      unfolding operator_by
      first-errs e = rw (step d at pool count nz) (simp (lt-ltb at code_words h) (then-stops _ e))

      module _ {a n : ℕ} {p : List ℕ} (e : did (Ok a) p n ≡ operand_in code store frame (d - 1) (at + 1) pool count) where
        pub negates : {x : Did (Result ℕ Error)} → get_or code at 0 / kind_range ≡ not_node → x ≡ negate_in a p n → x ≡ operator_in code store frame d at pool count
        unfolding operator_by second_by
        negates {x} four k =
            rw (step d at pool count nz) (simp (lt-ltb at code_words h) (then-goes _ e (simp (eq-eqb _ _ four) k)))

        module _ (other : get_or code at 0 / kind_range ≡ not_node → ⊥) where
          pub second-errs : {m : ℕ} {z : Error} {q : List ℕ}
              → did (Err z) q m ≡ operand_in code store frame (d - 1) (at + 1 + get_or code at 0 % kind_range) p n
              → did (Err z) q m ≡ operator_in code store frame d at pool count
          unfolding operator_by second_by
          second-errs f =
              rw (step d at pool count nz)
              (simp (lt-ltb at code_words h) (then-goes _ e (simp (ne_eqb _ _ other) (then-stops _ f))))

          pub operates : {b m : ℕ} {q : List ℕ} {x : Did (Result ℕ Error)}
              → did (Ok b) q m ≡ operand_in code store frame (d - 1) (at + 1 + get_or code at 0 % kind_range) p n
              → x ≡ operate_in (get_or code at 0 / kind_range) a b q m
              → x ≡ operator_in code store frame d at pool count
          unfolding operator_by second_by
          operates {x = x} f k =
              rw (step d at pool count nz)
              (simp (lt-ltb at code_words h) (then-goes _ e (simp (ne_eqb _ _ other) (then-goes _ f k))))

  -- an operand that is a leaf, and an operator on two of the sort that it needs
  leaf-is : {v : ℕ} (d at : ℕ) (pool : List ℕ) (count : ℕ) → Ok (Some v) ≡ leaf_in code store frame at
      → did (Ok v) pool count ≡ operand_in code store frame d at pool count
  unfolding operand_in operand_by
  leaf-is {v} d at pool count e = rw (← e) refl

  pub simply-worked : {at a b v : ℕ} → at < code_words → plus_node ≤ get_or code at 0 / kind_range
      → Ok (Some a) ≡ leaf_in code store frame (at + 1)
      → Ok (Some b) ≡ leaf_in code store frame (at + 1 + get_or code at 0 % kind_range)
      → needed_in (get_or code at 0 / kind_range) a b ≡ true
      → v ≡ work_word (get_or code at 0 / kind_range) (a % 4294967296) (b % 4294967296)
      → WorkedOut code store frame at v
  simply-worked {at} {a} {b} h two ea eb fits e pool count =
      operates pool count (λ z. absurd (omega arith)) h (leaf-is 7 (at + 1) pool count ea) (λ z. absurd (omega arith))
      (leaf-is 7 (at + 1 + get_or code at 0 % kind_range) pool count eb)
      (worked (get_or code at 0 / kind_range) a b pool count fits e)

  pub simply : (at : ℕ) {v : ℕ} {r : Option ℕ} (pool : List ℕ) (count : ℕ) → IfSome r (WorkedOut code store frame at) → r ≡ Some v
      → did (Ok v) pool count ≡ operator_in code store frame most_depth at pool count
  simply at pool count h e = subst (λ (r : Option ℕ). IfSome r (WorkedOut code store frame at)) e h pool count
