-- Reasons 3 to 8: the check of a text refuses by the first of them that holds, and accepts where none does. Assumes nothing.
use Rattle.std.specs.Prelude.{ℕ, suc, ◌≤◌, ◌<◌, ◌≡◌, Bool, List, length}
use native.Mathlib.Omega.{arith}
use Rattle.std.proofs.Math.Path.{refl}
use Rattle.std.proofs.Common.{sym, ◌∙◌, ap, subst}
use Rattle.std.proofs.Math.Bool.{true, false}
use Rattle.std.proofs.Math.Dec.{ltb}
use borrow.Author.Tests.{ltb-true, ltb-false}
use Rattle.gil.specs.Numbers.{most_bytes, for_length, for_form, for_limits, for_names, for_jump, for_end}
use Rattle.gil.specs.Tree.{Proc, Name}
use Rattle.gil.specs.Reading.{Read, faulty, read, procedures}
use Rattle.gil.specs.Names.{Program, Checked, refused, accepted, over_limits, wrong_names, wrong_jump, wrong_end, refused_if, tested, check_text}
use Rattle.gil.proofs.Theory.Tests.{chosen, no_false}
use Rattle.demands.specs.Reasons.{TextReason, too_long, not_of_the_form, over_a_limit, wrong_name, jumps_past, ends_open}
use Rattle.demands.proofs.Orders.{Lowest}

pub text_range : {text : List ℕ} {n : ℕ} → TextReason text n → (for_length ≤ n) × (n ≤ for_end)
text_range (too_long h) = omega arith
text_range (not_of_the_form e) = omega arith
text_range (over_a_limit e t) = omega arith
text_range (wrong_name e t) = omega arith
text_range (jumps_past e t) = omega arith
text_range (ends_open e t) = omega arith

pub data TextOutcome (text : List ℕ) : Checked → Type 0 where
  is_wrong : {n : ℕ} → Lowest (TextReason text) n → TextOutcome text (refused n)
  is_right : {p : Program} → ((n : ℕ) → TextReason text n → ⊥) → TextOutcome text (accepted p)

-- a test that what was read passes
passed :
    {r : Read (List (Proc Name))} {ps qs : List (Proc Name)} {m n : ℕ} (test : List (Proc Name) → Bool) → r ≡ read ps m → test ps ≡ false
    → r ≡ read qs n → test qs ≡ true → ⊥
passed {ps = ps} {qs = qs} test e f d t = let same : ps ≡ qs = cc in no_false t (ap test (sym same) ∙ f)

-- a reason that the program read from a text does not give
module _ {text : List ℕ} {ps : List (Proc Name)} {next : ℕ} (is : procedures text ≡ read ps next) where
  not_4 : TextReason text for_form → ⊥
  not_4 (not_of_the_form e) = let z : ◌≡◌ {A = ℕ} 0 1 = cc in omega arith

  not_5 : over_limits ps ≡ false → TextReason text for_limits → ⊥
  not_5 f (over_a_limit e t) = passed over_limits is f e t

  not_6 : wrong_names ps ≡ false → TextReason text for_names → ⊥
  not_6 f (wrong_name e t) = passed wrong_names is f e t

  not_7 : wrong_jump ps ≡ false → TextReason text for_jump → ⊥
  not_7 f (jumps_past e t) = passed wrong_jump is f e t

  not_8 : wrong_end ps ≡ false → TextReason text for_end → ⊥
  not_8 f (ends_open e t) = passed wrong_end is f e t

module _ (text : List ℕ) where
  -- no reason below number k
  Below : ℕ → Type 0
  Below k = (m : ℕ) → m < k → TextReason text m → ⊥

  below_3 : Below for_length
  unfolding Below
  below_3 m h r = let (f, g) = text_range r in omega arith

  next-below : (k : ℕ) → Below k → (TextReason text k → ⊥) → Below (suc k)
  unfolding Below
  next-below k f g m h r = at (ltb m k) refl
    where
      at : (b : Bool) → ltb m k ≡ b → ⊥
      at true e = f m (ltb-true m k e) r
      at false e = let same : m ≡ k = omega (arith, ltb-false m k e) in g (subst (TextReason text) same r)

  -- each test over the whole text before the next
  refused_if_lem :
      (b : Bool) (n : ℕ) (t : Checked) → Below n → (b ≡ true → TextReason text n) → (b ≡ false → TextReason text n → ⊥)
      → (Below (suc n) → TextOutcome text t) → TextOutcome text (refused_if b n t)
  unfolding refused_if Below
  refused_if_lem true n t below f g h = is_wrong (f refl, below)
  refused_if_lem false n t below f g h = h (next-below n below (g refl))

  tested-outcome : Below for_form → (r : Read (List (Proc Name))) → procedures text ≡ r → TextOutcome text (tested r)
  unfolding tested Below
  tested-outcome below faulty e = is_wrong (not_of_the_form e, below)
  tested-outcome below (read ps next) e =
      refused_if_lem (over_limits ps) for_limits _ (next-below for_form below (not_4 e)) (over_a_limit e) (not_5 e) λ below-6.
      refused_if_lem (wrong_names ps) for_names _ below-6 (wrong_name e) (not_6 e) λ below-7.
      refused_if_lem (wrong_jump ps) for_jump _ below-7 (jumps_past e) (not_7 e) λ below-8.
      refused_if_lem (wrong_end ps) for_end _ below-8 (ends_open e) (not_8 e) λ below-9.
      is_right λ n r. let (f, g) = text_range r in below-9 n (omega arith) r

  not_3 : length text ≤ most_bytes → TextReason text for_length → ⊥
  not_3 short (too_long h) = omega arith

  pub text-outcome : TextOutcome text (check_text text)
  unfolding check_text Below
  text-outcome =
      chosen (TextOutcome text) (ltb most_bytes (length text))
      (λ e. is_wrong (too_long (ltb-true most_bytes (length text) e), below_3))
      (λ e. tested-outcome (next-below for_length below_3 (not_3 (ltb-false most_bytes (length text) e))) (procedures text) refl)
