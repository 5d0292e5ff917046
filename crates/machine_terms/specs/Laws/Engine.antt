-- The functions of Mirror are the machine's actions, for any model whose terms and world stand in words: what `Engine` asks of a model.
-- Proved once for the plain run's model and for the pool's (Plain, Pooled). Assumes nothing.
use Rattle.std.specs.Prelude.{◌≡◌, ℕ, ◌+◌, ◌/◌, ◌%◌, ◌<◌, ◌≤◌, false, List, Option, Some, None, Result, Ok, Err, ◌==◌, nat_lt, slice_index}
use Rattle.std.specs.Borrow.{Bor}
use Rattle.std.proofs.Math.Path.{refl}
use Rattle.std.proofs.Common.{arith, lt-ltb, le-ltb}
use Rattle.gil.specs.Numbers.{most_inputs, number_term_tag, boolean_term_tag}
use Rattle.gil.specs.Tree.{Op}
use Rattle.gil.specs.Values.{Constant, Sort, numbers, booleans, locations, sort_of, same_sort, Fit, right, wrong, unlike, fit, Value, const, term, Node, input, neg, bin}
use Rattle.gil.specs.declared.errors.Error.{Error}
use Rattle.gil.specs.declared.errors.Error.TheVariants.{WrongSort}
use Rattle.gil.specs.Codes.{error_number}
use Rattle.gil.specs.Machine as Machine
use Rattle.gil.specs.Machine.{Model, ok, err, sort_in, operate, fitted, combine, making, negate, negated, must, give, stop, and_then, ◌>>◌}
use Rattle.machine_code.specs.Code.{op_word}
use Rattle.machine_code.specs.Mirror.{if?}
use Rattle.machine_values.specs.Mirror.{truth_word, sort_word}
use Rattle.machine_values.specs.Laws.{ConstAs, a_number, a_truth, a_location, sort_code, fit_code, sort_of_tag, const-sort, const-low, const-high, fit_law, work_law, not_law}
use Rattle.machine_terms.specs.Mirror.{Did, did, gave, by_fit, node_of, pool_with, input_in, term_in, combine_in, operate_in, negate_in}

-- a value and its word, where a term's is known
pub data ValueAs {T : Type 0} (TermAs : T → ℕ → Type 0) : Value T → ℕ → Type 0 where
  const_as : {c : Constant} {x : ℕ} → ConstAs c x → ValueAs TermAs (const c) x
  term_as : {t : T} {x : ℕ} → TermAs t x → ValueAs TermAs (term t) x

-- the tag of a term's word, by its sort: no term is a location
pub data TermTag : Sort → ℕ → Type 0 where
  tags_number : {x : ℕ} → x / 4294967296 ≡ number_term_tag → TermTag numbers x
  tags_boolean : {x : ℕ} → x / 4294967296 ≡ boolean_term_tag → TermTag booleans x

-- what an input is in words: known, or a term
unfoldable pub fresh_in : Option (List ℕ) → ℕ → List ℕ → ℕ → Did ℕ
fresh_in (Some inputs) i pool count = did (4294967296 + slice_index inputs i) pool count
fresh_in None i pool count = input_in i pool count

-- the inputs that are known, as the code has them
abbrev pub known_in : Option (Bor (List ℕ)) → Option (List ℕ)
known_in (Some inputs) = Some inputs.now
known_in None = None

-- a made value and the world after it
pub record MadeAs {W T : Type 0} (TermAs : T → ℕ → Type 0) (WorldAs : W → List ℕ → ℕ → Type 0) (r : W × Value T) (d : Did ℕ) : Type 0 where
  pub world : WorldAs r.0 d.pool d.count
  pub value : ValueAs TermAs r.1 d.out

-- a model whose terms and world stand in words
pub record Engine (M : Model) : Type 1 where
  pub TermAs : M.Term → ℕ → Type 0
  pub WorldAs : M.World → List ℕ → ℕ → Type 0
  pub tagged : {t : M.Term} {x : ℕ} → TermAs t x → TermTag (M.sort t) x
  -- where an operand is a term
  pub makes_bin :
      {w : M.World} {pool : List ℕ} {count : ℕ} {a b : Value M.Term} {x y : ℕ} (o : Op) → M.Term
      → WorldAs w pool count
      → ValueAs TermAs a x
      → ValueAs TermAs b y
      → MadeAs TermAs WorldAs (M.make w (bin o a b)) (term_in (op_word o) x y pool count)
  pub makes_neg :
      {w : M.World} {pool : List ℕ} {count : ℕ} {t : M.Term} {x : ℕ}
      → WorldAs w pool count
      → TermAs t x
      → MadeAs TermAs WorldAs (M.make w (neg (term t)))
      (did (21474836480 + count) (pool_with (node_of 2 x 0) count pool) ((count + 1) % 4294967296))
  pub known : Option (List ℕ)
  pub makes_input :
      {w : M.World} {pool : List ℕ} {count : ℕ} (i : ℕ) → i < most_inputs
      → WorldAs w pool count
      → MadeAs TermAs WorldAs (M.make w (input i)) (fresh_in known i pool count)

tag_sort : {s : Sort} {x : ℕ} → TermTag s x → sort_word x ≡ sort_code s
unfolding sort_code
tag_sort (tags_number {x} e) = sort_of_tag x number_term_tag e
tag_sort (tags_boolean {x} e) = sort_of_tag x boolean_term_tag e

pub tag_high : {s : Sort} {x : ℕ} → TermTag s x → 17179869184 ≤ x
tag_high (tags_number e) = omega arith
tag_high (tags_boolean e) = omega arith

module _ {M : Model} (E : Engine M) where
  abbrev pub As : Value M.Term → ℕ → Type 0
  As = ValueAs E.TermAs

  -- an action's answer: a value or an error, and the world after it
  pub data EvalAs : Machine.Result M.World (Value M.Term) → Did (Result ℕ Error) → Type 0 where
    gives : {w : M.World} {v : Value M.Term} {x : ℕ} {pool : List ℕ} {count : ℕ} → E.WorldAs w pool count → As v x → EvalAs (ok w v) (did (Ok x) pool count)
    errs : {w : M.World} {pool : List ℕ} {count : ℕ} (e : Error) → E.WorldAs w pool count → EvalAs (err w (error_number e)) (did (Err e) pool count)

  pub value-sort : {v : Value M.Term} {x : ℕ} → As v x → sort_word x ≡ sort_code (sort_in M v)
  unfolding sort_in
  value-sort (const_as h) = const-sort h
  value-sort (term_as h) = tag_sort (E.tagged h)

  pub value_low : {v : Value M.Term} {x : ℕ} → As v x → 4294967296 ≤ x
  value_low (const_as h) = const-low h
  value_low (term_as h) = omega (arith, tag_high (E.tagged h))

  made : {w : M.World} {n : Node M.Term} {d : Did ℕ} → MadeAs E.TermAs E.WorldAs (M.make w n) d → EvalAs (making M n w) (gave d)
  unfolding making
  made m = gives m.world m.value

  -- where the sorts are right
  combined : (o : Op) {a b : Value M.Term} {x y : ℕ} {w : M.World} {pool : List ℕ} {count : ℕ}
      → fit o (sort_in M a) (sort_in M b) ≡ right
      → E.WorldAs w pool count
      → As a x
      → As b y
      → EvalAs (combine M o a b w)
      (combine_in (op_word o) x y pool count)
  unfolding combine give sort_in combine_in
  combined o {x} {y} e h (const_as p) (const_as q) =
      simp (lt-ltb x 17179869184 (const-high p), lt-ltb y 17179869184 (const-high q)) (gives h (const_as (work_law o e p q)))
  combined o {x} {y} e h (const_as p) (term_as {t} q) =
      simp (lt-ltb x 17179869184 (const-high p), le-ltb y 17179869184 (tag_high (E.tagged q)))
      (made (E.makes_bin o t h (const_as p) (term_as q)))
  combined o {x} {y} e h (term_as {t} p) (const_as q) =
      simp (le-ltb x 17179869184 (tag_high (E.tagged p))) (made (E.makes_bin o t h (term_as p) (const_as q)))
  combined o {x} {y} e h (term_as {t} p) (term_as q) =
      simp (le-ltb x 17179869184 (tag_high (E.tagged p))) (made (E.makes_bin o t h (term_as p) (term_as q)))

  fitted_as : (o : Op) {a b : Value M.Term} {x y : ℕ} {w : M.World} {pool : List ℕ} {count : ℕ} (f : Fit)
      → fit o (sort_in M a) (sort_in M b) ≡ f
      → E.WorldAs w pool count
      → As a x
      → As b y
      → EvalAs (fitted M f o a b w)
      (by_fit (fit_code f) (combine_in (op_word o) x y pool count) (did (Err WrongSort) pool count) (did (Ok 8589934592) pool count))
  unfolding fitted fit_code stop give truth_word
  fitted_as o right e h p q = combined o e h p q
  fitted_as o wrong e h p q = errs WrongSort h
  fitted_as o unlike e h p q = gives h (const_as (a_truth {b = false}))

  pub operate_as : (o : Op) {a b : Value M.Term} {x y : ℕ} {w : M.World} {pool : List ℕ} {count : ℕ}
      → E.WorldAs w pool count
      → As a x
      → As b y
      → EvalAs (operate M o a b w) (operate_in (op_word o) x y pool count)
  unfolding operate operate_in
  operate_as o {a} {b} h p q =
      simp (value-sort p, value-sort q, fit_law o (sort_in M a) (sort_in M b)) (fitted_as o (fit o (sort_in M a) (sort_in M b)) refl h p q)

  -- `not`
  negated_as : {a : Value M.Term} {x : ℕ} {w : M.World} {pool : List ℕ} {count : ℕ}
      → sort_in M a ≡ booleans
      → E.WorldAs w pool count
      → As a x
      → EvalAs (negated M a w)
      (if? (nat_lt x 17179869184) (did (Ok (truth_word (x % 4294967296 == 0))) pool count)
      (did (Ok (21474836480 + count)) (pool_with (node_of 2 x 0) count pool) ((count + 1) % 4294967296)))
  unfolding negated sort_in sort_of give
  negated_as e h (const_as (a_number k)) = let z : ◌≡◌ {A = ℕ} 0 1 = cc in absurd (omega arith)
  negated_as e h (const_as (a_truth {b})) =
      simp (lt-ltb (truth_word b) 17179869184 (const-high (a_truth {b = b}))) (gives h (const_as (not_law b)))
  negated_as e h (const_as (a_location k)) = let z : ◌≡◌ {A = ℕ} 0 1 = cc in absurd (omega arith)
  negated_as {x} e h (term_as p) = simp (le-ltb x 17179869184 (tag_high (E.tagged p))) (made (E.makes_neg h p))

  negate-by : {a : Value M.Term} {x : ℕ} {w : M.World} {pool : List ℕ} {count : ℕ} (s : Sort)
      → sort_in M a ≡ s
      → E.WorldAs w pool count
      → As a x
      → EvalAs ((must (same_sort booleans s) 2 >> negated M a) w)
      (if? (sort_code s == 2)
      (if? (nat_lt x 17179869184) (did (Ok (truth_word (x % 4294967296 == 0))) pool count)
      (did (Ok (21474836480 + count)) (pool_with (node_of 2 x 0) count pool) ((count + 1) % 4294967296)))
      (did (Err WrongSort) pool count))
  unfolding must same_sort sort_code stop give and_then ◌>>◌
  negate-by numbers e h p = errs WrongSort h
  negate-by booleans e h p = negated_as e h p
  negate-by locations e h p = errs WrongSort h

  pub negate_as : {a : Value M.Term} {x : ℕ} {w : M.World} {pool : List ℕ} {count : ℕ}
      → E.WorldAs w pool count
      → As a x
      → EvalAs (negate M a w) (negate_in x pool count)
  unfolding negate negate_in
  negate_as {a} h p = simp (value-sort p) (negate-by (sort_in M a) refl h p)
