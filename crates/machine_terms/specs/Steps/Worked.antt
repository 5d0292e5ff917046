-- An operator on two constants of the sort that it needs is worked out: no other test of `operate_in` is in its way. Assumes nothing.
use Rattle.std.specs.Prelude.{◌≡◌, ℕ, ◌/◌, ◌%◌, ◌<◌, ◌≤◌, Bool, true, false, List, Ok, ◌==◌, nat_lt, refl}
use Rattle.std.proofs.Common.{arith, lt-ltb, le-ltb, eq-eqb, eqb-true}
use Rattle.machine_code.specs.Code.{equal_node}
use Rattle.machine_code.specs.Mirror.{if?}
use Rattle.machine_values.specs.declared.Fit.TheVariants.{Right}
use Rattle.machine_values.specs.Mirror.{sort_word, needed_word, fit_in, work_word}
use Rattle.machine_terms.specs.Mirror.{did, needed_in, combine_in, operate_in}

needed_by : (kind : ℕ) (b : Bool) → nat_lt kind 9 ≡ b → needed_word kind < 4
unfolding needed_word
needed_by kind true e = simp e (omega arith)
needed_by kind false e = simp e (omega arith)

needed_low : (kind : ℕ) → needed_word kind < 4
needed_low kind = needed_by kind (nat_lt kind 9) refl

some-by : (kind : ℕ) (b : Bool) → nat_lt kind 9 ≡ b → 1 ≤ needed_word kind
unfolding needed_word
some-by kind true e = simp e (omega arith)
some-by kind false e = simp e (omega arith)

fit-by : (kind n : ℕ) (b : Bool) → (kind == equal_node) ≡ b → n ≡ needed_word kind → fit_in kind n n ≡ Right
unfolding fit_in
fit-by kind n true e h = simp (e, eq-eqb n n refl)
fit-by kind n false e h = simp (e, eq-eqb n (needed_word kind) h)

sort-is : (v n : ℕ) → v / 4294967296 ≡ n → n < 4 → sort_word v ≡ n
unfolding sort_word
sort-is v n e h = simp (e, le-ltb 3 n (omega arith))

both_by : (x y n : ℕ) (b : Bool) → (x == n) ≡ b → if? b (y == n) false ≡ true → (x ≡ n) × (y ≡ n)
both_by x y n true e h = (eqb-true x n e, eqb-true y n h)
both_by x y n false e h = let z : ◌≡◌ {A = ℕ} 0 1 = cc in absurd (omega arith)

-- such an operand is a value
pub needed_value : (kind a b : ℕ) → needed_in kind a b ≡ true → 4294967296 ≤ b
unfolding needed_in
needed_value kind a b h =
    let t = both_by (a / 4294967296) (b / 4294967296) (needed_word kind) (a / 4294967296 == needed_word kind) refl h in
    let some : 1 ≤ needed_word kind = some-by kind (nat_lt kind 9) refl in
    omega (arith, t.1)

pub worked : {v : ℕ} (kind a b : ℕ) (pool : List ℕ) (count : ℕ) → needed_in kind a b ≡ true
    → v ≡ work_word kind (a % 4294967296) (b % 4294967296)
    → did (Ok v) pool count ≡ operate_in kind a b pool count
unfolding needed_in operate_in combine_in
worked kind a b pool count h e =
    let t = both_by (a / 4294967296) (b / 4294967296) (needed_word kind) (a / 4294967296 == needed_word kind) refl h in
    let low : needed_word kind < 4 = needed_low kind in
    let la : a < 17179869184 = omega (arith, t.0) in
    let lb : b < 17179869184 = omega (arith, t.1) in
    simp
    (sort-is a (needed_word kind) t.0 low, sort-is b (needed_word kind) t.1 low, fit-by kind (needed_word kind) (kind == equal_node) refl refl, lt-ltb a 17179869184 la, lt-ltb b 17179869184 lb, e)
