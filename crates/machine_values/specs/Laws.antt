-- The words of Mirror are document 01's values, sorts and operators: which word stands for a constant, and that the operators on words
-- answer the word of what the definitions answer. Assumes nothing.
use Rattle.std.specs.Prelude.{◌≡◌, ℕ, ◌+◌, ◌-◌, ◌/◌, ◌%◌, ◌<◌, ◌≤◌, Bool, true, false, ◌==◌, nat_lt, refl}
use Rattle.std.proofs.Common.{arith}
use Rattle.gil.specs.Tree.{Op, plus, minus, equal, less, and, or}
use Rattle.gil.specs.Values.{Constant, number, boolean, location, Sort, numbers, booleans, locations, sort_of, same_sort, both, right, wrong, unlike, right_if, alike_if, fit, number_in, truth_in, same_truth, same_constant, work, work_not}
use Rattle.gil.specs.Values as Values
use Rattle.gil.specs.Layout.{bit}
use Rattle.machine_code.specs.Code.{op_word, equal_node}
use Rattle.machine_code.specs.Mirror.{if?}
use Rattle.machine_values.specs.declared.Fit.{Fit}
use Rattle.machine_values.specs.declared.Fit.TheVariants.{Right, Wrong, Unlike}
use Rattle.machine_values.specs.Mirror.{truth_word, sort_word, needed_word, fit_in, both_word, either_word, work_word}

-- a constant and its word; numbers and locations have 32 bits
pub data ConstAs : Constant → ℕ → Type 0 where
  a_number : {n : ℕ} → n < 4294967296 → ConstAs (number n) (4294967296 + n)
  a_truth : {b : Bool} → ConstAs (boolean b) (truth_word b)
  a_location : {l : ℕ} → l < 4294967296 → ConstAs (location l) (12884901888 + l)

-- a sort's number, and a fit as the code has it
unfoldable pub sort_code : Sort → ℕ
sort_code numbers = 1
sort_code booleans = 2
sort_code locations = 3

unfoldable pub fit_code : Values.Fit → Fit
fit_code right = Right
fit_code wrong = Wrong
fit_code unlike = Unlike

-- the word of a number, of a location and of a truth
pub low-number : (n : ℕ) → n < 4294967296 → (4294967296 + n) % 4294967296 ≡ n
low-number n h = omega arith

pub low-location : (l : ℕ) → l < 4294967296 → (12884901888 + l) % 4294967296 ≡ l
low-location l h = omega arith

pub low-truth : (b : Bool) → truth_word b % 4294967296 ≡ bit b
unfolding truth_word bit
low-truth true = refl
low-truth false = refl

-- the sort of a word whose tag is known
pub sort_of_tag : (x t : ℕ) → x / 4294967296 ≡ t → sort_word x ≡ if? (nat_lt 3 t) (t - 3) t
unfolding sort_word
sort_of_tag x t e = rw e

pub const-sort : {c : Constant} {x : ℕ} → ConstAs c x → sort_word x ≡ sort_code (sort_of c)
unfolding sort_code sort_of truth_word sort_word
const-sort (a_number {n} h) = sort_of_tag (4294967296 + n) 1 (omega arith)
const-sort (a_truth {b = true}) = refl
const-sort (a_truth {b = false}) = refl
const-sort (a_location {l} h) = sort_of_tag (12884901888 + l) 3 (omega arith)

pub const-low : {c : Constant} {x : ℕ} → ConstAs c x → 4294967296 ≤ x
unfolding truth_word
const-low (a_number h) = omega arith
const-low (a_truth {b = true}) = omega arith
const-low (a_truth {b = false}) = omega arith
const-low (a_location h) = omega arith

pub const-high : {c : Constant} {x : ℕ} → ConstAs c x → x < 17179869184
unfolding truth_word
const-high (a_number h) = omega arith
const-high (a_truth {b = true}) = omega arith
const-high (a_truth {b = false}) = omega arith
const-high (a_location h) = omega arith

-- how sorts fit
fits-numbers : (s t : Sort) → if? (sort_code s == 1) (if? (sort_code t == 1) Right Wrong) Wrong ≡ fit_code (right_if (both numbers s t))
unfolding sort_code fit_code right_if both same_sort
fits-numbers numbers numbers = refl
fits-numbers numbers booleans = refl
fits-numbers numbers locations = refl
fits-numbers booleans t = refl
fits-numbers locations t = refl

fits_booleans : (s t : Sort) → if? (sort_code s == 2) (if? (sort_code t == 2) Right Wrong) Wrong ≡ fit_code (right_if (both booleans s t))
unfolding sort_code fit_code right_if both same_sort
fits_booleans numbers t = refl
fits_booleans booleans numbers = refl
fits_booleans booleans booleans = refl
fits_booleans booleans locations = refl
fits_booleans locations t = refl

fits-alike : (s t : Sort) → if? (sort_code s == sort_code t) Right Unlike ≡ fit_code (alike_if (same_sort s t))
unfolding sort_code fit_code alike_if same_sort
fits-alike numbers numbers = refl
fits-alike numbers booleans = refl
fits-alike numbers locations = refl
fits-alike booleans numbers = refl
fits-alike booleans booleans = refl
fits-alike booleans locations = refl
fits-alike locations numbers = refl
fits-alike locations booleans = refl
fits-alike locations locations = refl

pub fit_law : (o : Op) (s t : Sort) → fit_in (op_word o) (sort_code s) (sort_code t) ≡ fit_code (fit o s t)
unfolding fit_in needed_word op_word fit
fit_law plus s t = fits-numbers s t
fit_law minus s t = fits-numbers s t
fit_law equal s t = fits-alike s t
fit_law less s t = fits-numbers s t
fit_law and s t = fits_booleans s t
fit_law or s t = fits_booleans s t

-- two constants that fit are of the sorts that the operator needs
not_right : {A : Type 0} → wrong ≡ right → A
not_right e = let z : ◌≡◌ {A = ℕ} 0 1 = cc in absurd (omega arith)

not_alike : {A : Type 0} → unlike ≡ right → A
not_alike e = let z : ◌≡◌ {A = ℕ} 0 1 = cc in absurd (omega arith)

data Numbers : Constant → Constant → Type 0 where
  numbers_are : (m n : ℕ) → Numbers (number m) (number n)

data Booleans : Constant → Constant → Type 0 where
  booleans_are : (b d : Bool) → Booleans (boolean b) (boolean d)

data Alike : Constant → Constant → Type 0 where
  alike_numbers : (m n : ℕ) → Alike (number m) (number n)
  alike_booleans : (b d : Bool) → Alike (boolean b) (boolean d)
  alike_locations : (k l : ℕ) → Alike (location k) (location l)

are_numbers : (a b : Constant) → right_if (both numbers (sort_of a) (sort_of b)) ≡ right → Numbers a b
unfolding right_if both same_sort sort_of
are_numbers (number m) (number n) e = numbers_are m n
are_numbers (number m) (boolean d) e = not_right e
are_numbers (number m) (location l) e = not_right e
are_numbers (boolean b) d e = not_right e
are_numbers (location k) d e = not_right e

are_booleans : (a b : Constant) → right_if (both booleans (sort_of a) (sort_of b)) ≡ right → Booleans a b
unfolding right_if both same_sort sort_of
are_booleans (number m) d e = not_right e
are_booleans (boolean b) (number n) e = not_right e
are_booleans (boolean b) (boolean d) e = booleans_are b d
are_booleans (boolean b) (location l) e = not_right e
are_booleans (location k) d e = not_right e

are_alike : (a b : Constant) → alike_if (same_sort (sort_of a) (sort_of b)) ≡ right → Alike a b
unfolding alike_if same_sort sort_of
are_alike (number m) (number n) e = alike_numbers m n
are_alike (number m) (boolean d) e = not_alike e
are_alike (number m) (location l) e = not_alike e
are_alike (boolean b) (number n) e = not_alike e
are_alike (boolean b) (boolean d) e = alike_booleans b d
are_alike (boolean b) (location l) e = not_alike e
are_alike (location k) (number n) e = not_alike e
are_alike (location k) (boolean d) e = not_alike e
are_alike (location k) (location l) e = alike_locations k l

-- an operator on the words of two such constants
work-numbers : (o : Op) {a b : Constant} {x y : ℕ} → Numbers a b → ConstAs a x → ConstAs b y
    → ((m n : ℕ) → m < 4294967296 → n < 4294967296 → ConstAs (work o (number m) (number n)) (work_word (op_word o) m n))
    → ConstAs (work o a b) (work_word (op_word o) (x % 4294967296) (y % 4294967296))
work-numbers o (numbers_are m n) (a_number hm) (a_number hn) k = rw (low-number m hm, low-number n hn) (k m n hm hn)

work_booleans : (o : Op) {a b : Constant} {x y : ℕ} → Booleans a b → ConstAs a x → ConstAs b y
    → ((b d : Bool) → ConstAs (work o (boolean b) (boolean d)) (work_word (op_word o) (bit b) (bit d)))
    → ConstAs (work o a b) (work_word (op_word o) (x % 4294967296) (y % 4294967296))
work_booleans o (booleans_are b d) a_truth a_truth k = rw (low-truth b, low-truth d) (k b d)

same_bits : (b d : Bool) → (bit b == bit d) ≡ same_truth b d
unfolding bit same_truth
same_bits true true = refl
same_bits true false = refl
same_bits false true = refl
same_bits false false = refl

work_equal : {a b : Constant} {x y : ℕ} → Alike a b → ConstAs a x → ConstAs b y
    → ConstAs (work equal a b) (work_word equal_node (x % 4294967296) (y % 4294967296))
unfolding work work_word same_constant
work_equal (alike_numbers m n) (a_number hm) (a_number hn) = rw (low-number m hm, low-number n hn) a_truth
work_equal (alike_booleans b d) a_truth a_truth = rw (low-truth b, low-truth d, same_bits b d) a_truth
work_equal (alike_locations k l) (a_location hk) (a_location hl) = rw (low-location k hk, low-location l hl) a_truth

and_bits : (b d : Bool) → ConstAs (work and (boolean b) (boolean d)) (work_word 9 (bit b) (bit d))
unfolding work work_word both_word truth_in bit truth_word
and_bits true true = a_truth {b = true}
and_bits true false = a_truth {b = false}
and_bits false true = a_truth {b = false}
and_bits false false = a_truth {b = false}

or_bits : (b d : Bool) → ConstAs (work or (boolean b) (boolean d)) (work_word 10 (bit b) (bit d))
unfolding work work_word either_word truth_in bit truth_word
or_bits true true = a_truth {b = true}
or_bits true false = a_truth {b = true}
or_bits false true = a_truth {b = true}
or_bits false false = a_truth {b = false}

pub work_law : (o : Op) {a b : Constant} {x y : ℕ} → fit o (sort_of a) (sort_of b) ≡ right → ConstAs a x → ConstAs b y
    → ConstAs (work o a b) (work_word (op_word o) (x % 4294967296) (y % 4294967296))
unfolding fit op_word work work_word number_in
work_law plus {a} {b} e p q = work-numbers plus (are_numbers a b e) p q (λ m n hm hn. a_number (omega arith))
work_law minus {a} {b} e p q = work-numbers minus (are_numbers a b e) p q (λ m n hm hn. a_number (omega arith))
work_law equal {a} {b} e p q = work_equal (are_alike a b e) p q
work_law less {a} {b} e p q = work-numbers less (are_numbers a b e) p q (λ m n hm hn. a_truth)
work_law and {a} {b} e p q = work_booleans and (are_booleans a b e) p q and_bits
work_law or {a} {b} e p q = work_booleans or (are_booleans a b e) p q or_bits

pub not_law : (b : Bool) → ConstAs (work_not (boolean b)) (truth_word (truth_word b % 4294967296 == 0))
unfolding work_not truth_in truth_word
not_law true = a_truth {b = false}
not_law false = a_truth {b = true}
