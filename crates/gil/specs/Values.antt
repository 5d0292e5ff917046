-- "Values and operators", and what stands in a value's place while exploring: a constant or a term. Assumes nothing.
use Rattle.std.specs.Prelude.{ℕ, ◌+◌, ◌-◌, ◌%◌, Bool, true, false, not, ◌&&◌, ◌||◌, ltb, eqb}
use Rattle.gil.specs.Tree.{Op, plus, minus, equal, less, and, or}

-- "A value is a number, a boolean or a location."
pub data Constant : Type 0 where
  number : ℕ → Constant
  boolean : Bool → Constant
  location : ℕ → Constant

pub data Sort : Type 0 where
  numbers booleans locations : Sort

unfoldable pub sort_of : Constant → Sort
sort_of (number n) = numbers
sort_of (boolean b) = booleans
sort_of (location l) = locations

unfoldable pub same_sort : Sort → Sort → Bool
same_sort numbers numbers = true
same_sort numbers booleans = false
same_sort numbers locations = false
same_sort booleans numbers = false
same_sort booleans booleans = true
same_sort booleans locations = false
same_sort locations numbers = false
same_sort locations booleans = false
same_sort locations locations = true

-- the number or the truth that a constant is; nothing reads these at another sort
unfoldable pub number_in : Constant → ℕ
number_in (number n) = n
number_in (boolean b) = 0
number_in (location l) = 0

unfoldable pub truth_in : Constant → Bool
truth_in (number n) = false
truth_in (boolean b) = b
truth_in (location l) = false

unfoldable pub same_truth : Bool → Bool → Bool
same_truth true b = b
same_truth false b = not b

unfoldable pub same_constant : Constant → Constant → Bool
same_constant (number a) (number b) = eqb a b
same_constant (number a) (boolean b) = false
same_constant (number a) (location b) = false
same_constant (boolean a) (number b) = false
same_constant (boolean a) (boolean b) = same_truth a b
same_constant (boolean a) (location b) = false
same_constant (location a) (number b) = false
same_constant (location a) (boolean b) = false
same_constant (location a) (location b) = eqb a b

-- "`+ - <` need numbers, `and or not` booleans; `=` takes all values, and is false where the two are not of one sort."
pub data Fit : Type 0 where
  right wrong unlike : Fit

unfoldable pub right_if : Bool → Fit
right_if true = right
right_if false = wrong

unfoldable pub alike_if : Bool → Fit
alike_if true = right
alike_if false = unlike

unfoldable pub both : Sort → Sort → Sort → Bool
both s a b = same_sort s a && same_sort s b

unfoldable pub fit : Op → Sort → Sort → Fit
fit plus a b = right_if (both numbers a b)
fit minus a b = right_if (both numbers a b)
fit equal a b = alike_if (same_sort a b)
fit less a b = right_if (both numbers a b)
fit and a b = right_if (both booleans a b)
fit or a b = right_if (both booleans a b)

-- "Sums and differences are taken modulo 4,294,967,296; `<` is unsigned." An operator on two constants of the right sorts:
unfoldable pub work : Op → Constant → Constant → Constant
work plus a b = number ((number_in a + number_in b) % 4294967296)
work minus a b = number ((number_in a + 4294967296 - number_in b) % 4294967296)
work equal a b = boolean (same_constant a b)
work less a b = boolean (ltb (number_in a) (number_in b))
work and a b = boolean (truth_in a && truth_in b)
work or a b = boolean (truth_in a || truth_in b)

unfoldable pub work_not : Constant → Constant
work_not a = boolean (not (truth_in a))

-- what a variable or a cell holds: a constant, or a term, whatever a term is
pub data Value (T : Type 0) : Type 0 where
  const : Constant → Value T
  term : T → Value T

-- a term that is made: an input, or an operator whose operands are not all constants
pub data Node (T : Type 0) : Type 0 where
  input : ℕ → Node T
  neg : Value T → Node T
  bin : Op → Value T → Value T → Node T

-- "`iSym` the next input, always a number": the sort of what an operator makes
unfoldable pub op_gives_number : Op → Bool
op_gives_number plus = true
op_gives_number minus = true
op_gives_number equal = false
op_gives_number less = false
op_gives_number and = false
op_gives_number or = false

unfoldable pub gives_number : {T : Type 0} → Node T → Bool
gives_number (input k) = true
gives_number (neg a) = false
gives_number (bin o a b) = op_gives_number o
