-- A reader of the code against a reader of the definitions: `None` exactly where the definitions find a fault, and else what was read and the
-- place after it. Assumes nothing.
use Rattle.std.specs.Prelude.{ℕ, ◌≤◌, ◌≡◌, List, length, Option, None, Some}
use Rattle.gil.specs.Reading.{Read, faulty, read}

-- `Some b`: what was read has `Q b`, and `next b` is the place after it, at least `low` and in the text
pub data Goes (s : List ℕ) (low : ℕ) {A B : Type 0} (next : B → ℕ) (Q : B → A → Type 0) : Read A → Option B → Type 0 where
  fails : Goes s low next Q faulty None
  goes : {a : A} {b : B} {m : ℕ} → next b ≡ m → low ≤ m → m ≤ length s → Q b a → Goes s low next Q (read a m) (Some b)

-- a reader of the code that gives the place alone
abbrev pub Passes : List ℕ → ℕ → {A : Type 0} → (A → Type 0) → Read A → Option ℕ → Type 0
Passes s low Q = Goes s low (λ n. n) (λ n. Q)

-- one that gives a value and the place
abbrev pub Gives : List ℕ → ℕ → {A B : Type 0} → (B → A → Type 0) → Read A → Option (B × ℕ) → Type 0
Gives s low Q = Goes s low (λ r. r.1) (λ r. Q r.0)

abbrev pub anything : {A : Type 0} → A → Type 0
anything a = Unit {0}

-- what the second of two readers in a row answers, which is asked only where the first read something
unfoldable pub following : {A B : Type 0} → Option A → Option B → Option B
following None o = None
following (Some a) o = o
