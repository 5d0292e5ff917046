-- Text written forward into lent memory: byte after byte from a place on. Where the memory ends the bytes are dropped and the place goes
-- on. `Writes` is every writer's contract, and `Wrote` that of what is given the memory itself. Assumes nothing.
use Rattle.std.specs.Prelude.{ℕ, ◌+◌, ◌≡◌, List, [], ◌∷◌, set, ltb}
use Rattle.machine_code.specs.Mirror.{if?}
use Rattle.print_writing.specs.declared.Page.{Page}

-- the last place that a 64-bit number tells: counting ends there, and no memory is longer
abbrev pub last_place : ℕ
last_place = 18446744073709551615

-- the place after a byte
unfoldable pub next : ℕ → ℕ
next at = if? (ltb at last_place) (at + 1) at

unfoldable pub reached : ℕ → List ℕ → ℕ
reached at [] = at
reached at (x ∷ t) = reached (next at) t

-- bytes stored one after another, each where the memory has its place
unfoldable pub filled : List ℕ → ℕ → List ℕ → List ℕ
filled b at [] = b
filled b at (x ∷ t) = filled (set b at x) (next at) t

-- `t`, written into `b` from `at` on, leaves `b'` and ends at `r`
pub record Wrote (b : List ℕ) (at : ℕ) (t b' : List ℕ) (r : ℕ) : Type 0 where
  pub bytes : b' ≡ filled b at t
  pub place : r ≡ reached at t

-- the same of a page: it lends the same memory on
pub record Writes (p : Page) (t : List ℕ) (q : Page) : Type 0 where
  pub same : q.out.ghost_name ≡ p.out.ghost_name
  pub wrote : Wrote p.out.now p.at t q.out.now q.at
