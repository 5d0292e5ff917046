-- A table of names against the list of all distinct names so far: what it keeps, and what taking names in does to it. Assumes nothing.
use Rattle.std.specs.Prelude.{ℕ, ◌+◌, ◌<◌, min, ◌≡◌, List, map, length, take, Option, unwrap_or, MatchOption}
use Rattle.gil.specs.Tree.{Name}
use Rattle.gil.specs.Names.{place_of, with_name, with_names}
use Rattle.text_tokens.specs.Mirror.Seen.{name_at}
use Rattle.text_names.specs.declared.Names.{Names}

abbrev pub most_names : ℕ
most_names = 32

-- the names that a table has
unfoldable pub known : List ℕ → Names → List Name
known s t = map (name_at s) (take (min t.count t.most) t.places)

-- where a name stands among names
abbrev pub FoundIn : Name → List Name → Option ℕ → Type 0
FoundIn w ns r = MatchOption r (place_of w ns ≡ length ns) (λ i. (i ≡ place_of w ns) × (i < length ns))

-- the table `t` of at most `cap` names holds the first of `all`, and counts them up to one too many
pub record Kept (s : List ℕ) (cap : ℕ) (t : Names) (all : List Name) : Type 0 where
  pub most : t.most ≡ cap
  pub long : length t.places ≡ most_names
  pub counted : t.count ≡ min (cap + 1) (length all)
  pub named : map (name_at s) (take (min cap (length all)) t.places) ≡ take cap all

-- the number of a name by a table that took in all names
unfoldable pub number_in : ℕ → List Name → Name → ℕ
number_in cap all w = place_of w (take cap all)

-- what `intern` does to a table, whatever names it has; a name that found no room has the number `cap`
pub record Interned (s : List ℕ) (cap : ℕ) (t t' : Names) (w : Name) (r : Option ℕ) : Type 0 where
  pub kept : (all : List Name) → Kept s cap t all → Kept s cap t' (with_name all w)
  pub number : (all : List Name) → Kept s cap t all → unwrap_or r cap ≡ number_in cap (with_name all w) w

-- a table takes in names in a row
pub record Grows (s : List ℕ) (cap : ℕ) (t t' : Names) (ws : List Name) : Type 0 where
  pub kept : (all : List Name) → Kept s cap t all → Kept s cap t' (with_names all ws)
