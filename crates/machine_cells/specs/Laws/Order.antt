-- "Cells are kept in order of location, then of property by its first place in the text": the invariant of the store, for the machine's cells
-- over any terms. `put_cell` and `without_cells` keep it; in an ordered list, what lies beyond the place sought is not the cell sought.
-- Assumes nothing.
use Rattle.std.specs.Prelude.{ℕ, ◌<◌, Bool, true, false, ◌&&◌, ◌||◌, ◌≡◌, ◌⊎◌, refl, List, [], ◌∷◌, ltb, eqb}
use Rattle.std.proofs.Common.{sym, ap, ◌∙◌, subst₂, inl, inr, arith, ltb-true, ltb-false, eqb-true, lt-ltb, eq-eqb, ne_eqb}
use Rattle.std.proofs.lemmas.Bool.{eqb-false}
use Rattle.std.proofs.Math.Option.{none, some}
use Rattle.gil.specs.Values.{Value}
use Rattle.gil.proofs.Theory.Tests.{chosen, no_false, both}
use Rattle.gil.specs.Machine.{Cell, is_at, is_before, cell_at, put_cell, without_cells}

-- the place (l, q) comes before every cell
pub data Ahead {T : Type 0} (l q : ℕ) : List (Cell T) → Type 0 where
  last : Ahead l q []
  ahead : (c : Cell T) (cs : List (Cell T)) → is_before l q c ≡ true → Ahead l q cs → Ahead l q (c ∷ cs)

-- every cell comes before those behind it
pub data Ordered {T : Type 0} : List (Cell T) → Type 0 where
  empty : Ordered []
  behind : (c : Cell T) (cs : List (Cell T)) → Ahead c.location c.property cs → Ordered cs → Ordered (c ∷ cs)

-- ---- the order of places
abbrev Less : ℕ → ℕ → ℕ → ℕ → Type 0
Less l q m p = (l < m) ⊎ ((l ≡ m) × (q < p))

either : (a b : Bool) → a || b ≡ true → (a ≡ true) ⊎ (b ≡ true)
either true b e = inl refl
either false b e = inr e

pub or_right : (a b : Bool) → b ≡ true → a || b ≡ true
or_right true b e = refl
or_right false b e = e

less_trans : (l q m p n r : ℕ) → Less l q m p → Less m p n r → Less l q n r
less_trans l q m p n r (inl a) (inl b) = inl (omega arith)
less_trans l q m p n r (inl a) (inr b) = inl (omega (arith, b.0))
less_trans l q m p n r (inr a) (inl b) = inl (omega (arith, a.0))
less_trans l q m p n r (inr a) (inr b) = inr (a.0 ∙ b.0, omega (arith, a.1, b.1))

less_other : (l q m p : ℕ) → Less l q m p → eqb l m && eqb q p ≡ false
less_other l q m p (inl a) = ap (λ (t : Bool). t && eqb q p) (ne_eqb l m (λ e. omega (arith, e, a)))
less_other l q m p (inr b) =
    ap (λ (t : Bool). t && eqb q p) (eq-eqb l m b.0) ∙ ne_eqb q p (λ e. omega (arith, e, b.1))

-- neither there nor before it: behind it
past_by : (l q m p : ℕ) (a b : Bool) → ltb l m ≡ a → eqb l m ≡ b → b && eqb q p ≡ false → a || b && ltb q p ≡ false → Less m p l q
past_by l q m p true b e f g h = no_false refl h
past_by l q m p false true e f g h = inr (sym (eqb-true l m f), omega (arith, eqb-false q p g, ltb-false q p h))
past_by l q m p false false e f g h = inl (omega (arith, eqb-false l m f, ltb-false l m e))

module _ {T : Type 0} (l q : ℕ) (c : Cell T) where
  less_by : (ltb l c.location ≡ true) ⊎ (eqb l c.location && ltb q c.property ≡ true) → Less l q c.location c.property
  less_by (inl a) = inl (ltb-true l c.location a)
  less_by (inr b) =
      let p = both (eqb l c.location) (ltb q c.property) b in
      inr (eqb-true l c.location p.0, ltb-true q c.property p.1)

  less : is_before l q c ≡ true → Less l q c.location c.property
  unfolding is_before
  less e = less_by (either (ltb l c.location) (eqb l c.location && ltb q c.property) e)

  before : Less l q c.location c.property → is_before l q c ≡ true
  unfolding is_before
  before (inl a) = ap (λ (t : Bool). t || eqb l c.location && ltb q c.property) (lt-ltb l c.location a)
  before (inr p) =
      or_right (ltb l c.location) (eqb l c.location && ltb q c.property)
      (ap (λ (t : Bool). t && ltb q c.property) (eq-eqb l c.location p.0) ∙ lt-ltb q c.property p.1)

  other : is_before l q c ≡ true → is_at l q c ≡ false
  unfolding is_at
  other e = less_other l q c.location c.property (less e)

  there : is_at l q c ≡ true → (l ≡ c.location) × (q ≡ c.property)
  unfolding is_at
  there e =
      let b = both (eqb l c.location) (eqb q c.property) e in
      (eqb-true l c.location b.0, eqb-true q c.property b.1)

  past : is_at l q c ≡ false → is_before l q c ≡ false → Less c.location c.property l q
  unfolding is_at is_before
  past e f = past_by l q c.location c.property (ltb l c.location) (eqb l c.location) refl refl e f

-- what comes before a cell that is the one sought or beyond it comes before those behind
pub before_on : {T : Type 0} (l q : ℕ) (c d : Cell T) → is_at l q c || is_before l q c ≡ true → is_before c.location c.property d ≡ true → is_before l q d ≡ true
before_on l q c d e b = on (either (is_at l q c) (is_before l q c) e)
  where
    on : (is_at l q c ≡ true) ⊎ (is_before l q c ≡ true) → is_before l q d ≡ true
    on (inl at) = let p = there l q c at in subst₂ (λ (m r : ℕ). is_before m r d ≡ true) (sym p.0) (sym p.1) b
    on (inr less') =
        before l q d (less_trans l q c.location c.property d.location d.property (less l q c less') (less c.location c.property d b))

-- where the place comes before another, it is ahead of what that is ahead of
ahead_trans : {T : Type 0} (l q m p : ℕ) → Less l q m p → (cs : List (Cell T)) → Ahead m p cs → Ahead l q cs
ahead_trans l q m p h [] a = last
ahead_trans l q m p h (c ∷ cs) (ahead d ds b a) =
    ahead c cs (before l q c (less_trans l q m p c.location c.property h (less m p c b))) (ahead_trans l q m p h cs a)

-- what is ahead of every cell is not among them
pub ahead_none : {T : Type 0} (l q : ℕ) (cs : List (Cell T)) → Ahead l q cs → cell_at l q cs ≡ none
unfolding cell_at
ahead_none l q [] a = refl
ahead_none l q (c ∷ cs) (ahead d ds b a) =
    ap (λ (t : Bool). elim t [ true ↦ some c.value | false ↦ cell_at l q cs ]) (other l q c b) ∙ ahead_none l q cs a

-- a cell beyond the place sought: in an ordered list the cell sought is not there
pub beyond_none : {T : Type 0} (l q : ℕ) (c : Cell T) (cs : List (Cell T)) → Ordered (c ∷ cs) → is_before l q c ≡ true → cell_at l q (c ∷ cs) ≡ none
beyond_none l q c cs (behind d ds a o) b =
    ahead_none l q (c ∷ cs) (ahead c cs b (ahead_trans l q c.location c.property (less l q c b) cs a))

pub ordered_tail : {T : Type 0} {c : Cell T} {cs : List (Cell T)} → Ordered (c ∷ cs) → Ordered cs
ordered_tail (behind d ds a o) = o

-- ---- what keeps the order
module _ {T : Type 0} (l : ℕ) where
  ahead_without : (m p : ℕ) (cs : List (Cell T)) → Ahead m p cs → Ahead m p (without_cells l cs)
  unfolding without_cells
  ahead_without m p [] a = last
  ahead_without m p (c ∷ cs) (ahead d ds b a) =
      chosen (Ahead m p) (eqb l c.location) (λ _. ahead_without m p cs a) (λ _. ahead c (without_cells l cs) b (ahead_without m p cs a))

  pub without_keeps : (cs : List (Cell T)) → Ordered cs → Ordered (without_cells l cs)
  unfolding without_cells
  without_keeps [] o = empty
  without_keeps (c ∷ cs) (behind d ds a o) =
      chosen Ordered (eqb l c.location) (λ _. without_keeps cs o)
      (λ _. behind c (without_cells l cs) (ahead_without c.location c.property cs a) (without_keeps cs o))

module _ {T : Type 0} (l q : ℕ) (v : Value T) where
  abbrev new : Cell T
  new = record { location = l; property = q; value = v }

  ahead-put : (m p : ℕ) → Less m p l q → (cs : List (Cell T)) → Ahead m p cs → Ahead m p (put_cell l q v cs)
  unfolding put_cell
  ahead-put m p h [] a = ahead new [] (before m p new h) last
  ahead-put m p h (c ∷ cs) (ahead d ds b a) =
      chosen (Ahead m p) (is_at l q c) (λ _. ahead new cs (before m p new h) a)
      (λ _. chosen (Ahead m p) (is_before l q c) (λ _. ahead new (c ∷ cs) (before m p new h) (ahead c cs b a))
      (λ _. ahead c (put_cell l q v cs) b (ahead-put m p h cs a)))

  pub put_keeps : (cs : List (Cell T)) → Ordered cs → Ordered (put_cell l q v cs)
  unfolding put_cell
  put_keeps [] o = behind new [] last empty
  put_keeps (c ∷ cs) (behind d ds a o) =
      chosen Ordered (is_at l q c)
      (λ e. behind new cs (subst₂ (λ (m p : ℕ). Ahead m p cs) (sym (there l q c e).0) (sym (there l q c e).1) a) o)
      (λ e. chosen Ordered (is_before l q c)
      (λ f. behind new (c ∷ cs) (ahead c cs f (ahead_trans l q c.location c.property (less l q c f) cs a)) (behind c cs a o))
      (λ f. behind c (put_cell l q v cs) (ahead-put c.location c.property (past l q c e f) cs a) (put_keeps cs o)))
