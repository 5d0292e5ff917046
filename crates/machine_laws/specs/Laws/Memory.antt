-- Cells found, put and taken out: over words and over values alike. Assumes nothing.
use Rattle.std.specs.Prelude.{ℕ, suc, Bool, true, false, ◌≡◌, refl, List, ◌∷◌, length, eqb}
use Rattle.std.proofs.Common.{ap, ap₂}
use Rattle.std.proofs.Math.Option.{Option, none, some}
use Rattle.gil.specs.Values.{Value, term}
use Rattle.gil.specs.Machine as Machine
use Rattle.gil.specs.Machine.{is_at, is_before, cell_at, put_cell, without_cells}
use Rattle.machine_terms.specs.Laws.Engine.{ValueAs}
use Rattle.machine_cells.specs.Laws.InUse.{at_here, at-later, without_here, without_other}
use Rattle.machine_laws.specs.Laws.State.{CellsAs, no_cells, a_cell}

abbrev cell : {T : Type 0} → ℕ → ℕ → Value T → Machine.Cell T
cell l q v = record { location = l; property = q; value = v }

-- what the first cell decides for a put
module _ {T : Type 0} (l q : ℕ) (v : Value T) (c : Machine.Cell T) (cs : List (Machine.Cell T)) where
  put-by : Bool → Bool → List (Machine.Cell T)
  put-by a b = elim a [ true ↦ cell l q v ∷ cs | false ↦ elim b [ true ↦ cell l q v ∷ c ∷ cs | false ↦ c ∷ put_cell l q v cs ] ]

  put_is : (a b : Bool) → is_at l q c ≡ a → is_before l q c ≡ b → put_cell l q v (c ∷ cs) ≡ put-by a b
  unfolding put_cell put-by
  put_is a b e f = ap₂ (λ (a b : Bool). put-by a b) e f

module _ {T : Type 0} (TermAs : T → ℕ → Type 0) where
  pub cells-length : {cs : List (Machine.Cell T)} {ds : List (Machine.Cell ℕ)} → CellsAs TermAs cs ds → length cs ≡ length ds
  cells-length no_cells = refl
  cells-length (a_cell p r) = ap suc (cells-length r)

  -- what is found, over values and over words
  pub data FoundAs : Option (Value T) → Option (Value ℕ) → Type 0 where
    finds_none : FoundAs none none
    finds : {v : Value T} {x : ℕ} → ValueAs TermAs v x → FoundAs (some v) (some (term x))

  module _ (l q : ℕ) where
    find-by : (k o : ℕ) {x : ℕ} {v : Value T} (cs : List (Machine.Cell T)) (ds : List (Machine.Cell ℕ)) (b : Bool)
        → is_at l q (cell {T = ℕ} k o (term x)) ≡ b
        → is_at l q (cell k o v) ≡ b
        → ValueAs TermAs v x
        → FoundAs (cell_at l q cs) (cell_at l q ds)
        → FoundAs (cell_at l q (cell k o v ∷ cs)) (cell_at l q (cell k o (term x) ∷ ds))
    find-by k o {x} {v} cs ds true e f p r =
        rw (at_here l q (cell k o v) cs f, at_here l q (cell k o (term x)) ds e) (finds p)
    find-by k o {x} {v} cs ds false e f p r =
        rw (at-later l q (cell k o v) cs f, at-later l q (cell k o (term x)) ds e) r

    pub find_as : {cs : List (Machine.Cell T)} {ds : List (Machine.Cell ℕ)} → CellsAs TermAs cs ds
        → FoundAs (cell_at l q cs) (cell_at l q ds)
    unfolding cell_at is_at
    find_as no_cells = finds_none
    find_as (a_cell {l = k} {q = o} {x} {v} {cs} {ds} p r) = find-by k o cs ds (is_at l q (cell {T = ℕ} k o (term x))) refl refl p (find_as r)

    module _ {u : Value T} {y : ℕ} (new : ValueAs TermAs u y) where
      put-at : (k o : ℕ) {x : ℕ} {v : Value T} (cs : List (Machine.Cell T)) (ds : List (Machine.Cell ℕ)) (a b : Bool)
          → is_at l q (cell {T = ℕ} k o (term x)) ≡ a
          → is_at l q (cell k o v) ≡ a
          → is_before l q (cell {T = ℕ} k o (term x)) ≡ b
          → is_before l q (cell k o v) ≡ b
          → ValueAs TermAs v x
          → CellsAs TermAs cs ds
          → CellsAs TermAs (put_cell l q u cs) (put_cell l q (term y) ds)
          → CellsAs TermAs (put_cell l q u (cell k o v ∷ cs)) (put_cell l q (term y) (cell k o (term x) ∷ ds))
      unfolding put-by
      put-at k o {x} {v} cs ds true b e f g h p r s =
          rw (put_is l q u (cell k o v) cs true b f h, put_is l q (term y) (cell k o (term x)) ds true b e g) (a_cell new r)
      put-at k o {x} {v} cs ds false true e f g h p r s =
          rw (put_is l q u (cell k o v) cs false true f h, put_is l q (term y) (cell k o (term x)) ds false true e g) (a_cell new (a_cell p r))
      put-at k o {x} {v} cs ds false false e f g h p r s =
          rw (put_is l q u (cell k o v) cs false false f h, put_is l q (term y) (cell k o (term x)) ds false false e g) (a_cell p s)

      pub put_as : {cs : List (Machine.Cell T)} {ds : List (Machine.Cell ℕ)} → CellsAs TermAs cs ds
          → CellsAs TermAs (put_cell l q u cs) (put_cell l q (term y) ds)
      unfolding put_cell is_at is_before
      put_as no_cells = a_cell new no_cells
      put_as (a_cell {l = k} {q = o} {x} {v} {cs} {ds} p r) =
          put-at k o cs ds (is_at l q (cell {T = ℕ} k o (term x))) (is_before l q (cell {T = ℕ} k o (term x))) refl refl refl refl p r (put_as r)

  module _ (l : ℕ) where
    without_by : (k o : ℕ) {x : ℕ} {v : Value T} (cs : List (Machine.Cell T)) (ds : List (Machine.Cell ℕ)) (b : Bool) → eqb l k ≡ b
        → ValueAs TermAs v x
        → CellsAs TermAs (without_cells l cs) (without_cells l ds)
        → CellsAs TermAs (without_cells l (cell k o v ∷ cs)) (without_cells l (cell k o (term x) ∷ ds))
    without_by k o {x} {v} cs ds true e p r =
        rw (without_here l (cell k o v) cs e, without_here l (cell k o (term x)) ds e) r
    without_by k o {x} {v} cs ds false e p r =
        rw (without_other l (cell k o v) cs e, without_other l (cell k o (term x)) ds e) (a_cell p r)

    pub without_as : {cs : List (Machine.Cell T)} {ds : List (Machine.Cell ℕ)} → CellsAs TermAs cs ds
        → CellsAs TermAs (without_cells l cs) (without_cells l ds)
    unfolding without_cells
    without_as no_cells = no_cells
    without_as (a_cell {l = k} {q = o} {cs = cs} {ds = ds} p r) = without_by k o cs ds (eqb l k) refl p (without_as r)
