-- Laws of the cells in use: a search from the front, a cell carried upward, and what the removal goes by. Assumes nothing.
use Rattle.std.specs.Prelude.{ℕ, zero, suc, ◌+◌, ◌-◌, ◌<◌, ◌≤◌, Bool, true, false, ◌||◌, ◌≡◌, refl, List, [], ◌∷◌, ◌++◌, map, length, set, take, drop, eqb, ltb, leb}
use Rattle.std.specs.List.{copy_within}
use Rattle.std.proofs.Common.{append-nil, sym, ap, ◌∙◌, add-one, length-append, length-take, length-drop, drop_of_length-le, get_or-take, get_or, length-take-le, arith, ltb-true, ltb-false, eq-eqb, ne_eqb, lt-ltb, le-ltb}
use Rattle.std.proofs.Math.Path.{ap₂}
use Rattle.std.proofs.Math.Option.{some}
use Rattle.std.proofs.Math.Decide.{dec_le}
use Rattle.std.proofs.lemmas.Bool.{le-leb, lt-leb}
use Rattle.std.proofs.lemmas.List.{append_assoc, length-map, map-append, set-append_left, take_more_set, take-append-drop, drop-drop}
use Rattle.std.proofs.Math.Seq.{drop-cons, take-suc-set, take-set-lt, drop-set-lt, append_snoc}
use Rattle.gil.proofs.Theory.Tests.{chosen, no_false}
use Rattle.gil.specs.Machine as Machine
use Rattle.gil.specs.Machine.{is_at, is_before, cell_at, without_cells}
use Rattle.machine_cells.specs.declared.Cell.{Cell}
use Rattle.machine_cells.specs.Mirror.{cell_of, no_cell, held_in, from_in, found_in, reaches, place_from, leads, shift_in, carried_in}

-- those in use from a place on: none past the end, else the one that stands there and those behind it
module _ {A : Type 0} (i n : ℕ) (l : List A) where
  pub from-none : n ≤ i → drop i (take n l) ≡ []
  from-none h = drop_of_length-le (take n l) {i = i} (omega (arith, length-take n l))

  pub from_end : length l ≤ i → drop i (take n l) ≡ []
  from_end h = drop_of_length-le (take n l) {i = i} (omega (arith, length-take n l))

  pub from_more : (d : A) → i < n → i < length l → drop i (take n l) ≡ get_or l i d ∷ drop (i + 1) (take n l)
  from_more d hn hl =
      drop-cons (take n l) i d (omega (arith, length-take n l))
      ∙ ap₂ (λ (a : A) (k : ℕ). a ∷ drop k (take n l)) (get_or-take n l i d hn) (sym (add-one i))

-- the first cell decides
module _ {T : Type 0} (l q : ℕ) (c : Machine.Cell T) (cs : List (Machine.Cell T)) where
  pub at_here : is_at l q c ≡ true → cell_at l q (c ∷ cs) ≡ some c.value
  unfolding cell_at
  at_here e = ap (λ (b : Bool). elim b [ true ↦ some c.value | false ↦ cell_at l q cs ]) e

  pub at-later : is_at l q c ≡ false → cell_at l q (c ∷ cs) ≡ cell_at l q cs
  unfolding cell_at
  at-later e = ap (λ (b : Bool). elim b [ true ↦ some c.value | false ↦ cell_at l q cs ]) e

module _ {T : Type 0} (l : ℕ) (c : Machine.Cell T) (cs : List (Machine.Cell T)) where
  pub without_here : eqb l c.location ≡ true → without_cells l (c ∷ cs) ≡ without_cells l cs
  unfolding without_cells
  without_here e = ap (λ (b : Bool). elim b [ true ↦ without_cells l cs | false ↦ c ∷ without_cells l cs ]) e

  pub without_other : eqb l c.location ≡ false → without_cells l (c ∷ cs) ≡ c ∷ without_cells l cs
  unfolding without_cells
  without_other e = ap (λ (b : Bool). elim b [ true ↦ without_cells l cs | false ↦ c ∷ without_cells l cs ]) e

pub without_fewer : {T : Type 0} (l : ℕ) (cs : List (Machine.Cell T)) → length (without_cells l cs) ≤ length cs
unfolding without_cells
without_fewer l [] = omega arith
without_fewer l (c ∷ cs) =
    let rest : length (without_cells l cs) ≤ length cs = without_fewer l cs in
    chosen (λ (ds : List (Machine.Cell _)). length ds ≤ suc (length cs)) (eqb l c.location) (λ _. omega arith) (λ _. omega arith)

-- where the search ends
module _ (l q k : ℕ) (c : Machine.Cell ℕ) (cs : List (Machine.Cell ℕ)) where
  pub place_here : reaches l q c ≡ true → place_from l q k (c ∷ cs) ≡ k
  unfolding place_from
  place_here e = ap (λ (b : Bool). elim b [ true ↦ k | false ↦ place_from l q (suc k) cs ]) e

  pub place-later : reaches l q c ≡ false → place_from l q k (c ∷ cs) ≡ place_from l q (suc k) cs
  unfolding place_from
  place-later e = ap (λ (b : Bool). elim b [ true ↦ k | false ↦ place_from l q (suc k) cs ]) e

-- a loop that stands at place i: nothing is left
module _ (i n : ℕ) (cells : List Cell) where
  pub place_none : (l q : ℕ) → drop i (take n cells) ≡ [] → place_from l q i (from_in i n cells) ≡ i
  unfolding place_from
  place_none l q e = ap (λ (cs : List Cell). place_from l q i (map cell_of cs)) e

  pub leads-none : (l q : ℕ) → drop i (take n cells) ≡ [] → leads l q (from_in i n cells) ≡ false
  unfolding leads
  leads-none l q e = ap (λ (cs : List Cell). leads l q (map cell_of cs)) e

  pub without_none : (l : ℕ) → drop i (take n cells) ≡ [] → without_cells l (from_in i n cells) ≡ []
  unfolding without_cells
  without_none l e = ap (λ (cs : List Cell). without_cells l (map cell_of cs)) e

  -- the cell that stands there, and the rest
  module _ (hn : i < n) (hl : i < length cells) where
    split : from_in i n cells ≡ cell_of (get_or cells i no_cell) ∷ from_in (i + 1) n cells
    split = ap (map cell_of) (from_more i n cells no_cell hn hl)

    pub leads-here : (l q : ℕ) → leads l q (from_in i n cells) ≡ is_at l q (cell_of (get_or cells i no_cell))
    unfolding leads
    leads-here l q = ap (leads l q) split

    pub found_here : (l q : ℕ) → leads l q (from_in i n cells) ≡ true → found_in (cell_at l q (from_in i n cells)) ≡ (get_or cells i no_cell).value
    found_here l q e =
        ap (λ (cs : List (Machine.Cell ℕ)). found_in (cell_at l q cs)) split ∙ ap found_in (at_here l q _ _ (sym (leads-here l q) ∙ e))

    pub placed-here : (l q : ℕ) → reaches l q (cell_of (get_or cells i no_cell)) ≡ true → place_from l q i (from_in i n cells) ≡ i
    placed-here l q e = ap (place_from l q i) split ∙ place_here l q i _ _ e

    pub placed-later : (l q : ℕ) → reaches l q (cell_of (get_or cells i no_cell)) ≡ false
        → place_from l q i (from_in i n cells) ≡ place_from l q (i + 1) (from_in (i + 1) n cells)
    placed-later l q e =
        ap (place_from l q i) split
        ∙ place-later l q i _ _ e
        ∙ ap (λ (k : ℕ). place_from l q k (from_in (i + 1) n cells)) (sym (add-one i))

    pub taken_out : (l : ℕ) → eqb l (get_or cells i no_cell).location.0 ≡ true
        → without_cells l (from_in i n cells) ≡ without_cells l (from_in (i + 1) n cells)
    taken_out l e = ap (without_cells l) split ∙ without_here l _ _ e

    pub left_in : (l : ℕ) → eqb l (get_or cells i no_cell).location.0 ≡ false
        → without_cells l (from_in i n cells) ≡ cell_of (get_or cells i no_cell) ∷ without_cells l (from_in (i + 1) n cells)
    left_in l e = ap (without_cells l) split ∙ without_other l _ _ e

-- whether the cell sought stands at a place says that there is one
pub leads-inside : (l q i n : ℕ) (cells : List Cell) → leads l q (from_in i n cells) ≡ true → (i < n) × (i < length cells)
leads-inside l q i n cells t = (within (ltb i n) refl, there (ltb i (length cells)) refl)
  where
    within : (b : Bool) → ltb i n ≡ b → i < n
    within true e = ltb-true i n e
    within false e = no_false t (leads-none i n cells l q (from-none i n cells (ltb-false i n e)))

    there : (b : Bool) → ltb i (length cells) ≡ b → i < length cells
    there true e = ltb-true i (length cells) e
    there false e = no_false t (leads-none i n cells l q (from_end i n cells (ltb-false i (length cells) e)))

-- a cell carried upward by one
module _ (last : ℕ) (i : ℕ) (c : Cell) (out : List Cell) where
  pub carried_up : i ≤ last → i < length out → carried_in i last c out ≡ carried_in (i + 1) last (get_or out i no_cell) (set out i c)
  unfolding carried_in shift_in
  carried_up h inside =
      let x = get_or out i no_cell in
      let n = last + 1 - (i + 1) in
      let e : last + 1 - i ≡ suc n = omega arith in
      let f : drop i out ≡ x ∷ drop (suc i) out = drop-cons out i no_cell inside in
      let g : drop (suc i) (set out i c) ≡ drop (suc i) out = drop-set-lt (suc i) out i c (omega arith) in
      let t : take (suc i) (set out i c) ≡ take i out ++ (c ∷ []) = take-suc-set out i c inside in
      ap₂ (λ (m : ℕ) (l : List Cell). take i out ++ shift_in m c l) e f
      ∙ sym (append_snoc (take i out) c (shift_in n x (drop (suc i) out)))
      ∙ ap₂ (λ (a b : List Cell). a ++ shift_in n x b) (sym t) (sym g)
      ∙ ap (λ (j : ℕ). take j (set out i c) ++ shift_in n x (drop j (set out i c))) (sym (add-one i))

  pub carried_all : last < i → carried_in i last c out ≡ out
  unfolding carried_in shift_in
  carried_all h =
      let e : last + 1 - i ≡ 0 = omega arith in
      ap (λ (m : ℕ). take i out ++ shift_in m c (drop i out)) e ∙ take-append-drop i out

shift-length : {A : Type 0} (k : ℕ) (c : A) (l : List A) → length (shift_in k c l) ≡ length l
unfolding shift_in
shift-length zero c l = refl
shift-length (suc k) c [] = refl
shift-length (suc k) c (x ∷ l) = ap suc (shift-length k x l)

pub carried_length : (at last : ℕ) (c : Cell) (cells : List Cell) → length (carried_in at last c cells) ≡ length cells
unfolding carried_in
carried_length at last c cells =
    omega (
      arith,
      length-append (take at cells) (shift_in (last + 1 - at) c (drop at cells)),
      shift-length (last + 1 - at) c (drop at cells),
      length-take at cells,
      length-drop at cells,
    )

-- carried on, it is put in where those behind its place have moved up
shifted : {A : Type 0} (k : ℕ) (c : A) (l : List A) → k < length l → shift_in (suc k) c l ≡ c ∷ (take k l ++ drop (suc k) l)
unfolding shift_in
shifted k c [] h = absurd (omega arith)
shifted zero c (x ∷ l) h = refl
shifted (suc k) c (x ∷ l) h = ap (λ (r : List _). c ∷ r) (shifted k x l (omega arith))

pub carried_is : (at last : ℕ) (c : Cell) (cells : List Cell) → at ≤ last → last < length cells
    → carried_in at last c cells ≡ set (copy_within cells at last (at + 1)) at c
unfolding carried_in
carried_is at last c cells low high =
    let k = last - at in
    let rest = take k (drop at cells) ++ drop (at + 1 + k) cells in
    let e : last + 1 - at ≡ suc k = omega arith in
    let f : at + suc k ≡ at + 1 + k = omega arith in
    let n : length (take (at + 1) cells) ≡ at + 1 = length-take-le (at + 1) cells (omega arith) in
    ap (λ (m : ℕ). take at cells ++ shift_in m c (drop at cells)) e
    ∙ ap (λ (r : List Cell). take at cells ++ r) (shifted k c (drop at cells) (omega (arith, length-drop at cells)))
    ∙ ap (λ (r : List Cell). take at cells ++ (c ∷ (take k (drop at cells) ++ r))) (drop-drop (suc k) at cells ∙ ap (λ (m : ℕ). drop m cells) f)
    ∙ sym
    (ap (λ (r : List Cell). set r at c) (append_assoc (take (at + 1) cells) (take k (drop at cells)) (drop (at + 1 + k) cells))
    ∙ set-append_left (take (at + 1) cells) rest at c (omega arith)
    ∙ ap (λ (r : List Cell). r ++ rest) (sym (take-set-lt (at + 1) cells at c (omega arith)) ∙ take_more_set cells at c (omega arith))
    ∙ append_snoc (take at cells) c rest)

-- the cells kept so far, the first `n`, and those not yet looked at, from the place i on
module _ (l i n held : ℕ) (zs : List Cell) where
  pub removed_skip : i < held → held ≤ length zs → eqb l (get_or zs i no_cell).location.0 ≡ true
      → held_in n zs ++ without_cells l (from_in i held zs) ≡ held_in n zs ++ without_cells l (from_in (i + 1) held zs)
  removed_skip h whole e = ap (λ (w : List (Machine.Cell ℕ)). held_in n zs ++ w) (taken_out i held zs h (omega arith) l e)

  pub removed_keep : n ≤ i → i < held → held ≤ length zs → eqb l (get_or zs i no_cell).location.0 ≡ false
      → held_in n zs ++ without_cells l (from_in i held zs)
      ≡ held_in (n + 1) (set zs n (get_or zs i no_cell)) ++ without_cells l (from_in (i + 1) held (set zs n (get_or zs i no_cell)))
  removed_keep low h whole e =
      let x = get_or zs i no_cell in
      let w = without_cells l (from_in (i + 1) held zs) in
      let same : drop (i + 1) (take held (set zs n x)) ≡ drop (i + 1) (take held zs) =
      ap (drop (i + 1)) (take-set-lt held zs n x (omega arith)) ∙ drop-set-lt (i + 1) (take held zs) n x (omega arith) in
      ap (λ (r : List (Machine.Cell ℕ)). held_in n zs ++ r) (left_in i held zs h (omega arith) l e)
      ∙ sym
      (ap (λ (k : ℕ). held_in k (set zs n x) ++ w) (add-one n)
      ∙ ap (λ (r : List Cell). map cell_of r ++ w) (take-suc-set zs n x (omega arith))
      ∙ ap (λ (r : List (Machine.Cell ℕ)). r ++ w) (map-append cell_of (take n zs) (x ∷ []))
      ∙ append_snoc (held_in n zs) (cell_of x) w)
      ∙ ap (λ (r : List Cell). held_in (n + 1) (set zs n x) ++ without_cells l (map cell_of r)) (sym same)

  pub removed_all : held ≤ i → n ≤ length zs → (w : List (Machine.Cell ℕ)) → held_in n zs ++ without_cells l (from_in i held zs) ≡ w
      → (n ≡ length w) × (held_in n zs ≡ w)
  removed_all over h w e =
      let f : held_in n zs ≡ w =
      sym (append-nil (held_in n zs))
      ∙ ap (λ (r : List (Machine.Cell ℕ)). held_in n zs ++ r) (sym (without_none i held zs l (from-none i held zs over)))
      ∙ e in
      (sym (length-take-le n zs h) ∙ sym (length-map (take n zs) cell_of) ∙ ap length f, f)

-- whether the search ends at a cell, by one comparison
at_or_before : (q p : ℕ) → eqb q p || ltb q p ≡ leb q p
at_or_before q p = elim (dec_le q p) [ yes h ↦ below h | no h ↦ above (omega arith) ]
  where
    below : q ≤ p → eqb q p || ltb q p ≡ leb q p
    below h = elim (dec_le p q) [ yes k ↦ rw (eq-eqb q p (omega arith), le-leb q p h) | no k ↦ rw (ne_eqb q p (λ e. omega arith), lt-ltb q p (omega arith), le-leb q p h) ]

    above : p < q → eqb q p || ltb q p ≡ leb q p
    above h = rw (ne_eqb q p (λ e. omega arith), le-ltb q p (omega arith), lt-leb q p h)

or_false : (b : Bool) → b || false ≡ b
or_false true = refl
or_false false = refl

module _ (l q : ℕ) (c : Machine.Cell ℕ) where
  pub reached-here : l ≡ c.location → leb q c.property ≡ reaches l q c
  unfolding reaches is_at is_before
  reached-here e = sym (rw (eq-eqb l c.location e, le-ltb l c.location (omega arith)) (at_or_before q c.property))

  pub reached_elsewhere : (l ≡ c.location → ⊥) → ltb l c.location ≡ reaches l q c
  unfolding reaches is_at is_before
  reached_elsewhere h = rw (ne_eqb l c.location h) (sym (or_false (ltb l c.location)))
