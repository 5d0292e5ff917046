-- What is found and put in any array: where a search from the front ends, what stands there is Machine's `cell_at`, and replacing or inserting
-- there is its `put_cell`. Assumes nothing.
use Rattle.std.specs.Prelude.{ℕ, zero, suc, ◌+◌, ◌-◌, ◌<◌, ◌≤◌, Bool, true, false, ◌||◌, ◌≡◌, refl, List, [], ◌∷◌, ◌++◌, map, length, get_or, take, drop, set}
use Rattle.std.proofs.Common.{sym, ◌∙◌, ap, arith, length-take, length-drop, length-set, length-append, take-take, length-take-le}
use Rattle.std.proofs.Math.Path.{ap₂}
use Rattle.std.proofs.lemmas.List.{map-append, map-set, take-map, drop-map, drop-take, length-map}
use Rattle.std.proofs.Math.Option.{none}
use Rattle.std.proofs.Math.Seq.{take-append-add, take-set-lt}
use Rattle.gil.specs.Values.{Value, term}
use Rattle.gil.proofs.Theory.Tests.{no_false}
use Rattle.gil.specs.Machine as Machine
use Rattle.gil.specs.Machine.{is_at, is_before, cell_at, put_cell}
use Rattle.machine_cells.specs.declared.Cell.{Cell}
use Rattle.machine_cells.specs.Mirror.{cell_of, no_cell, cell, held_in, from_in, found_in, reaches, place_from, leads, shift_in, carried_in}
use Rattle.machine_cells.specs.Laws.InUse.{at-later, place_here, place-later, found_here, leads-inside, carried_up, carried_all}
use Rattle.machine_cells.specs.Laws.Order.{Ordered, beyond_none, ordered_tail}

module _ (l q : ℕ) (c : Machine.Cell ℕ) (cs : List (Machine.Cell ℕ)) (v : Value ℕ) where
  put-by : Bool → Bool → List (Machine.Cell ℕ)
  put-by a b =
      elim a [ true ↦ cell l q v ∷ cs | false ↦ elim b [ true ↦ cell l q v ∷ c ∷ cs | false ↦ c ∷ put_cell l q v cs ] ]

  put_is : {a b : Bool} → is_at l q c ≡ a → is_before l q c ≡ b → put_cell l q v (c ∷ cs) ≡ put-by a b
  unfolding put_cell put-by
  put_is e f = ap₂ (λ (a b : Bool). put-by a b) e f

-- what the place where a search ends means for the cells, counted from `k`: the cell stands there, or it is not among them, where they are in
-- order; and the cell is put there
data Sought (l q k : ℕ) (cs : List (Machine.Cell ℕ)) : ℕ → Type 0 where
  stands :
      (j m : ℕ) → j ≡ k + m → m < length cs → leads l q (drop m cs) ≡ true → cell_at l q cs ≡ cell_at l q (drop m cs)
      → ((v : Value ℕ) → put_cell l q v cs ≡ set cs m (cell l q v))
      → Sought l q k cs j
  lacks :
      (j m : ℕ) → j ≡ k + m → m ≤ length cs → leads l q (drop m cs) ≡ false → (Ordered cs → cell_at l q cs ≡ none)
      → ((v : Value ℕ) → put_cell l q v cs ≡ take m cs ++ cell l q v ∷ drop m cs)
      → Sought l q k cs j

-- a cell that the search passes
module _ (l q k : ℕ) (c : Machine.Cell ℕ) (cs : List (Machine.Cell ℕ)) (e : is_at l q c ≡ false) (f : is_before l q c ≡ false) where
  put-further : (v : Value ℕ) → put_cell l q v (c ∷ cs) ≡ c ∷ put_cell l q v cs
  unfolding put-by
  put-further v = put_is l q c cs v e f

  further : {p : ℕ} → Sought l q (suc k) cs p → Sought l q k (c ∷ cs) p
  further (stands j m h inside here found put) =
      stands j (suc m) (omega arith) (omega arith) here (at-later l q c cs e ∙ found)
      (λ v. put-further v ∙ ap (λ (ds : List (Machine.Cell ℕ)). c ∷ ds) (put v))
  further (lacks j m h inside here ordered put) =
      lacks j (suc m) (omega arith) (omega arith) here (λ o. at-later l q c cs e ∙ ordered (ordered_tail o))
      (λ v. put-further v ∙ ap (λ (ds : List (Machine.Cell ℕ)). c ∷ ds) (put v))

sought-by : (l q k : ℕ) (c : Machine.Cell ℕ) (cs : List (Machine.Cell ℕ)) (a b : Bool)
    → is_at l q c ≡ a → is_before l q c ≡ b
    → Sought l q (suc k) cs (place_from l q (suc k) cs)
    → Sought l q k (c ∷ cs) (place_from l q k (c ∷ cs))
unfolding put-by reaches leads
sought-by l q k c cs true b e f r =
    rw (place_here l q k c cs (ap (λ (t : Bool). t || is_before l q c) e))
    (stands k 0 (omega arith) (omega arith) e refl (λ v. put_is l q c cs v e f))
sought-by l q k c cs false true e f r =
    rw (place_here l q k c cs (ap₂ (λ (t u : Bool). t || u) e f))
    (lacks k 0 (omega arith) (omega arith) e (λ o. beyond_none l q c cs o f) (λ v. put_is l q c cs v e f))
sought-by l q k c cs false false e f r = rw (place-later l q k c cs (ap₂ (λ (t u : Bool). t || u) e f)) (further l q k c cs e f r)

sought : (l q k : ℕ) (cs : List (Machine.Cell ℕ)) → Sought l q k cs (place_from l q k cs)
unfolding place_from put_cell leads cell_at
sought l q k [] = lacks k 0 (omega arith) (omega arith) refl (λ _. refl) (λ v. refl)
sought l q k (c ∷ cs) = sought-by l q k c cs (is_at l q c) (is_before l q c) refl refl (sought l q (suc k) cs)

-- the view where it is known whether the cell stands there
module _ (l q : ℕ) (cs : List (Machine.Cell ℕ)) (i : ℕ) where
  stands_at : {p : ℕ} → Sought l q 0 cs p → i ≡ p → leads l q (drop i cs) ≡ true
      → (i < length cs) × (cell_at l q cs ≡ cell_at l q (drop i cs)) × ((v : Value ℕ) → put_cell l q v cs ≡ set cs i (cell l q v))
  stands_at (stands j m h inside here found put) e t =
      let k : m ≡ i = omega arith in
      (rw k at inside, rw k at found, λ v. put v ∙ ap (λ (n : ℕ). set cs n (cell l q v)) k)
  stands_at (lacks j m h inside here ordered put) e t =
      let k : m ≡ i = omega arith in
      no_false t (ap (λ (n : ℕ). leads l q (drop n cs)) (sym k) ∙ here)

  lacks-at : {p : ℕ} → Sought l q 0 cs p → i ≡ p → leads l q (drop i cs) ≡ false
      → (i ≤ length cs)
      × (Ordered cs → cell_at l q cs ≡ none)
      × ((v : Value ℕ) → put_cell l q v cs ≡ take i cs ++ cell l q v ∷ drop i cs)
  lacks-at (stands j m h inside here found put) e t =
      let k : m ≡ i = omega arith in
      no_false (ap (λ (n : ℕ). leads l q (drop n cs)) (sym k) ∙ here) t
  lacks-at (lacks j m h inside here ordered put) e t =
      let k : m ≡ i = omega arith in
      (rw k at inside, ordered, λ v. put v ∙ ap (λ (n : ℕ). take n cs ++ cell l q v ∷ drop n cs) k)

held-length : (n : ℕ) (cells : List Cell) → n ≤ length cells → length (held_in n cells) ≡ n
held-length n cells h = length-map (take n cells) cell_of ∙ length-take-le n cells h

-- of the cells pushed up, those that were there
shift-take : {A : Type 0} (k : ℕ) (c : A) (l : List A) → k < length l → take (suc k) (shift_in (suc k) c l) ≡ c ∷ take k l
unfolding shift_in
shift-take k c [] h = absurd (omega arith)
shift-take zero c (x ∷ l) h = refl
shift-take (suc k) c (x ∷ l) h = ap (λ (r : List _). c ∷ r) (shift-take k x l (omega arith))

inserted : (held i : ℕ) (c : Cell) (cells : List Cell) → i ≤ held → held < length cells
    → take (held + 1) (carried_in i held c cells) ≡ take i (take held cells) ++ c ∷ drop i (take held cells)
unfolding carried_in
inserted held i c cells low high =
    let k = held - i in
    let e : held + 1 - i ≡ suc k = omega arith in
    let f : held + 1 ≡ length (take i cells) + suc k = omega (arith, length-take-le i cells (omega arith)) in
    let g : held ≡ i + k = omega arith in
    let h : k < length (drop i cells) = omega (arith, length-drop i cells) in
    ap₂ (λ (n m : ℕ). take n (take i cells ++ shift_in m c (drop i cells))) f e
    ∙ take-append-add (take i cells) (shift_in (suc k) c (drop i cells)) (suc k)
    ∙ ap (λ (r : List Cell). take i cells ++ r) (shift-take k c (drop i cells) h)
    ∙ ap₂ (λ (a b : List Cell). a ++ c ∷ b) (sym (take-take i held cells low))
    (sym (ap (λ (n : ℕ). drop i (take n cells)) g ∙ drop-take i k cells))

-- carried no further than its own place, a cell takes the place of the one that stands there
replaced : (i : ℕ) (c : Cell) (cells : List Cell) → i < length cells → carried_in i i c cells ≡ set cells i c
replaced i c cells h =
    carried_up i i c cells (omega arith) h ∙ carried_all i (i + 1) (get_or cells i no_cell) (set cells i c) (omega arith)

-- what is found, at the place where the search ended
module _ (l q i held : ℕ) (cells : List Cell) (e : i ≡ place_from l q 0 (held_in held cells)) where
  at_place : Sought l q 0 (held_in held cells) (place_from l q 0 (held_in held cells))
  at_place = sought l q 0 (held_in held cells)

  same_place : leads l q (drop i (held_in held cells)) ≡ leads l q (from_in i held cells)
  same_place = ap (leads l q) (drop-map cell_of i (take held cells))

  pub found-value : leads l q (from_in i held cells) ≡ true → found_in (cell_at l q (held_in held cells)) ≡ (get_or cells i no_cell).value
  found-value t =
      let h = leads-inside l q i held cells t in
      ap found_in (stands_at l q (held_in held cells) i at_place e (same_place ∙ t)).1
      ∙ ap (λ (cs : List (Machine.Cell ℕ)). found_in (cell_at l q cs)) (drop-map cell_of i (take held cells))
      ∙ found_here i held cells h.0 h.1 l q t

  pub found_nothing : Ordered (held_in held cells) → leads l q (from_in i held cells) ≡ false → found_in (cell_at l q (held_in held cells)) ≡ 0
  found_nothing o t = ap found_in ((lacks-at l q (held_in held cells) i at_place e (same_place ∙ t)).1 o)

-- what is put, at the place where the search ended
module _ (l q i held : ℕ) (cells : List Cell) (within : held ≤ length cells) (e : i ≡ place_from l q 0 (held_in held cells)) where
  in_use : length (held_in held cells) ≡ held
  in_use = held-length held cells within

  held-there : leads l q (from_in i held cells) ≡ true → (i < length (held_in held cells)) × ((v : Value ℕ) → put_cell l q v (held_in held cells) ≡ set (held_in held cells) i (cell l q v))
  held-there t =
      let h = stands_at l q (held_in held cells) i (at_place l q i held cells e) e (same_place l q i held cells e ∙ t) in
      (h.0, h.2)

  free-there : leads l q (from_in i held cells) ≡ false
      → (i ≤ length (held_in held cells)) × ((v : Value ℕ) → put_cell l q v (held_in held cells) ≡ take i (held_in held cells) ++ cell l q v ∷ drop i (held_in held cells))
  free-there t =
      let h = lacks-at l q (held_in held cells) i (at_place l q i held cells e) e (same_place l q i held cells e ∙ t) in
      (h.0, h.2)

  pub grown-holds : (v : Value ℕ) → leads l q (from_in i held cells) ≡ true → length (put_cell l q v (held_in held cells)) ≡ held
  grown-holds v t = ap length ((held-there t).1 v) ∙ length-set (held_in held cells) i (cell l q v) ∙ in_use

  pub grown-free : (v : Value ℕ) → leads l q (from_in i held cells) ≡ false → length (put_cell l q v (held_in held cells)) ≡ held + 1
  grown-free v t =
      let s = free-there t in
      omega (
        arith,
        ap length (s.1 v),
        length-append (take i (held_in held cells)) (cell l q v ∷ drop i (held_in held cells)),
        length-take i (held_in held cells),
        length-drop i (held_in held cells),
        in_use,
        s.0,
      )

-- the cells that are then in use
module _ (c : Cell) (i held : ℕ) (cells : List Cell) (within : held ≤ length cells) (e : i ≡ place_from c.location.0 c.property 0 (held_in held cells)) where
  abbrev l : ℕ
  l = c.location.0

  abbrev q : ℕ
  q = c.property

  pub put_holds : leads l q (from_in i held cells) ≡ true → held_in held (carried_in i i c cells) ≡ put_cell l q (term c.value) (held_in held cells)
  put_holds t =
      let s = held-there l q i held cells within e t in
      let inside : i < held = omega (arith, s.0, in_use l q i held cells within e) in
      ap (held_in held) (replaced i c cells (omega arith))
      ∙ ap (map cell_of) (take-set-lt held cells i c inside)
      ∙ map-set cell_of (take held cells) i c
      ∙ sym (s.1 (term c.value))

  pub put-free : leads l q (from_in i held cells) ≡ false → held < length cells
      → held_in (held + 1) (carried_in i held c cells) ≡ put_cell l q (term c.value) (held_in held cells)
  put-free t room =
      let s = free-there l q i held cells within e t in
      ap (map cell_of) (inserted held i c cells (omega (arith, s.0, in_use l q i held cells within e)) room)
      ∙ map-append cell_of (take i (take held cells)) (c ∷ drop i (take held cells))
      ∙ ap₂ (λ (a b : List (Machine.Cell ℕ)). a ++ cell_of c ∷ b) (sym (take-map cell_of i (take held cells))) (sym (drop-map cell_of i (take held cells)))
      ∙ sym (s.1 (term c.value))
