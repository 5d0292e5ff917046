-- What a search among cells in order finds, and what is put there: Machine's `cell_at` and `put_cell`. It ends where one from the front does.
-- Assumes nothing.
use Rattle.std.specs.Prelude.{ℕ, zero, suc, ◌+◌, ◌<◌, ◌≤◌, Bool, true, false, ◌||◌, ◌≡◌, refl, List, [], ◌∷◌, map, length, drop, slice_index_or, Result, Ok, Err, MatchResult}
use Rattle.std.specs.List.Sorted.{IsSearchInRange, IsBinarySearchResult, IsNonDecreasingBy}
use Rattle.std.specs.declared.cmp.Ordering.TheVariants.{Less, Equal, Greater}
use Rattle.std.specs.Ordering.{ordering_index}
use Rattle.std.proofs.Common.{sym, ◌∙◌, ap, arith}
use Rattle.std.proofs.lemmas.List.Sorted.{IsNonDecreasingBy-from_default}
use Rattle.std.proofs.lemmas.Bool.Decides.{nat_tests}
use Rattle.std.proofs.Math.Decide.{dec_lt}
use Rattle.std.proofs.Math.Path.{ap₂}
use Rattle.std.proofs.Math.Option.{some}
use Rattle.gil.specs.Values.{Value}
use Rattle.gil.specs.Machine as Machine
use Rattle.gil.specs.Machine.{is_at, is_before, cell_at, put_cell}
use Rattle.machine_cells.specs.declared.Cell.{Cell}
use Rattle.machine_cells.specs.Mirror.{cell_of, no_cell, cell, against, StandsAt, LacksAt, reaches, place_from, leads, EndsAt}
use Rattle.machine_cells.specs.Laws.InUse.{place_here, place-later}
use Rattle.machine_cells.specs.Laws.Order.{Ahead, ahead, Ordered, behind, beyond_none}

module _ (l q : ℕ) (c : Machine.Cell ℕ) (cs : List (Machine.Cell ℕ)) where
  put-by : Value ℕ → Bool → Bool → List (Machine.Cell ℕ)
  put-by v a b = elim a [ true ↦ cell l q v ∷ cs | false ↦ elim b [ true ↦ cell l q v ∷ c ∷ cs | false ↦ c ∷ put_cell l q v cs ] ]

  put_is : (v : Value ℕ) {a b : Bool} → is_at l q c ≡ a → is_before l q c ≡ b → put_cell l q v (c ∷ cs) ≡ put-by v a b
  unfolding put_cell put-by
  put_is v e f = ap₂ (λ (a b : Bool). put-by v a b) e f

  found_is : {a : Bool} → is_at l q c ≡ a → cell_at l q (c ∷ cs) ≡ elim a [ true ↦ some c.value | false ↦ cell_at l q cs ]
  unfolding cell_at
  found_is e = ap (λ (a : Bool). elim a [ true ↦ some c.value | false ↦ cell_at l q cs ]) e

  -- the cell stands first, or the first is beyond it
  stands_first : is_at l q c ≡ true → StandsAt l q (c ∷ cs) 0
  unfolding put-by
  stands_first e = record { inside = omega arith; found = found_is e; put = λ v. put_is v e refl }

  lacks_first : Ordered (c ∷ cs) → is_at l q c ≡ false → is_before l q c ≡ true → LacksAt l q (c ∷ cs) 0
  unfolding put-by
  lacks_first o e f = record { inside = omega arith; found = beyond_none l q c cs o f; put = λ v. put_is v e f }

  -- a cell that comes before it is passed
  module _ (e : is_at l q c ≡ false) (f : is_before l q c ≡ false) where
    stands_further : (i : ℕ) → StandsAt l q cs i → StandsAt l q (c ∷ cs) (suc i)
    unfolding put-by
    stands_further i s = record {
      inside = omega (arith, s.inside);
      found = found_is e ∙ s.found;
      put = λ v. put_is v e f ∙ ap (λ (ds : List (Machine.Cell ℕ)). c ∷ ds) (s.put v);
    }

    lacks_further : (i : ℕ) → LacksAt l q cs i → LacksAt l q (c ∷ cs) (suc i)
    unfolding put-by
    lacks_further i s = record {
      inside = omega (arith, s.inside);
      found = found_is e ∙ s.found;
      put = λ v. put_is v e f ∙ ap (λ (ds : List (Machine.Cell ℕ)). c ∷ ds) (s.put v);
    }

-- the cells as a search by `cmp` sees them: each comes before the place sought, or stands there, or is beyond it
module _ (l q : ℕ) where
  before_is : (c : Cell) → against l q c ≡ Less → (is_at l q (cell_of c) ≡ false) × (is_before l q (cell_of c) ≡ false)
  unfolding is_at is_before
  before_is c e = (grind (arith, nat_tests), grind (arith, nat_tests))

  there_is : (c : Cell) → against l q c ≡ Equal → is_at l q (cell_of c) ≡ true
  unfolding is_at
  there_is c e = grind (arith, nat_tests)

  beyond_is : (c : Cell) → against l q c ≡ Greater → (is_at l q (cell_of c) ≡ false) × (is_before l q (cell_of c) ≡ true)
  unfolding is_at is_before
  beyond_is c e = (grind (arith, nat_tests), grind (arith, nat_tests))

  rises : (c d : Cell) → is_before c.location.0 c.property (cell_of d) ≡ true → ordering_index (against l q c) ≤ ordering_index (against l q d)
  unfolding is_before
  rises c d e = grind (arith, nat_tests)

  passes : (c d : Cell) → is_before c.location.0 c.property (cell_of d) ≡ true → is_at l q (cell_of d) ≡ true
      → (is_at l q (cell_of c) ≡ false) × (is_before l q (cell_of c) ≡ false)
  unfolding is_at is_before
  passes c d e f = (grind (arith, nat_tests), grind (arith, nat_tests))

-- every cell comes before those behind it
ahead_at : (l q k : ℕ) (ys : List Cell) → Ahead l q (map cell_of ys) → k < length ys → is_before l q (cell_of (slice_index_or ys k no_cell)) ≡ true
ahead_at l q k [] a h = absurd (omega arith)
ahead_at l q zero (y ∷ ys) (ahead c cs b a) h = b
ahead_at l q (suc k) (y ∷ ys) (ahead c cs b a) h = ahead_at l q k ys a (omega arith)

ordered_at : (i k : ℕ) (ys : List Cell) → Ordered (map cell_of ys) → i < k → k < length ys
    → is_before (slice_index_or ys i no_cell).location.0 (slice_index_or ys i no_cell).property (cell_of (slice_index_or ys k no_cell)) ≡ true
ordered_at i k [] o h m = absurd (omega arith)
ordered_at i zero (y ∷ ys) o h m = absurd (omega arith)
ordered_at zero (suc k) (y ∷ ys) (behind c cs a o) h m = ahead_at y.location.0 y.property k ys a (omega arith)
ordered_at (suc i) (suc k) (y ∷ ys) (behind c cs a o) h m = ordered_at i k ys o (omega arith) (omega arith)

module _ (l q : ℕ) where
  rise : (ys : List Cell) → Ordered (map cell_of ys) → IsNonDecreasingBy (λ y. ordering_index (against l q y)) ys
  rise ys o =
      IsNonDecreasingBy-from_default (λ y. ordering_index (against l q y)) ys no_cell
      (λ i j le h. elim (dec_lt i j) [ yes less ↦ rises l q (slice_index_or ys i no_cell) (slice_index_or ys j no_cell) (ordered_at i j ys o less h) | no same ↦ let e : i ≡ j = omega arith in rw e (omega arith) ])

  stands : (i : ℕ) (ys : List Cell) → Ordered (map cell_of ys) → i < length ys → is_at l q (cell_of (slice_index_or ys i no_cell)) ≡ true
      → StandsAt l q (map cell_of ys) i
  stands i [] o h e = absurd (omega arith)
  stands zero (y ∷ ys) o h e = stands_first l q (cell_of y) (map cell_of ys) e
  stands (suc i) (y ∷ ys) (behind c cs a o) h e =
      let p = passes l q y (slice_index_or ys i no_cell) (ahead_at y.location.0 y.property i ys a (omega arith)) e in
      stands_further l q (cell_of y) (map cell_of ys) p.0 p.1 i (stands i ys o (omega arith) e)

  lacks : (i : ℕ) (ys : List Cell) → Ordered (map cell_of ys) → i ≤ length ys
      → ((k : ℕ) → k < i → against l q (slice_index_or ys k no_cell) ≡ Less)
      → ((k : ℕ) → i ≤ k → k < length ys → against l q (slice_index_or ys k no_cell) ≡ Greater)
      → LacksAt l q (map cell_of ys) i
  unfolding cell_at put_cell
  lacks zero [] o h low high = record { inside = omega arith; found = refl; put = λ v. refl }
  lacks (suc i) [] o h low high = absurd (omega arith)
  lacks zero (y ∷ ys) o h low high =
      let b = beyond_is l q y (high 0 (omega arith) (omega arith)) in
      lacks_first l q (cell_of y) (map cell_of ys) o b.0 b.1
  lacks (suc i) (y ∷ ys) (behind c cs a o) h low high =
      let b = before_is l q y (low 0 (omega arith)) in
      lacks_further l q (cell_of y) (map cell_of ys) b.0 b.1 i
      (lacks i ys o (omega arith) (λ k less. low (suc k) (omega arith)) (λ k le less. high (suc k) (omega arith) (omega arith)))

  -- a search by halving passes over cells that it has not looked at: they must be in order
  pub searched : (ys : List Cell) → Ordered (map cell_of ys) → (r : Result ℕ ℕ) → IsSearchInRange r (length ys) → IsBinarySearchResult (against l q) ys r
      → MatchResult r (StandsAt l q (map cell_of ys)) (LacksAt l q (map cell_of ys))
  searched ys o (Ok i) h equal = stands i ys o h (there_is l q _ (equal no_cell))
  searched ys o (Err i) h parted =
      let p = parted (rise ys o) in
      lacks i ys o h (λ k less. p.0 k no_cell (omega arith) less) (λ k le less. p.1 k no_cell le less)

  -- a search from the front ends at a cell that it does not pass
  reach-by : (c : Machine.Cell ℕ) {a b : Bool} → is_at l q c ≡ a → is_before l q c ≡ b → reaches l q c ≡ a || b
  unfolding reaches
  reach-by c e f = ap₂ (λ (a b : Bool). a || b) e f

  ends_there : (i k : ℕ) (ys : List Cell) → Ordered (map cell_of ys) → i < length ys → is_at l q (cell_of (slice_index_or ys i no_cell)) ≡ true
      → place_from l q k (map cell_of ys) ≡ k + i
  ends_there i k [] o h e = absurd (omega arith)
  ends_there zero k (y ∷ ys) o h e =
      let z : k ≡ k + 0 = omega arith in
      place_here l q k (cell_of y) (map cell_of ys) (reach-by (cell_of y) e refl) ∙ z
  ends_there (suc i) k (y ∷ ys) (behind c cs a o) h e =
      let p = passes l q y (slice_index_or ys i no_cell) (ahead_at y.location.0 y.property i ys a (omega arith)) e in
      let z : suc k + i ≡ k + suc i = omega arith in
      place-later l q k (cell_of y) (map cell_of ys) (reach-by (cell_of y) p.0 p.1) ∙ ends_there i (suc k) ys o (omega arith) e ∙ z

  ends_before : (i k : ℕ) (ys : List Cell) → i ≤ length ys
      → ((n : ℕ) → n < i → against l q (slice_index_or ys n no_cell) ≡ Less)
      → ((n : ℕ) → i ≤ n → n < length ys → against l q (slice_index_or ys n no_cell) ≡ Greater)
      → place_from l q k (map cell_of ys) ≡ k + i
  unfolding place_from
  ends_before zero k [] h low high = omega arith
  ends_before (suc i) k [] h low high = absurd (omega arith)
  ends_before zero k (y ∷ ys) h low high =
      let b = beyond_is l q y (high 0 (omega arith) (omega arith)) in
      let z : k ≡ k + 0 = omega arith in
      place_here l q k (cell_of y) (map cell_of ys) (reach-by (cell_of y) b.0 b.1) ∙ z
  ends_before (suc i) k (y ∷ ys) h low high =
      let b = before_is l q y (low 0 (omega arith)) in
      let z : suc k + i ≡ k + suc i = omega arith in
      place-later l q k (cell_of y) (map cell_of ys) (reach-by (cell_of y) b.0 b.1)
      ∙ ends_before i (suc k) ys (omega arith) (λ n less. low (suc n) (omega arith)) (λ n le less. high (suc n) (omega arith) (omega arith))
      ∙ z

  -- whether the cell sought stands where it ends
  leads_as : (i : ℕ) (ys : List Cell) → i < length ys → leads l q (drop i (map cell_of ys)) ≡ is_at l q (cell_of (slice_index_or ys i no_cell))
  unfolding leads
  leads_as i [] h = absurd (omega arith)
  leads_as zero (y ∷ ys) h = refl
  leads_as (suc i) (y ∷ ys) h = leads_as i ys (omega arith)

  leads_past : (i : ℕ) (ys : List Cell) → ((n : ℕ) → i ≤ n → n < length ys → against l q (slice_index_or ys n no_cell) ≡ Greater)
      → leads l q (drop i (map cell_of ys)) ≡ false
  unfolding leads
  leads_past zero [] high = refl
  leads_past (suc i) [] high = refl
  leads_past zero (y ∷ ys) high = (beyond_is l q y (high 0 (omega arith) (omega arith))).0
  leads_past (suc i) (y ∷ ys) high = leads_past i ys (λ n le less. high (suc n) (omega arith) (omega arith))

  pub ends : (ys : List Cell) → Ordered (map cell_of ys) → (r : Result ℕ ℕ) → IsSearchInRange r (length ys) → IsBinarySearchResult (against l q) ys r
      → MatchResult r (EndsAt l q true (map cell_of ys)) (EndsAt l q false (map cell_of ys))
  ends ys o (Ok i) h equal =
      let e = there_is l q _ (equal no_cell) in
      let z : i ≡ 0 + i = omega arith in
      record { place = z ∙ sym (ends_there i 0 ys o h e); stands = leads_as i ys h ∙ e }
  ends ys o (Err i) h parted =
      let p = parted (rise ys o) in
      let z : i ≡ 0 + i = omega arith in
      record {
        place = z ∙ sym (ends_before i 0 ys h (λ k less. p.0 k no_cell (omega arith) less) (λ k le less. p.1 k no_cell le less));
        stands = leads_past i ys (λ k le less. p.1 k no_cell le less);
      }
