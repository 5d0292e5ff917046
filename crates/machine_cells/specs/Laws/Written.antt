-- The array after a cell is written: what is in use is Machine's `put_cell`, and stays in order. Assumes nothing.
use Rattle.std.specs.Prelude.{ℕ, ◌+◌, ◌-◌, ◌<◌, ◌≤◌, ◌≡◌, true, false, List, ◌∷◌, ◌++◌, map, length, set, take, drop}
use Rattle.std.specs.List.{insert, copy_within}
use Rattle.std.proofs.Common.{sym, ◌∙◌, ap, arith, length-set, length-take-le, length-drop, lt-ltb, le-ltb}
use Rattle.std.proofs.Math.Path.{ap₂}
use Rattle.std.proofs.Math.Seq.{take-set-lt, append_snoc}
use Rattle.std.proofs.lemmas.List.{length-map, map-append, map-set, take-map, drop-map, set-append_left, take_more_set, take-take, drop-take}
use Rattle.std.proofs.lemmas.List.Edits.{take-paste, length-paste, length-insert}
use Rattle.gil.specs.Numbers.{most_cells}
use Rattle.gil.specs.Values.{Value, term}
use Rattle.gil.specs.Machine.{put_cell}
use Rattle.machine_cells.specs.declared.Cell.{Cell}
use Rattle.machine_cells.specs.Mirror.{cell_of, cell, held_in, StandsAt, LacksAt, carried_in}
use Rattle.machine_cells.specs.Laws.InUse.{carried_is}
use Rattle.machine_cells.specs.Laws.Order.{put_keeps}
use Rattle.machine_cells.specs.Laws.Served.{Tidy, full_for}

held-length : (n : ℕ) (cells : List Cell) → n ≤ length cells → length (held_in n cells) ≡ n
held-length n cells h = length-map (take n cells) cell_of ∙ length-take-le n cells h

map-insert : {A B : Type 0} (f : A → B) (l : List A) (i : ℕ) (a : A) → map f (insert l i a) ≡ insert (map f l) i (f a)
map-insert f l i a = map-append f (take i l) (a ∷ drop i l) ∙ ap₂ (λ (x y : List _). x ++ f a ∷ y) (sym (take-map f i l)) (sym (drop-map f i l))

-- the cells from a place on moved up by one, and a cell put there
opened : {A : Type 0} (at held : ℕ) (l : List A) (a : A) → at ≤ held → held < length l
    → take (held + 1) (set (copy_within l at held (at + 1)) at a) ≡ insert (take held l) at a
opened at held l a low high =
    let k = held - at in
    let more = take k (drop at l) in
    let e : held + 1 ≡ at + 1 + k = omega arith in
    let f : held ≡ at + k = omega arith in
    let n : length (take (at + 1) l) ≡ at + 1 = length-take-le (at + 1) l (omega arith) in
    take-set-lt (held + 1) (copy_within l at held (at + 1)) at a (omega arith)
    ∙ ap (λ (r : List _). set r at a) (ap (λ (m : ℕ). take m (copy_within l at held (at + 1))) e ∙ take-paste l (at + 1) (drop at l) k (omega arith) (omega (arith, length-drop at l)))
    ∙ set-append_left (take (at + 1) l) more at a (omega arith)
    ∙ ap (λ (r : List _). r ++ more) (sym (take-set-lt (at + 1) l at a (omega arith)) ∙ take_more_set l at a (omega arith))
    ∙ append_snoc (take at l) a more
    ∙ ap₂ (λ (x y : List _). x ++ a ∷ y) (sym (take-take at held l low)) (sym (ap (λ (m : ℕ). drop at (take m l)) f ∙ drop-take at k l))

-- a cell written over the one that stands there
module _ (held at : ℕ) (cells : List Cell) (c : Cell) (tidy : Tidy held cells) where
  pub in_use : length (held_in held cells) ≡ held
  in_use = held-length held cells (omega (arith, tidy.few, tidy.whole))

  module _ (s : StandsAt c.location.0 c.property (held_in held cells) at) where
    pub over_holds : held_in held (set cells at c) ≡ put_cell c.location.0 c.property (term c.value) (held_in held cells)
    over_holds =
        ap (map cell_of) (take-set-lt held cells at c (omega (arith, s.inside, in_use)))
        ∙ map-set cell_of (take held cells) at c
        ∙ sym (s.put (term c.value))

    pub over_fits : full_for c.location.0 c.property (held_in held cells) ≡ false
    over_fits =
        le-ltb _ _ (omega (arith, ap length (s.put (term 0)), length-set (held_in held cells) at (cell c.location.0 c.property (term 0)), in_use, tidy.few))

    pub over_tidy : Tidy held (set cells at c)
    over_tidy = record {
      few = tidy.few;
      whole = length-set cells at c ∙ tidy.whole;
      order = rw over_holds (put_keeps c.location.0 c.property (term c.value) (held_in held cells) tidy.order);
    }

  -- a cell put in between, where there is room
  module _ (s : LacksAt c.location.0 c.property (held_in held cells) at) where
    grown : (v : Value ℕ) → length (put_cell c.location.0 c.property v (held_in held cells)) ≡ held + 1
    grown v =
        ap length (s.put v)
        ∙ length-insert (held_in held cells) at (cell c.location.0 c.property v) s.inside
        ∙ omega (arith, in_use)

    pub lacks_room : held ≡ most_cells → full_for c.location.0 c.property (held_in held cells) ≡ true
    lacks_room e = lt-ltb _ _ (omega (arith, grown (term 0)))

    module _ (less : held ≡ most_cells → ⊥) where
      pub between_fits : full_for c.location.0 c.property (held_in held cells) ≡ false
      between_fits = le-ltb _ _ (omega (arith, grown (term 0), less, tidy.few))

      pub between_holds : held_in (held + 1) (set (copy_within cells at held (at + 1)) at c) ≡ put_cell c.location.0 c.property (term c.value) (held_in held cells)
      between_holds =
          ap (map cell_of) (opened at held cells c (omega (arith, s.inside, in_use)) (omega (arith, less, tidy.few, tidy.whole)))
          ∙ map-insert cell_of (take held cells) at c
          ∙ sym (s.put (term c.value))

      pub between_tidy : Tidy (held + 1) (set (copy_within cells at held (at + 1)) at c)
      between_tidy = record {
        few = omega (arith, less, tidy.few);
        whole =
            length-set (copy_within cells at held (at + 1)) at c
            ∙ length-paste cells (at + 1) (drop at cells) (held - at) (omega (arith, s.inside, in_use, less, tidy.few, tidy.whole)) (omega (arith, length-drop at cells, tidy.few, tidy.whole))
            ∙ tidy.whole;
        order = rw between_holds (put_keeps c.location.0 c.property (term c.value) (held_in held cells) tidy.order);
      }

      -- as `insert` puts it there
      pub between_is : carried_in at held c cells ≡ set (copy_within cells at held (at + 1)) at c
      between_is = carried_is at held c cells (omega (arith, s.inside, in_use)) (omega (arith, less, tidy.few, tidy.whole))
