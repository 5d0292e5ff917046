-- One command of a path and the rest of it, as the loop that follows a path cites them; and where a path stands, with its cells: begun, a turn
-- later, done. Assumes nothing.
use Rattle.std.specs.Prelude.{ℕ, suc, ◌+◌, ◌-◌, ◌<◌, ◌≤◌, ◌≡◌, refl, true, false, List, None, Some}
use Rattle.std.proofs.Common.{◌∙◌, add-one, arith}
use Rattle.gil.specs.Machine as Machine
use Rattle.machine_cells.specs.declared.Cell.{Cell}
use Rattle.machine_cells.specs.Mirror.{held_in}
use Rattle.machine_cells.specs.Laws.Served.{Tidy}
use Rattle.machine_commands.specs.declared.Control.{Control}
use Rattle.machine_commands.specs.declared.Next.{Next}
use Rattle.machine_commands.specs.declared.Next.TheVariants.{On}
use Rattle.machine_actions.specs.Laws.Changed.{Changed, kept, changed}
use Rattle.table_advance.specs.Mirror.Followed.{Spot, spot, Stopped, stopped, goes_in, where_in, spot_after, cut_at, stopped_at, follow_in}

module _ (one : Spot → Changed) (goal : Stopped) (budget n : ℕ) (s : Spot) (e : goal ≡ follow_in one (budget - n) n s) where
  module _ (h : n < budget) {store : List ℕ} {cells : List (Machine.Cell ℕ)} {pool : List ℕ} {count : ℕ} where
    -- a command that goes on
    pub follow-more : {to : Control} → changed (kept (On to) store cells) pool count ≡ one s → true ≡ goes_in (On to) count
        → goal ≡ follow_in one (budget - (n + 1)) (n + 1) (spot to store cells pool count)
    unfolding follow_in spot_after where_in
    follow-more f g =
        let left : budget - n ≡ suc (budget - (n + 1)) = omega arith in
        e ∙ rw (left, ← f, ← g, add-one)

    -- one that stops the path
    pub follow-stops : {next : Next} → changed (kept next store cells) pool count ≡ one s → false ≡ goes_in next count
        → stopped (record { next = Some next; control = s.control; steps = n }) store cells pool count ≡ goal
    unfolding follow_in stopped_at
    follow-stops f g = let left : budget - n ≡ suc (budget - (n + 1)) = omega arith in rw (e, left, ← f, ← g)

  -- the steps are used up
  pub follow-cut : {m : ℕ} → budget ≤ n → m ≡ n → stopped (record { next = None; control = s.control; steps = m }) s.store s.cells s.pool s.count ≡ goal
  unfolding follow_in cut_at
  follow-cut h k = let left : budget - n ≡ 0 = omega arith in rw (e, left, k)

module _ (one : Spot → Changed) (budget : ℕ) where
  -- a path that stands so, n steps taken, comes to `goal`; its cells are in order and at most 32
  pub record Stands (goal : Stopped) (c : Control) (n held : ℕ) (memory : List Cell) (store pool : List ℕ) (count : ℕ) : Type 0 where
    pub comes : goal ≡ follow_in one (budget - n) n (spot c store (held_in held memory) pool count)
    pub tidy : Tidy held memory

  pub stands-begun : (from : Control) (taken held : ℕ) (cells : List Cell) (store pool : List ℕ) (count : ℕ) → Tidy held cells
      → Stands (follow_in one (budget - taken) taken (spot from store (held_in held cells) pool count)) from taken held cells store pool count
  stands-begun from taken held cells store pool count h = record { comes = refl; tidy = h }

  module _ {goal : Stopped} {c : Control} {n held : ℕ} {memory : List Cell} {store pool : List ℕ} {count : ℕ} (st : Stands goal c n held memory store pool count) where
    abbrev here : Spot
    here = spot c store (held_in held memory) pool count

    -- done: its steps are used up, or the command that it stands before stops it
    pub stands-done :
        (budget ≤ n → (stopped (record { next = None; control = c; steps = n }) store (held_in held memory) pool count ≡ goal) × Tidy held memory)
        × ((next : Next) (held' : ℕ) (after : List Cell) (store' pool' : List ℕ) (count' : ℕ)
        → n < budget → changed (kept next store' (held_in held' after)) pool' count' ≡ one here → Tidy held' after → false ≡ goes_in next count'
        → (stopped (record { next = Some next; control = c; steps = n }) store' (held_in held' after) pool' count' ≡ goal) × Tidy held' after)
    stands-done = (
      λ h. (follow-cut one goal budget n here st.comes h refl, st.tidy),
      λ next held' after store' pool' count' h f t g. (follow-stops one goal budget n here st.comes h f g, t),
    )

    -- one turn: a command that goes on is one step
    pub turn :
        {next : Next} {held' : ℕ} {after : List Cell} {store' pool' : List ℕ} {count' : ℕ}
        → n < budget → changed (kept next store' (held_in held' after)) pool' count' ≡ one here → Tidy held' after → true ≡ goes_in next count'
        → Stands goal (where_in next c) (n + 1) held' after store' pool' count'
    unfolding follow_in spot_after
    turn h f t g =
        let left : budget - n ≡ suc (budget - (n + 1)) = omega arith in
        record { comes = st.comes ∙ rw (left, ← f, ← g, add-one); tidy = t }
