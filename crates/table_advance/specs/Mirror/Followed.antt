-- A path followed on words, from one fork to the next: what `follow` answers and leaves, over what one command comes to. Assumes nothing.
use Rattle.std.specs.Prelude.{ℕ, zero, suc, Bool, false, List, nat_le, Option, None, Some, Result, Ok, Err}
use Rattle.gil.specs.Numbers.{most_terms}
use Rattle.gil.specs.Machine as Machine
use Rattle.machine_code.specs.Mirror.{if?}
use Rattle.machine_commands.specs.declared.Control.{Control}
use Rattle.machine_commands.specs.declared.Next.{Next}
use Rattle.machine_commands.specs.declared.Next.TheVariants.{On, Returned, Failed, Vanished, Error, Fork}
use Rattle.machine_commands.specs.Mirror.{fetch_in}
use Rattle.machine_actions.specs.Laws.Changed.{Changed, engine_in}
use Rattle.table_advance.specs.declared.Stop.{Stop}

-- where a path stands in words: a cell is one in use, its value a word
pub record Spot : Type 0 where
  pub control : Control
  pub store : List ℕ
  pub cells : List (Machine.Cell ℕ)
  pub pool : List ℕ
  pub count : ℕ

-- what a path comes to: what the command that stopped it came to, or none where its steps are used up, where, after how many steps, and the words
pub record Stopped : Type 0 where
  pub next : Option Next
  pub control : Control
  pub steps : ℕ
  pub store : List ℕ
  pub cells : List (Machine.Cell ℕ)
  pub pool : List ℕ
  pub count : ℕ

abbrev pub spot : Control → List ℕ → List (Machine.Cell ℕ) → List ℕ → ℕ → Spot
spot c s l p k = record { control = c; store = s; cells = l; pool = p; count = k }

abbrev pub stopped : Stop → List ℕ → List (Machine.Cell ℕ) → List ℕ → ℕ → Stopped
stopped r s l p k =
    record {
      next = r.next;
      control = r.control;
      steps = r.steps;
      store = s;
      cells = l;
      pool = p;
      count = k;
    }

-- what a command came to, where a path goes on or is stopped by it
abbrev pub next_of : Result Control Next → Next
next_of (Ok to) = On to
next_of (Err next) = next

-- a command goes on, within the terms that there is room for
unfoldable pub goes_in : Next → ℕ → Bool
goes_in (On d) n = nat_le n most_terms
goes_in (Returned t w) n = false
goes_in (Failed t w) n = false
goes_in Vanished n = false
goes_in (Error e) n = false
goes_in (Fork t a b) n = false

unfoldable pub where_in : Next → Control → Control
where_in (On d) c = d
where_in (Returned t w) c = c
where_in (Failed t w) c = c
where_in Vanished c = c
where_in (Error e) c = c
where_in (Fork t a b) c = c

unfoldable pub spot_after : Spot → Changed → Spot
spot_after s o =
    record { control = where_in o.kept.next s.control; store = o.kept.store; cells = o.kept.cells; pool = o.pool; count = o.count }

unfoldable pub cut_at : ℕ → Spot → Stopped
cut_at n s =
    record {
      next = None;
      control = s.control;
      steps = n;
      store = s.store;
      cells = s.cells;
      pool = s.pool;
      count = s.count;
    }

unfoldable pub stopped_at : ℕ → Spot → Changed → Stopped
stopped_at n s o =
    record {
      next = Some o.kept.next;
      control = s.control;
      steps = n;
      store = o.kept.store;
      cells = o.kept.cells;
      pool = o.pool;
      count = o.count;
    }

-- `k` steps are left and `n` are taken
unfoldable pub follow_in : (Spot → Changed) → ℕ → ℕ → Spot → Stopped
follow_in one zero n s = cut_at n s
follow_in one (suc k) n s =
    if? (goes_in (one s).kept.next (one s).count) (follow_in one k (suc n) (spot_after s (one s))) (stopped_at n s (one s))

-- one command on a program's words: the engine's move
unfoldable pub one_in : List ℕ → Option (List ℕ) → Spot → Changed
one_in code known s = engine_in code s.control (fetch_in code s.control.procedure s.control.command) known s.cells s.store s.pool s.count
