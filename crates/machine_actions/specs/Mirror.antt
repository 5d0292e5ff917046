-- What an action asks of the cells and what it comes to, on words: what the functions of this crate answer. Assumes nothing.
use Rattle.std.specs.Prelude.{ℕ, ◌/◌, ◌%◌, List, Result, Ok, Err, eqb}
use Rattle.gil.specs.Numbers.{location_tag}
use Rattle.gil.specs.Machine as Machine
use Rattle.gil.specs.declared.errors.Error as Errors
use Rattle.gil.specs.declared.errors.Error.TheVariants.{WrongSort}
use Rattle.machine_code.specs.declared.kinds.CommandKind.{CommandKind}
use Rattle.machine_code.specs.declared.kinds.CommandKind.TheVariants as Kinds
use Rattle.machine_code.specs.Mirror.{if?}
use Rattle.machine_values.specs.declared.Location.{Location}
use Rattle.machine_terms.specs.Mirror.{Did, did}
use Rattle.machine_evaluate.specs.Mirror.{by_result, evaluate_in}
use Rattle.machine_cells.specs.declared.Ask.{Ask}
use Rattle.machine_cells.specs.declared.Ask.TheVariants.{Lookup, Mutate, Dispose}
use Rattle.machine_cells.specs.Laws.Served.{given_by, left_by}
use Rattle.machine_commands.specs.declared.Control.{Control}
use Rattle.machine_commands.specs.declared.Command.{Command}
use Rattle.machine_commands.specs.declared.Next.{Next}
use Rattle.machine_commands.specs.declared.Next.TheVariants.{Error}
use Rattle.machine_commands.specs.Mirror.{Acted, acted, assign_in}

-- "an action's first operand a location"
unfoldable pub located_in : ℕ → Result Location Errors.Error
located_in v = if? (eqb (v / 4294967296) location_tag) (Ok (record { 0 = v % 4294967296 })) (Err WrongSort)

-- what is asked, with the pool and the count of terms
unfoldable pub on_word : Did (Result ℕ Errors.Error) → (ℕ → List ℕ → ℕ → Did (Result Ask Errors.Error)) → Did (Result Ask Errors.Error)
on_word d f = by_result d.out (λ v. f v d.pool d.count) (λ e. did (Err e) d.pool d.count)

-- a choice by which action a command is; `dispose` where it is none
abbrev pub by_action : {A : Type 0} → CommandKind → A → A → A → A
by_action Kinds.Lookup a b d = a
by_action Kinds.Mutate a b d = b
by_action _ a b d = d

module _ (code : List ℕ) (c : Control) (m : Command) (store : List ℕ) where
  -- the first operand is v; `mutate` has a second
  unfoldable pub ask_second : ℕ → List ℕ → ℕ → Did (Result Ask Errors.Error)
  ask_second v pool count =
      by_action m.kind (did (by_result (located_in v) (λ l. Ok (Lookup l m.other)) Err) pool count)
      (on_word (evaluate_in code store c.frame m.second pool count) (λ u p n. did (by_result (located_in v) (λ l. Ok (Mutate l m.other u)) Err) p n))
      (did (by_result (located_in v) (λ l. Ok (Dispose l)) Err) pool count)

  unfoldable pub ask_in : List ℕ → ℕ → Did (Result Ask Errors.Error)
  ask_in pool count = on_word (evaluate_in code store c.frame m.first pool count) ask_second

-- what an action comes to, the store and the cells after it
pub record Kept : Type 0 where
  pub next : Next
  pub store : List ℕ
  pub cells : List (Machine.Cell ℕ)

abbrev pub kept : Next → List ℕ → List (Machine.Cell ℕ) → Kept
kept n s ds = record { next = n; store = s; cells = ds }

abbrev pub keeping : Acted → List (Machine.Cell ℕ) → Kept
keeping a ds = kept a.next a.store ds

-- the same, with the pool and the count of terms
pub record Changed : Type 0 where
  pub kept : Kept
  pub pool : List ℕ
  pub count : ℕ

abbrev pub changed : Kept → List ℕ → ℕ → Changed
changed k p n = record { kept = k; pool = p; count = n }

-- an answer given to a variable, or an error
abbrev pub told_in : Control → ℕ → List ℕ → Result ℕ Errors.Error → Acted
told_in c x store r = by_result r (λ v. assign_in c x v store) (λ e. acted (Error e) store)

-- what was asked, done on the cells
abbrev pub done_in : Control → ℕ → List (Machine.Cell ℕ) → List ℕ → Result Ask Errors.Error → Kept
done_in c x ds store r =
    by_result r (λ a. keeping (told_in c x store (given_by a ds)) (left_by a ds)) (λ e. keeping (acted (Error e) store) ds)

-- an action up to what it asks, and then done on the cells, or the error that came before
abbrev pub answered_in : Control → ℕ → List (Machine.Cell ℕ) → List ℕ → Did (Result Ask Errors.Error) → Changed
answered_in c x ds store o = changed (done_in c x ds store o.out) o.pool o.count

unfoldable pub acting_in : List ℕ → Control → Command → List (Machine.Cell ℕ) → List ℕ → List ℕ → ℕ → Changed
acting_in code c m ds store pool count = answered_in c m.target ds store (ask_in code c m store pool count)
