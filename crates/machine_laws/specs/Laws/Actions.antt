-- Each action on the memory over words is that action of document 01's machine, its answer assigned: one law an action, which a change of
-- the action edits. Before them, that an action's first operand is a location. Assumes nothing.
use Rattle.std.specs.Prelude.{ℕ, ◌+◌, ◌/◌, ◌%◌, ◌<◌, ◌≤◌, Bool, true, false, ◌≡◌, refl, List, length, ltb, leb, eqb}
use Rattle.std.proofs.Common.{◌∙◌, ap, add-one, arith, ne_eqb, lt-ltb, le-ltb, le-leb, ltb-true, ltb-false}
use Rattle.std.proofs.lemmas.Bool.{lt-leb, leb-true, leb-false}
use Rattle.std.proofs.Math.Option.{Option}
use Rattle.gil.specs.Numbers.{most_variables, most_inputs, most_locations, most_cells, wrong_sort, no_such_cell, seventeenth_input, seventeenth_location, thirty_third_cell, location_tag}
use Rattle.gil.specs.declared.errors.Error.TheVariants.{WrongSort, NoSuchCell, SeventeenthInput, SeventeenthLocation, ThirtyThirdCell}
use Rattle.gil.specs.Names.{Program}
use Rattle.gil.specs.Values.{Value, const, term, boolean, location}
use Rattle.gil.specs.Values as Values
use Rattle.gil.specs.Machine as Machine
use Rattle.gil.specs.Machine.{Model, Memory, Answer, State, on, Result, err, and_then, ◌>>=◌, ◌>>◌, give, stop, must, there, procedure_at, with_input, with_location, counting, with_cells, answered, making, the_location, cell_at, put_cell, without_cells, looked_up, written, dropped, fresh_location, fresh_input}
use Rattle.machine_values.specs.declared.Input.{Input}
use Rattle.machine_values.specs.declared.Location.{Location}
use Rattle.machine_code.specs.Mirror.{if?}
use Rattle.machine_values.specs.Mirror.{truth_word}
use Rattle.machine_values.specs.Laws.{a_number, a_truth, a_location}
use Rattle.machine_terms.specs.Laws.Engine.{Engine, const_as, term_as, MadeAs, As, fresh_in}
use Rattle.machine_cells.specs.Laws.Served.{value_or, looked_in}
use Rattle.machine_commands.specs.declared.Control.{Control}
use Rattle.machine_commands.specs.declared.Command.{Command}
use Rattle.machine_commands.specs.declared.Next.TheVariants.{Error}
use Rattle.machine_commands.specs.Mirror.{acted, assign_in, locate_in, after_acted, receive_in}
use Rattle.machine_actions.specs.Mirror.{told_in}
use Rattle.machine_actions.specs.Laws.Changed.{look_at, keeping, mutate_at, dispose_at, changed, put-length}
use Rattle.machine_laws.specs.Laws.State.{CellsAs, MemoryAs}
use Rattle.machine_laws.specs.Laws.Memory.{FoundAs, finds_none, finds, find_as, put_as, without_as, cells-length}
use Rattle.machine_laws.specs.Laws.Moves.{StateAs, SteppedAs, ChangedAs, erred, went, answered_as, tag_low}

-- memories changed
module _ {T : Type 0} {TermAs : T → ℕ → Type 0} {m : Memory T} {i : Input} {l : Location} {ds : List (Machine.Cell ℕ)} (h : MemoryAs TermAs m i l ds) where
  with_cells_lem : {cs : List (Machine.Cell T)} {ds' : List (Machine.Cell ℕ)} → CellsAs TermAs cs ds' → MemoryAs TermAs (with_cells cs m) i l ds'
  unfolding with_cells
  with_cells_lem k = record { inputs = h.inputs; locations = h.locations; cells = k }

  with_location_lem : MemoryAs TermAs (counting with_location m) i (record { 0 = l.0 + 1 }) ds
  unfolding counting with_location
  with_location_lem =
      record {
        inputs = h.inputs;
        locations = ap (λ (k : ℕ). k + 1) h.locations ∙ add-one m.counters.locations;
        cells = h.cells;
      }

  with_input_lem : MemoryAs TermAs (counting with_input m) (record { 0 = i.0 + 1 }) l ds
  unfolding counting with_input
  with_input_lem =
      record {
        inputs = ap (λ (k : ℕ). k + 1) h.inputs ∙ add-one m.counters.inputs;
        locations = h.locations;
        cells = h.cells;
      }

-- "an action's first operand a location": what `f` and `g` do with it, and error 2, stand as P says
at-location : {M : Model} (E : Engine M) {A : Type 0} (P : Result M.World (Machine.Next M.Term) → A → Type 0) {v : Value M.Term} {y : ℕ}
    (f : ℕ → M.World → Result M.World (Machine.Next M.Term)) (g : ℕ → A) (none : A) (w : M.World)
    → As E v y
    → ((l : ℕ) → P (f l w) (g l))
    → P (err w wrong_sort) none
    → P ((the_location M v >>= f) w) (if? (eqb (y / 4294967296) location_tag) (g (y % 4294967296)) none)
unfolding the_location stop give and_then ◌>>=◌ truth_word
at-location E P f g none w (const_as (a_number {n} few)) k e = let t : (4294967296 + n) / 4294967296 ≡ 1 = omega arith in simp t e
at-location E P f g none w (const_as (a_truth {b = true})) k e = e
at-location E P f g none w (const_as (a_truth {b = false})) k e = e
at-location E P f g none w (const_as (a_location {l} few)) k e =
    let t : (12884901888 + l) / 4294967296 ≡ 3 = omega arith in
    let u : (12884901888 + l) % 4294967296 ≡ l = omega arith in
    simp (t, u) (k l)
at-location E P {y = y} f g none w (term_as {t} a) k e =
    simp (ne_eqb (y / 4294967296) location_tag (λ z. absurd (omega (arith, tag_low (E.tagged a))))) e

module _ {M : Model} (E : Engine M) (p : Program) {s : State M.Term} {c : Control} {store : List ℕ} {ds : List (Machine.Cell ℕ)}
    (h : StateAs E p s c store ds) (few : (procedure_at p s.control.procedure).variables ≤ most_variables) (small : s.control.command < 4294967295) where
  -- an action, and its answer assigned
  abbrev pub answering : ℕ → (M.World → Result M.World (Answer M.Term)) → M.World → Result M.World (Machine.Next M.Term)
  answering x r = r >>= (λ a. give (on (answered x a s)))

  abbrev here : ℕ → Type 0
  here x = x < (procedure_at p s.control.procedure).variables

  -- `lookup`
  found_as : {w : M.World} {pool : List ℕ} {count : ℕ} {o : Option (Value M.Term)} {o' : Option (Value ℕ)} (x : ℕ) → here x → E.WorldAs w pool count
      → FoundAs E.TermAs o o'
      → SteppedAs E p store ds (answering x (there o no_such_cell >>= (λ v. give (record { value = v; memory = s.memory }))) w)
      (after_acted (told_in c x store (value_or NoSuchCell o')) pool count)
  unfolding there stop give and_then ◌>>=◌ assign_in
  found_as x hx world finds_none = erred E p NoSuchCell world
  found_as x hx world (finds a) = went E p world (answered_as E p h few small c.inputs c.locations x hx a h.memory)

  pub look_as : {w : M.World} {v : Value M.Term} {y : ℕ} {pool : List ℕ} {count : ℕ} (m : Command) → here m.target → E.WorldAs w pool count
      → As E v y
      → SteppedAs E p store ds ((the_location M v >>= (λ l. answering m.target (looked_up M l m.other s.memory))) w)
      (after_acted (look_at c m y ds store) pool count)
  unfolding looked_up look_at
  look_as {w} {pool = pool} {count = count} m hx world a =
      at-location E (λ r d. SteppedAs E p store ds r (after_acted d pool count)) _
      (λ l. told_in c m.target store (looked_in l m.other ds))
      (acted (Error WrongSort) store) w a
      (λ l. found_as m.target hx world (find_as E.TermAs l m.other h.memory.cells))
      (erred E p WrongSort world)

  -- `mutate`
  written-by : {w : M.World} {u : Value M.Term} {z : ℕ} {pool : List ℕ} {count : ℕ} (x l q : ℕ) (b : Bool)
      → leb (length (put_cell l q u s.memory.cells)) most_cells ≡ b
      → here x
      → E.WorldAs w pool count
      → As E u z
      → ChangedAs E p store ds
      (answering x (must b thirty_third_cell >> give (record { value = const (boolean true); memory = with_cells (put_cell l q u s.memory.cells) s.memory })) w)
      (changed
      (if? (ltb most_cells (length (put_cell l q (term 0) ds))) (keeping (acted (Error ThirtyThirdCell) store) ds)
      (keeping (assign_in c x 8589934593 store) (put_cell l q (term z) ds)))
      pool count)
  unfolding must stop give and_then ◌>>◌ ◌>>=◌ assign_in truth_word
  written-by {u = u} {z = z} x l q true e hx world a =
      let cs = put_as E.TermAs l q a h.memory.cells in
      let fits : length (put_cell l q (term 0) ds) ≤ most_cells =
      omega (arith, leb-true (length (put_cell l q u s.memory.cells)) most_cells e, cells-length E.TermAs cs, put-length l q (term 0) (term z) ds) in
      simp (le-ltb most_cells (length (put_cell l q (term 0) ds)) fits)
      (went E p world (answered_as E p h few small c.inputs c.locations x hx (const_as (a_truth {b = true})) (with_cells_lem h.memory cs)))
  written-by {u = u} {z = z} x l q false e hx world a =
      let cs = put_as E.TermAs l q a h.memory.cells in
      let over : most_cells < length (put_cell l q (term 0) ds) =
      omega (arith, leb-false (length (put_cell l q u s.memory.cells)) most_cells e, cells-length E.TermAs cs, put-length l q (term 0) (term z) ds) in
      simp (lt-ltb most_cells (length (put_cell l q (term 0) ds)) over) (erred E p ThirtyThirdCell world)

  pub mutate_as : {w : M.World} {v u : Value M.Term} {y z : ℕ} {pool : List ℕ} {count : ℕ} (m : Command) → here m.target
      → E.WorldAs w pool count
      → As E v y
      → As E u z
      → ChangedAs E p store ds ((the_location M v >>= (λ l. answering m.target (written M l m.other u s.memory))) w)
      (changed (mutate_at c m y z ds store) pool count)
  unfolding written mutate_at
  mutate_as {w} {u = u} {z = z} {pool = pool} {count = count} m hx world a b =
      at-location E (λ r d. ChangedAs E p store ds r (changed d pool count)) _
      (λ l.
      if? (ltb most_cells (length (put_cell l m.other (term 0) ds))) (keeping (acted (Error ThirtyThirdCell) store) ds)
      (keeping (assign_in c m.target 8589934593 store) (put_cell l m.other (term z) ds)))
      (keeping (acted (Error WrongSort) store) ds) w a
      (λ l. written-by m.target l m.other (leb (length (put_cell l m.other u s.memory.cells)) most_cells) refl hx world b)
      (erred E p WrongSort world)

  -- `dispose`
  dropped_as : {w : M.World} {pool : List ℕ} {count : ℕ} (x l : ℕ) → here x → E.WorldAs w pool count
      → ChangedAs E p store ds (answering x (dropped M l s.memory) w)
      (changed (keeping (assign_in c x 8589934593 store) (without_cells l ds)) pool count)
  unfolding dropped give and_then ◌>>=◌ assign_in truth_word
  dropped_as x l hx world =
      went E p world
      (answered_as E p h few small c.inputs c.locations x hx (const_as (a_truth {b = true}))
      (with_cells_lem h.memory (without_as E.TermAs l h.memory.cells)))

  pub dispose_as : {w : M.World} {v : Value M.Term} {y : ℕ} {pool : List ℕ} {count : ℕ} (m : Command) → here m.target
      → E.WorldAs w pool count
      → As E v y
      → ChangedAs E p store ds ((the_location M v >>= (λ l. answering m.target (dropped M l s.memory))) w)
      (changed (dispose_at c m y ds store) pool count)
  unfolding dispose_at
  dispose_as {w} {pool = pool} {count = count} m hx world a =
      at-location E (λ r d. ChangedAs E p store ds r (changed d pool count)) _
      (λ l. keeping (assign_in c m.target 8589934593 store) (without_cells l ds))
      (keeping (acted (Error WrongSort) store) ds) w a
      (λ l. dropped_as m.target l hx world)
      (erred E p WrongSort world)

  -- `uSym`
  located_by : {w : M.World} {pool : List ℕ} {count : ℕ} (x : ℕ) (b : Bool) → ltb s.memory.counters.locations most_locations ≡ b → here x
      → E.WorldAs w pool count
      → SteppedAs E p store ds
      (answering x (must b seventeenth_location >> give (record { value = const (location s.memory.counters.locations); memory = counting with_location s.memory })) w)
      (after_acted (locate_in c x store) pool count)
  unfolding must stop give and_then ◌>>◌ ◌>>=◌ locate_in assign_in
  located_by x true e hx world =
      let n = s.memory.counters.locations in
      let few' : c.locations.0 < most_locations = omega (arith, h.memory.locations, ltb-true n 16 e) in
      let a : As E (const (location n)) (12884901888 + c.locations.0) =
      rw h.memory.locations (const_as (a_location {l = n} (omega (arith, ltb-true n 16 e)))) in
      simp (lt-leb most_locations c.locations.0 few')
      (went E p world (answered_as E p h few small c.inputs (record { 0 = c.locations.0 + 1 }) x hx a (with_location_lem h.memory)))
  located_by x false e hx world =
      let many : most_locations ≤ c.locations.0 = omega (arith, h.memory.locations, ltb-false s.memory.counters.locations most_locations e) in
      simp (le-leb most_locations c.locations.0 many) (erred E p SeventeenthLocation world)

  pub locate_as : {w : M.World} {pool : List ℕ} {count : ℕ} (x j : ℕ) → here x → E.WorldAs w pool count
      → SteppedAs E p store ds (answering x (fresh_location M j s.memory) w) (after_acted (locate_in c x store) pool count)
  unfolding fresh_location
  locate_as x j hx world = located_by x (ltb s.memory.counters.locations most_locations) refl hx world

  -- `iSym`
  received_by : {w : M.World} {pool : List ℕ} {count : ℕ} (x : ℕ) (b : Bool) → ltb s.memory.counters.inputs most_inputs ≡ b → here x
      → E.WorldAs w pool count
      → SteppedAs E p store ds
      (answering x
      (must b seventeenth_input
      >> (making M (Values.input s.memory.counters.inputs) >>= (λ v. give (record { value = v; memory = counting with_input s.memory }))))
      w)
      (receive_in c x E.known store pool count)
  unfolding must stop give and_then ◌>>◌ ◌>>=◌ making receive_in assign_in
  received_by {w} {pool} {count} x true e hx world =
      let n = s.memory.counters.inputs in
      let few' : c.inputs.0 < most_inputs = omega (arith, h.memory.inputs, ltb-true n 16 e) in
      let k : MadeAs E.TermAs E.WorldAs (M.make w (Values.input n)) (fresh_in E.known c.inputs.0 pool count) =
      rw h.memory.inputs (E.makes_input n (ltb-true n 16 e) world) in
      simp (lt-leb most_inputs c.inputs.0 few')
      (went E p k.world (answered_as E p h few small (record { 0 = c.inputs.0 + 1 }) c.locations x hx k.value (with_input_lem h.memory)))
  received_by x false e hx world =
      let many : most_inputs ≤ c.inputs.0 = omega (arith, h.memory.inputs, ltb-false s.memory.counters.inputs most_inputs e) in
      simp (le-leb most_inputs c.inputs.0 many) (erred E p SeventeenthInput world)

  pub receive_as : {w : M.World} {pool : List ℕ} {count : ℕ} (x j : ℕ) → here x → E.WorldAs w pool count
      → SteppedAs E p store ds (answering x (fresh_input M j s.memory) w) (receive_in c x E.known store pool count)
  unfolding fresh_input
  receive_as x j hx world = received_by x (ltb s.memory.counters.inputs most_inputs) refl hx world
