-- An action asked and then done on the cells, or the error that came before: it is Changed's `lookup_in` and `change_in`. Assumes nothing.
use Rattle.std.specs.Prelude.{ℕ, ◌/◌, ◌%◌, Bool, true, false, ◌≡◌, refl, List, length, Option, Result, Ok, Err, ltb, eqb}
use Rattle.std.proofs.Common.{◌∙◌}
use Rattle.gil.specs.Numbers.{most_cells, location_tag}
use Rattle.gil.specs.Values.{term}
use Rattle.gil.specs.Machine as Machine
use Rattle.gil.specs.Machine.{put_cell}
use Rattle.gil.specs.declared.errors.Error as Errors
use Rattle.machine_code.specs.declared.kinds.CommandKind.{CommandKind}
use Rattle.machine_code.specs.declared.kinds.CommandKind.TheVariants as Kinds
use Rattle.machine_terms.specs.Mirror.{Did, did}
use Rattle.machine_evaluate.specs.Mirror.{by_result, evaluate_in}
use Rattle.machine_cells.specs.declared.Ask.{Ask}
use Rattle.machine_cells.specs.declared.Ask.TheVariants.{Lookup, Mutate, Dispose}
use Rattle.machine_commands.specs.declared.Control.{Control}
use Rattle.machine_commands.specs.declared.Command.{Command}
use Rattle.machine_commands.specs.Mirror.{Acted, after_acted, on_value, step_in}
use Rattle.machine_actions.specs.Mirror.{located_in, on_word, ask_second, ask_in, answered_in, acting_in}
use Rattle.machine_actions.specs.Laws.Changed.{look_at, lookup_in, mutate_at, dispose_at, Changed, changed, of_after, on_operand, mutate_second, mutate_in, dispose_in, by_kind, engine_in}

-- an evaluation that errs, and one that gives a value
module _ (c : Control) (x : ℕ) (ds : List (Machine.Cell ℕ)) (store : List ℕ) (d : Did (Result ℕ Errors.Error)) (f : ℕ → List ℕ → ℕ → Did (Result Ask Errors.Error)) {g : ℕ → List ℕ → ℕ → Changed}
    (h : (v : ℕ) (p : List ℕ) (n : ℕ) → answered_in c x ds store (f v p n) ≡ g v p n) where
  word-by : (r : Result ℕ Errors.Error) → d.out ≡ r → answered_in c x ds store (on_word d f) ≡ on_operand d store ds g
  unfolding on_word on_operand
  word-by (Ok v) e = simp e (h v d.pool d.count)
  word-by (Err z) e = simp e

  on-word : answered_in c x ds store (on_word d f) ≡ on_operand d store ds g
  on-word = word-by d.out refl

-- an evaluation whose value is all that is used, as one of an action that leaves the cells
value-is : (d : Did (Result ℕ Errors.Error)) (store : List ℕ) (ds : List (Machine.Cell ℕ)) (h : ℕ → Acted) (r : Result ℕ Errors.Error) → d.out ≡ r
    → on_operand d store ds (λ v p n. of_after (after_acted (h v) p n) ds) ≡ of_after (on_value d store h) ds
unfolding on_operand on_value
value-is d store ds h (Ok v) e = simp e
value-is d store ds h (Err z) e = simp e

module _ (c : Control) (m : Command) (v : ℕ) (ds : List (Machine.Cell ℕ)) (store pool : List ℕ) (count : ℕ) where
  look_by : (a : Bool) → eqb (v / 4294967296) location_tag ≡ a
      → answered_in c m.target ds store (did (by_result (located_in v) (λ l. Ok (Lookup l m.other)) Err) pool count)
      ≡ of_after (after_acted (look_at c m v ds store) pool count) ds
  unfolding located_in look_at
  look_by false e = simp e
  look_by true e = simp e

  mutate-by : (u : ℕ) (a b : Bool) → eqb (v / 4294967296) location_tag ≡ a → ltb most_cells (length (put_cell (v % 4294967296) m.other (term 0) ds)) ≡ b
      → answered_in c m.target ds store (did (by_result (located_in v) (λ l. Ok (Mutate l m.other u)) Err) pool count)
      ≡ changed (mutate_at c m v u ds store) pool count
  unfolding located_in mutate_at
  mutate-by u false b e f = simp e
  mutate-by u true true e f = simp (e, f)
  mutate-by u true false e f = simp (e, f)

  dispose-by : (a : Bool) → eqb (v / 4294967296) location_tag ≡ a
      → answered_in c m.target ds store (did (by_result (located_in v) (λ l. Ok (Dispose l)) Err) pool count)
      ≡ changed (dispose_at c m v ds store) pool count
  unfolding located_in dispose_at
  dispose-by false e = simp e
  dispose-by true e = simp e

-- asked and done, each action is the engine's move
module _ (code : List ℕ) (c : Control) (m : Command) (known : Option (List ℕ)) (ds : List (Machine.Cell ℕ)) (store pool : List ℕ) (count : ℕ) where
  pub lookup-is : m.kind ≡ Kinds.Lookup → acting_in code c m ds store pool count ≡ engine_in code c m known ds store pool count
  unfolding acting_in ask_in ask_second lookup_in engine_in
  lookup-is k =
      let d = evaluate_in code store c.frame m.first pool count in
      simp k
      (on-word _ _ _ _ _ _ (λ v p n. simp k (look_by c m v ds store p n (eqb (v / 4294967296) location_tag) refl))
      ∙ value-is d store ds (λ v. look_at c m v ds store) d.out refl)

  pub mutate-is : m.kind ≡ Kinds.Mutate → acting_in code c m ds store pool count ≡ engine_in code c m known ds store pool count
  unfolding acting_in ask_in ask_second engine_in mutate_in mutate_second
  mutate-is k =
      simp k
      (on-word _ _ _ _ _ _
      (λ v p n. simp k
      (on-word _ _ _ _ _ _
      (λ u p n.
      mutate-by c m v ds store p n u (eqb (v / 4294967296) location_tag) (ltb most_cells (length (put_cell (v % 4294967296) m.other (term 0) ds))) refl refl))))

  pub dispose-is : m.kind ≡ Kinds.Dispose → acting_in code c m ds store pool count ≡ engine_in code c m known ds store pool count
  unfolding acting_in ask_in ask_second engine_in dispose_in
  dispose-is k =
      simp k
      (on-word _ _ _ _ _ _ (λ v p n. simp k (dispose-by c m v ds store p n (eqb (v / 4294967296) location_tag) refl)))

  -- and any other command is `step`'s
  pub other-is : (m.kind ≡ Kinds.Lookup → ⊥) → (m.kind ≡ Kinds.Mutate → ⊥) → (m.kind ≡ Kinds.Dispose → ⊥)
      → of_after (step_in code c m known store pool count) ds ≡ engine_in code c m known ds store pool count
  unfolding engine_in
  other-is a b d = by m.kind refl
    where
      by : (k : CommandKind) → m.kind ≡ k → of_after (step_in code c m known store pool count) ds
          ≡ by_kind m.kind (of_after (lookup_in code c m ds store pool count) ds) (mutate_in code c m ds store pool count) (dispose_in code c m ds store pool count) (of_after (step_in code c m known store pool count) ds)
      by Kinds.Lookup e = absurd (a e)
      by Kinds.Mutate e = absurd (b e)
      by Kinds.Dispose e = absurd (d e)
      by Kinds.Assign e = simp e
      by Kinds.Jump e = simp e
      by Kinds.Call e = simp e
      by Kinds.USym e = simp e
      by Kinds.ISym e = simp e
      by Kinds.Return e = simp e
      by Kinds.Fail e = simp e
      by Kinds.Vanish e = simp e
