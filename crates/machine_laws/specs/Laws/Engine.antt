-- The engine is document 01's machine: over a well-formed program's words, from a state that stands in words, one command is one `move`. For
-- the plain run's model (terms' Plain) and for the pool's (terms' Pooled); in the plain run there is no term, so nothing is made and no fork
-- is taken. Assumes nothing.
use Rattle.std.specs.Prelude.{ℕ, ◌+◌, ◌<◌, ◌≤◌, Bool, true, false, ◌≡◌, refl, List, [], ◌++◌, length, get_or, drop, ltb}
use Rattle.std.proofs.Common.{◌∙◌, sym, ap, ap₂, subst, arith, drop-drop, ltb-true, ltb-false}
use Rattle.std.proofs.lemmas.List.{append_assoc}
use Rattle.std.proofs.Math.ListN.{get_or-eq_default}
use Rattle.std.proofs.Math.Seq.{drop-append_seam}
use Rattle.gil.specs.Numbers.{most_variables, most_frames}
use Rattle.gil.specs.Tree.{Expr, Cmd, lookup, mutate, dispose, vanish}
use Rattle.gil.specs.Names.{Procedure, Program}
use Rattle.gil.specs.Machine as Machine
use Rattle.gil.specs.Machine.{Model, State, move, settled, exec, eval, give, procedure_at, command_at, frames, ◌>>=◌, ◌>>◌}
use Rattle.machine_code.specs.Code.{expr_words, cmd_nodes, cmd_words, program_words}
use Rattle.machine_code.specs.WellFormed.{ExprFits, CmdFits, an_assign, a_jump, a_call, a_lookup, a_mutate, a_dispose, a_u_sym, an_i_sym, a_return, a_fail, a_vanish, WellFormed}
use Rattle.machine_terms.specs.Laws.Engine.{Engine, EvalAs}
use Rattle.machine_evaluate.specs.Mirror.{evaluate_in}
use Rattle.machine_evaluate.specs.Laws.{evaluate_as}
use Rattle.machine_commands.specs.declared.Control.{Control}
use Rattle.machine_commands.specs.declared.Command.{Command}
use Rattle.machine_commands.specs.Mirror.{vanish_command, kind_of, fetch_in, act_in, step_in}
use Rattle.machine_actions.specs.Laws.Changed.{lookup_in, mutate_second, mutate_in, dispose_in, engine_in}
use Rattle.machine_laws.specs.Laws.State.{top}
use Rattle.machine_laws.specs.Laws.Moves.{StateAs, has_failed, has_vanished, MovedAs, ChangedAs, value_as, operand_as, assign_as, jump_as, enter_by, leave_as}
use Rattle.machine_laws.specs.Laws.Actions.{look_as, mutate_as, dispose_as, locate_as, receive_as}
use Rattle.machine_laws.specs.Laws.Words.{of_words, program-length, procedure-fits, body-few, past_end, fetch_as}

-- every procedure has at most 16 variables; where there is none, none
few-by : (p : Program) → WellFormed p → (g : ℕ) (b : Bool) → ltb g (length p.procedures) ≡ b → (procedure_at p g).variables ≤ most_variables
unfolding procedure_at
few-by p ok g true e = (procedure-fits p ok g (ltb-true _ _ e)).few_variables
few-by p ok g false e =
    let d : procedure_at p g ≡ record { name = []; variables = 0; body = [] } =
    get_or-eq_default p.procedures (record { name = []; variables = 0; body = [] }) (ltb-false _ _ e) in
    let z : (procedure_at p g).variables ≡ 0 = ap (λ (q : Procedure). q.variables) d in
    omega arith

few-variables : (p : Program) → WellFormed p → (g : ℕ) → (procedure_at p g).variables ≤ most_variables
few-variables p ok g = few-by p ok g (ltb g (length p.procedures)) refl

module _ {M : Model} (E : Engine M) (p : Program) (ok : WellFormed p) {s : State M.Term} {c : Control} {store : List ℕ}
    {ds : List (Machine.Cell ℕ)} (h : StateAs E p s c store ds) where
  few : (procedure_at p s.control.procedure).variables ≤ most_variables
  few = few-variables p ok s.control.procedure

  -- an expression of the command evaluated
  evaluated : {e : Expr ℕ} → ExprFits (procedure_at p s.control.procedure).variables 8 e → (at : ℕ) (rest : List ℕ)
      → drop at (program_words p) ≡ expr_words e ++ rest
      → {w : M.World} {pool : List ℕ} {count : ℕ}
      → E.WorldAs w pool count
      → EvalAs E (eval M s.variables e w) (evaluate_in (program_words p) store c.frame at pool count)
  evaluated fits at rest e {w} {pool} {count} world =
      evaluate_as E (program_words p) store c.frame (program-length p ok) s.variables (top E.TermAs h.frames).slots h.low few fits at
      (record { rest = rest; words = e }) w pool count world

  -- each command, where its five words and its expressions stand
  module _ (small : s.control.command < 4294967295) where
    pub exec_as : {cmd : Cmd ℕ} → CmdFits (procedure_at p s.control.procedure).variables (length p.procedures) cmd → (at : ℕ) (rest : List ℕ)
        → drop at (program_words p) ≡ cmd_nodes cmd ++ rest
        → (w : M.World) (pool : List ℕ) (count : ℕ)
        → E.WorldAs w pool count
        → ChangedAs E p store ds (exec M p s cmd w)
        (engine_in (program_words p) c (of_words (cmd_words at cmd)) E.known ds store pool count)
    unfolding exec cmd_nodes cmd_words kind_of engine_in step_in lookup_in mutate_in mutate_second dispose_in act_in give ◌>>=◌ ◌>>◌ settled
    exec_as (an_assign {x} {e} hx fits) at rest nodes w pool count world =
        value_as E p _ _ (evaluated fits at rest nodes world) (λ w v y pool count world a. assign_as E p h few small x hx world a)
    exec_as (a_jump {n} {e} fits hn) at rest nodes w pool count world =
        value_as E p _ _ (evaluated fits at rest nodes world) (λ w v y pool count world a. jump_as E p h few small n world a)
    exec_as (a_call {x} {f} {e} hx hf fits) at rest nodes w pool count world =
        value_as E p _ _ (evaluated fits at rest nodes world)
        (λ w v y pool count world a.
        enter_by E p h few small x f (ltb (frames s.control) most_frames) refl hx hf (procedure-fits p ok f hf).some_variable world a)
    exec_as (a_lookup {x} {q} {e} hx fits hq) at rest nodes w pool count world =
        value_as E p _ _ (evaluated fits at rest nodes world)
        (λ w v y pool count world a. look_as E p h few small (of_words (cmd_words at (lookup x e q))) hx world a)
    exec_as (a_mutate {x} {q} {e} {d} hx fits hq fits') at rest nodes w pool count world =
        let m = of_words (cmd_words at (mutate x e q d)) in
        let nodes₁ : drop at (program_words p) ≡ expr_words e ++ (expr_words d ++ rest) = nodes ∙ append_assoc (expr_words e) (expr_words d) rest in
        let nodes₂ : drop (at + length (expr_words e)) (program_words p) ≡ expr_words d ++ rest =
        sym (drop-drop (length (expr_words e)) at (program_words p))
        ∙ ap (λ (l : List ℕ). drop (length (expr_words e)) l) nodes₁
        ∙ drop-append_seam (expr_words e) (expr_words d ++ rest) in
        operand_as E p _ _ (evaluated fits at (expr_words d ++ rest) nodes₁ world)
        (λ w v y pool count world a.
        operand_as E p _ _ (evaluated fits' (at + length (expr_words e)) rest nodes₂ world)
        (λ w u z pool count world b. mutate_as E p h few small m hx world a b))
    exec_as (a_dispose {x} {e} hx fits) at rest nodes w pool count world =
        operand_as E p _ _ (evaluated fits at rest nodes world)
        (λ w v y pool count world a. dispose_as E p h few small (of_words (cmd_words at (dispose x e))) hx world a)
    exec_as (a_u_sym {x} {j} hx hj) at rest nodes w pool count world =
        locate_as E p h few small x j hx world
    exec_as (an_i_sym {x} {j} hx hj) at rest nodes w pool count world =
        receive_as E p h few small x j hx world
    exec_as (a_return {e} fits) at rest nodes w pool count world =
        value_as E p _ _ (evaluated fits at rest nodes world)
        (λ w v y pool count world a. leave_as E p h ok.few_procedures (few-variables p ok) world a)
    exec_as (a_fail {e} fits) at rest nodes w pool count world =
        value_as E p _ _ (evaluated fits at rest nodes world) (λ w v y pool count world a. record { world = world; next = has_failed a })
    exec_as a_vanish at rest nodes w pool count world = record { world = world; next = has_vanished }

  -- `vanish` past the end of a procedure
  vanish_as : (w : M.World) (pool : List ℕ) (count : ℕ) → E.WorldAs w pool count
      → ChangedAs E p store ds (exec M p s vanish w) (engine_in (program_words p) c vanish_command E.known ds store pool count)
  unfolding exec engine_in step_in give settled
  vanish_as w pool count world = record { world = world; next = has_vanished }

  move-by : (w : M.World) (pool : List ℕ) (count : ℕ) (b : Bool)
      → ltb s.control.command (length (procedure_at p s.control.procedure).body) ≡ b
      → E.WorldAs w pool count
      → ChangedAs E p store ds (exec M p s (command_at p s.control) w)
      (engine_in (program_words p) c (fetch_in (program_words p) s.control.procedure s.control.command) E.known ds store pool count)
  unfolding command_at
  move-by w pool count true e world =
      let f = s.control.procedure in
      let k = s.control.command in
      let there : f < length p.procedures = (top E.TermAs h.frames).there in
      let inside : k < length (procedure_at p f).body = ltb-true k (length (procedure_at p f).body) e in
      let small : k < 4294967295 = omega (arith, body-few p ok f there) in
      let found = fetch_as p ok f there k inside in
      rw found.words (exec_as small found.fits found.at found.rest found.nodes w pool count world)
  move-by w pool count false e world =
      let f = s.control.procedure in
      let k = s.control.command in
      let there : f < length p.procedures = (top E.TermAs h.frames).there in
      let outside : length (procedure_at p f).body ≤ k = ltb-false k (length (procedure_at p f).body) e in
      let gone : get_or (procedure_at p f).body k vanish ≡ vanish = get_or-eq_default (procedure_at p f).body vanish outside in
      rw (past_end p ok f there k outside, gone) (vanish_as w pool count world)

  -- one command of the engine is one move of the machine
  pub move_as : (w : M.World) (pool : List ℕ) (count : ℕ) → E.WorldAs w pool count
      → let k = engine_in (program_words p) c (fetch_in (program_words p) c.procedure c.command) E.known ds store pool count in
      MovedAs E p store ds (move M p w s) k.kept.next k.kept.store k.kept.cells k.pool k.count
  unfolding move
  move_as w pool count world =
      subst
      (λ (m : Command).
      ChangedAs E p store ds (exec M p s (command_at p s.control) w) (engine_in (program_words p) c m E.known ds store pool count))
      (sym (ap₂ (fetch_in (program_words p)) h.procedure h.command))
      (move-by w pool count (ltb s.control.command (length (procedure_at p s.control.procedure).body)) refl world)

  -- the next command is one of the program's, or `vanish`: what Growth's bound on the terms it makes asks
  fits_by : (b : Bool)
      → ltb s.control.command (length (procedure_at p s.control.procedure).body) ≡ b
      → CmdFits (procedure_at p s.control.procedure).variables (length p.procedures) (command_at p s.control)
  unfolding command_at
  fits_by true e =
      let f = s.control.procedure in
      let there : f < length p.procedures = (top E.TermAs h.frames).there in
      (fetch_as p ok f there s.control.command (ltb-true _ _ e)).fits
  fits_by false e =
      let f = s.control.procedure in
      let k = s.control.command in
      let gone : get_or (procedure_at p f).body k vanish ≡ vanish =
      get_or-eq_default (procedure_at p f).body vanish (ltb-false k (length (procedure_at p f).body) e) in
      rw gone a_vanish

  pub next_fits : CmdFits (procedure_at p s.control.procedure).variables (length p.procedures) (command_at p s.control)
  next_fits = fits_by (ltb s.control.command (length (procedure_at p s.control.procedure).body)) refl
