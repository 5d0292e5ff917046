-- Every accepted text gives a well-formed program: what the engine may assume of a program, the reader's texts all have. Assumes nothing.
use Rattle.std.specs.Prelude.{ℕ, ◌≤◌, ◌≡◌, refl, Bool, true, false, not, ◌||◌, List, map, length, ltb}
use Rattle.std.proofs.Common.{arith, sym, ◌∙◌, ltb-false}
use Rattle.std.proofs.lemmas.List.{length-map}
use Rattle.std.proofs.lemmas.Bool.{not-false}
use Rattle.gil.specs.Numbers.{most_procedures, most_commands, most_variables, most_properties, most_bytes, for_end}
use Rattle.gil.specs.Text.{bytes}
use Rattle.gil.specs.Tree.{Cmd, Proc, Name}
use Rattle.gil.specs.Reading.{Read, read, procedures}
use Rattle.gil.specs.Names.{any, gather, has, place_of, cmd_properties, cmd_calls, proc_vars, properties, proc_names, over_limits, repeated, wrong_names, wrong_jump, wrong_end, Program, number_proc, number_program, Checked, refused, accepted, refused_if, tested, check_text}
use Rattle.gil.proofs.Theory.Tests.{chosen}
use Rattle.machine_code.specs.Code.{all_commands, nodes_room}
use Rattle.machine_code.specs.WellFormed.{Each, WellFormed}
use Rattle.machine_code.proofs.Accepted.Lists.{or_false, each_to, each_both, each_map, each-gather, none_passes, total}
use Rattle.machine_code.proofs.Accepted.Places.{Known, place_of-below, distinct-has}
use Rattle.machine_code.proofs.Accepted.Sizes.{proc_size, ProcSmall}
use Rattle.machine_code.proofs.Accepted.Readers.{Given, is_faulty, is_read}
use Rattle.machine_code.proofs.Accepted.Commands.{ItemsRead, procedures-given}
use Rattle.machine_code.proofs.Accepted.Numbered.{numbered-commands, numbered-nodes, number_proc-fits}
pub mod Lists
pub mod Places
pub mod Tokens
pub mod Sizes
pub mod Readers
pub mod Commands
pub mod Numbered

-- what holds of all names that the commands of a program use in some way, by procedure and command
each_use :
    {P : Name → Type 0} (uses : Cmd Name → List Name) (ps : List (Proc Name))
    → Each P (gather (λ p. gather uses p.body) ps)
    → Each (λ p. Each (λ c. Each P (uses c)) p.body) ps
each_use uses ps h = each_to (λ p. each-gather uses p.body) (each-gather _ ps h)

-- what is known where refusal 5 is not given
pub record Limited (ps : List (Proc Name)) : Type 0 where
  pub few_procedures : length ps ≤ most_procedures
  pub few_commands : length (gather (λ p. p.body) ps) ≤ most_commands
  pub few_variables : Each (λ p. length (proc_vars p) ≤ most_variables) ps
  pub few_properties : length (properties ps) ≤ most_properties

pub limits_kept : (ps : List (Proc Name)) → over_limits ps ≡ false → Limited ps
unfolding over_limits
limits_kept ps e =
    let a : Bool = ltb most_procedures (length ps) in
    let b : Bool = ltb most_commands (length (gather (λ p. p.body) ps)) in
    let c : Bool = any (λ p. ltb most_variables (length (proc_vars p))) ps in
    let (e₁, properties) = or_false (a || b || c) _ e in
    let (e₂, variables) = or_false (a || b) c e₁ in
    let (procedures, commands) = or_false a b e₂ in
    record {
      few_procedures = ltb-false _ _ procedures;
      few_commands = ltb-false _ _ commands;
      few_variables = each_to (λ p. ltb-false most_variables (length (proc_vars p))) (none_passes _ ps variables);
      few_properties = ltb-false _ _ properties;
    }

-- what is known where refusal 6 is not given
pub record Named (ps : List (Proc Name)) : Type 0 where
  pub calls : Each (λ p. Each (λ c. Known (proc_names ps) (cmd_calls c)) p.body) ps
  pub main : has (bytes "main") (proc_names ps) ≡ true

pub names-kept : (ps : List (Proc Name)) → wrong_names ps ≡ false → Named ps
unfolding wrong_names
names-kept ps e =
    let called : List Name = gather (λ p. gather cmd_calls p.body) ps in
    let unknown : Name → Bool = λ f. not (has f (proc_names ps)) in
    let (e₁, main) = or_false (repeated (proc_names ps) || any unknown called) _ e in
    let (_, calls) = or_false (repeated (proc_names ps)) _ e₁ in
    record {
      calls = each_use cmd_calls ps (each_to (λ f. not-false (has f (proc_names ps))) (none_passes unknown called calls));
      main = not-false _ main;
    }

pub once_each : (ps : List (Proc Name)) → wrong_names ps ≡ false → repeated (proc_names ps) ≡ false
unfolding wrong_names
once_each ps e = (or_false (repeated (proc_names ps)) _ (or_false _ _ e).0).0

-- each property is among the distinct ones
pub properties-known : (ps : List (Proc Name)) → Each (λ p. Each (λ c. Known (properties ps) (cmd_properties c)) p.body) ps
unfolding properties
properties-known ps = each_use cmd_properties ps (distinct-has (gather (λ p. gather cmd_properties p.body) ps))

-- a small program within the limits of refusal 5 and with the names of refusal 6
pub number_program_well_formed :
    (ps : List (Proc Name)) → Each ProcSmall ps → total proc_size ps ≤ nodes_room → Limited ps → Named ps → WellFormed (number_program ps)
unfolding number_program all_commands proc_names
number_program_well_formed ps small size limited named =
    let qs = properties ps in
    let fs = proc_names ps in
    let p : Name → ℕ = λ w. place_of w qs in
    let f : Name → ℕ = λ w. place_of w fs in
    let count : length (map (number_proc p f) ps) ≡ length ps = length-map ps (number_proc p f) in
    let names : length fs ≡ length ps = length-map ps (λ q. q.name) in
    record {
      few_procedures = rw count limited.few_procedures;
      few_commands = rw (numbered-commands p f ps) limited.few_commands;
      few_nodes = rw (numbered-nodes p f ps) size;
      main_there = omega (arith, place_of-below (bytes "main") fs named.main);
      procedures = rw (count ∙ sym names) (each_map (number_proc p f) (each_to
          (λ q h. number_proc-fits qs fs limited.few_properties q h.0 h.1.0 h.1.1.0 h.1.1.1)
          (each_both small (each_both limited.few_variables (each_both (properties-known ps) named.calls)))));
    }

-- an accepted text is not refused
refused_not_accepted : {A : Type 0} {n : ℕ} {p : Program} → refused n ≡ accepted p → A
refused_not_accepted e = let z : ◌≡◌ {A = ℕ} 0 1 = cc in absurd (omega arith)

-- a test that did not refuse
not_refused : {p : Program} (b : Bool) (n : ℕ) (t : Checked) → refused_if b n t ≡ accepted p → (b ≡ false) × (t ≡ accepted p)
unfolding refused_if
not_refused true n t e = (cc, cc)
not_refused false n t e = (refl, e)

-- what is known of an accepted text
pub record Passed (s : List ℕ) (p : Program) : Type 0 where
  pub procs : List (Proc Name)
  pub next : ℕ
  pub is : procedures s ≡ read procs next
  pub small : Each ProcSmall procs
  pub size : total proc_size procs ≤ nodes_room
  pub limited : Limited procs
  pub right : wrong_names procs ≡ false
  pub numbered : p ≡ number_program procs

tested-passed :
    (s : List ℕ)
    → length s ≤ most_bytes
    → {r : Read (List (Proc Name))}
    → procedures s ≡ r
    → Given s (ItemsRead ProcSmall proc_size 0) r
    → (p : Program)
    → tested r ≡ accepted p
    → Passed s p
unfolding tested
tested-passed s few is is_faulty p e = refused_not_accepted e
tested-passed s few is (is_read {a = ps} h q) p e =
    let (limits, e₁) = not_refused (over_limits ps) 5 _ e in
    let (names, e₂) = not_refused (wrong_names ps) 6 _ e₁ in
    let (_, e₃) = not_refused (wrong_jump ps) 7 _ e₂ in
    let (_, e₄) = not_refused (wrong_end ps) for_end _ e₃ in
    record {
      procs = ps;
      next = _;
      is = is;
      small = q.small;
      size = let t = q.takes in omega arith;
      limited = limits_kept ps limits;
      right = names;
      numbered = cc;
    }

pub accepted-passed : (s : List ℕ) (p : Program) → check_text s ≡ accepted p → Passed s p
unfolding check_text
accepted-passed s p e =
    chosen (λ (c : Checked). c ≡ accepted p → Passed s p) (ltb most_bytes (length s))
    (λ _. refused_not_accepted)
    (λ short. tested-passed s (ltb-false _ _ short) refl (procedures-given s) p)
    e

pub passed_well_formed : {s : List ℕ} {p : Program} → Passed s p → WellFormed p
passed_well_formed a = rw a.numbered (number_program_well_formed a.procs a.small a.size a.limited (names-kept a.procs a.right))

pub accepted_well_formed : (s : List ℕ) (p : Program) → check_text s ≡ accepted p → WellFormed p
accepted_well_formed s p e = passed_well_formed (accepted-passed s p e)
