-- Why what reading a text promises is kept. Assumes nothing.
use Rattle.std.specs.Prelude.{ℕ, zero, suc, ◌≤◌, ◌<◌, min, ◌≡◌, Bool, length, take, get_or, set, replicate}
use Rattle.std.proofs.Math.Path.{refl, ap}
use Rattle.std.proofs.Common.{sym, ◌∙◌, subst, arith, take_all, get_or-take}
use mathlib.Core.List.{List, [], ◌∷◌, ◌++◌, map, append-nil}
use Rattle.std.proofs.lemmas.List.{length-replicate}
use Rattle.std.proofs.Math.ListN.{length-map, get_or-map}
use Rattle.gil.specs.Text.{bytes}
use Rattle.gil.specs.Tree.{Proc, Name}
use Rattle.gil.specs.Reading.{Read, faulty, read, procedures}
use Rattle.gil.specs.Names.{gather, place_of, with_names, distinct, properties, proc_names, proc_vars, Procedure, Program, number_proc, number_program, accepted, tested, check_text}
use Rattle.gil.specs.Calls.{text_answer, check_call}
use Rattle.gil.specs.Refusals.{refusal_number}
use Rattle.gil.specs.declared.refusals.Refusal.{Refusal}
use Rattle.gil.specs.Machine.{procedure_at}
use Rattle.machine_code.specs.Code.{cmd_nodes, program_words, code_words, nodes_room}
use Rattle.machine_code.specs.WellFormed.{Each, none, more}
use Rattle.machine_code.proofs.Accepted.{Passed, accepted-passed, passed_well_formed, once_each}
use Rattle.machine_code.proofs.Accepted.Sizes.{proc_size}
use Rattle.machine_code.proofs.Accepted.Lists.{total}
use Rattle.machine_code.proofs.Accepted.Numbered.{numbered-nodes}
use Rattle.gil.specs.Numbers.{for_form, most_bytes, most_commands, most_procedures, most_properties, most_variables}
use Rattle.text_tokens.specs.Mirror.Seen.{name_at}
use Rattle.text_names.specs.declared.Names.{Names}
use Rattle.text_names.specs.Mirror.Tables.{Kept, known, number_in, most_names}
use Rattle.text_names.specs.Laws.Distinct.{distinct-is}
use Rattle.text_procedures.specs.Mirror.Words.{proc_of, bodies, program_stored}
use Rattle.text_procedures.specs.Mirror.Procedures.{props_of, calls_of, Tells}
use Rattle.text_procedures.specs.Laws.Words.{commands-kept, nodes-kept, proc_is}
use Rattle.text_procedures.specs.Laws.Procedures.{named-gather}
use Rattle.text_programs.specs.Mirror.Linked.{relink_proc, callee_in, nowhere, Links}
use Rattle.text_programs.specs.Mirror.Reads.{Reads, Finishes}
use Rattle.text_programs.specs.Steps.Linked.{all-procs, linked-is}
use Rattle.text_programs.specs.Steps.Joined.{program-joined}
use Rattle.text_programs.specs.Steps.Verdict.{answer-read, told}
use Rattle.text_programs.specs.Mirror.Verdict.{Told}

-- a text that is refused
pub reads-refused : {s code : List ℕ} {names : Names} {r : ℕ} → r ≡ check_call s → (r ≡ 0 → ⊥) → Reads s code names r
reads-refused {s} {r = r} e h = record { answer = e; words = λ p a. absurd (h (e ∙ none p a)); named = λ p a. absurd (h (e ∙ none p a)) }
  where
    none : (p : Program) → check_text s ≡ accepted p → check_call s ≡ 0
    none p a = unfold check_call text_answer in ap text_answer a

same_read : {A : Type 0} {x y : A} {m n : ℕ} → ◌≡◌ {A = Read A} (read x m) (read y n) → x ≡ y
same_read e = cc

-- the procedures of a text within the limits, but for their callees
as_numbered : (ns fs : List Name) → length ns ≤ most_properties → (ps : List (Proc Name)) → Each (λ p. length (proc_vars p) ≤ most_variables) ps → map (proc_of ns fs) ps ≡ map (number_proc (λ w. place_of w ns) (number_in most_procedures fs)) ps
as_numbered ns fs h [] none = refl
as_numbered ns fs h (p ∷ ps) (more v vs) = ap (λ (q : Procedure). q ∷ map (proc_of ns fs) ps) (proc_is ns fs p v h) ∙ ap (λ (l : List Procedure). number_proc (λ w. place_of w ns) (number_in most_procedures fs) p ∷ l) (as_numbered ns fs h ps vs)

-- an element that is there, whatever stands for one that is not
any_default : (l : List Name) (k : ℕ) (d e : Name) → k < length l → get_or l k d ≡ get_or l k e
any_default [] k d e h = absurd (omega arith)
any_default (w ∷ l) zero d e h = refl
any_default (w ∷ l) (suc k) d e h = any_default l k d e (omega arith)

each-name : (f g : Name → ℕ) (ps : List (Proc Name)) → map (λ (q : Procedure). q.name) (map (number_proc f g) ps) ≡ map (λ (r : Proc Name). r.name) ps
unfolding number_proc
each-name f g [] = refl
each-name f g (r ∷ ps) = ap (λ (l : List Name). r.name ∷ l) (each-name f g ps)

names-numbered : (ps : List (Proc Name)) → map (λ (q : Procedure). q.name) (number_program ps).procedures ≡ proc_names ps
unfolding number_program proc_names
names-numbered ps = each-name (λ w. place_of w (properties ps)) (λ w. place_of w (proc_names ps)) ps

-- a text that is accepted
module _ {s code : List ℕ} {p₀ props k₀ calls q₀ procs : Names} {np nc : ℕ} {wide past unended : Bool} (kp : Kept s most_properties p₀ []) (kk : Kept s most_procedures k₀ []) (kq : Kept s most_procedures q₀ []) {p : Program} (a : Passed s p) (tells : Tells s p₀ props k₀ calls q₀ procs (replicate code_words 0) code np nc wide past unended a.procs) where
  pub kept-calls : Kept s most_procedures calls (with_names [] (gather calls_of a.procs))
  kept-calls = tells.calls.kept [] kk

  pub kept-procs : Kept s most_procedures procs (with_names [] (proc_names a.procs))
  kept-procs = subst (λ (l : List Name). Kept s most_procedures procs (with_names [] l)) (named-gather a.procs) (tells.names.kept [] kq)

  -- the table of procedures holds all of them
  many : length (proc_names a.procs) ≡ length a.procs
  unfolding proc_names
  many = length-map a.procs (λ r. r.name)

  all : with_names [] (proc_names a.procs) ≡ proc_names a.procs
  all = distinct-is (proc_names a.procs) (once_each a.procs a.right)

  pub count-is : procs.count ≡ length a.procs
  count-is = omega (arith, kept-procs.counted, ap length all, many, a.limited.few_procedures)

  table : map (name_at s) (take (length a.procs) procs.places) ≡ proc_names a.procs
  table =
      let d : length a.procs ≡ min most_procedures (length (with_names [] (proc_names a.procs))) = omega (arith, ap length all, many, a.limited.few_procedures) in
      ap (λ (j : ℕ). map (name_at s) (take j procs.places)) d
      ∙ kept-procs.named
      ∙ ap (take most_procedures) all
      ∙ take_all most_procedures (proc_names a.procs) (omega (arith, many, a.limited.few_procedures))

  names-all : known s procs ≡ proc_names a.procs
  names-all = all-procs s calls procs a.procs a.limited a.right kept-procs kept-calls

  pub known-count : length (known s procs) ≡ procs.count
  known-count = ap length names-all ∙ many ∙ sym count-is

  abbrev calls-all : List Name
  calls-all = with_names [] (gather calls_of a.procs)

  abbrev stored-procs : List Procedure
  stored-procs = map (proc_of (properties a.procs) calls-all) a.procs

  nodes : length (gather cmd_nodes (bodies stored-procs)) ≤ nodes_room
  nodes =
      let e : length (gather cmd_nodes (bodies stored-procs)) ≡ total proc_size a.procs = ap (λ (qs : List Procedure). length (gather cmd_nodes (bodies qs))) (as_numbered (properties a.procs) calls-all a.limited.few_properties a.procs a.limited.few_variables) ∙ numbered-nodes (λ w. place_of w (properties a.procs)) (number_in most_variables calls-all) a.procs in
      omega (arith, a.size)

  code_is : code ≡ program_stored (replicate code_words 0) stored-procs
  code_is =
      tells.words [] [] [] [] kp kk (length-replicate {A = ℕ} code_words 0) (omega (arith, nodes, nodes-kept (properties a.procs) calls-all a.procs)) a.limited.few_commands a.limited.few_procedures
      ∙ ap (λ (l : List Name). program_stored (replicate code_words 0) (map (proc_of (with_names [] l) (with_names [] (gather calls_of a.procs ++ []))) a.procs)) (append-nil (gather props_of a.procs))
      ∙ ap (λ (l : List Name). program_stored (replicate code_words 0) (map (proc_of (with_names [] (gather props_of a.procs)) (with_names [] l)) a.procs)) (append-nil (gather calls_of a.procs))
      ∙ (unfold properties distinct in refl)

  commands_are : nc ≡ length (bodies stored-procs)
  commands_are = tells.summed ∙ sym (commands-kept (properties a.procs) calls-all a.procs)

  procedures_are : map (relink_proc (callee_in s calls procs)) stored-procs ≡ p.procedures
  procedures_are = linked-is s calls procs a.procs a.limited a.right kept-procs kept-calls ∙ ap (λ (q : Program). q.procedures) (sym a.numbered)

  counted : procs.count ≡ length p.procedures
  counted = count-is ∙ sym (ap (λ (q : Program). length q.procedures) a.numbered ∙ (unfold number_program in length-map a.procs (number_proc (λ w. place_of w (properties a.procs)) (λ w. place_of w (proc_names a.procs)))))

  main-is : place_of (bytes "main") (known s procs) ≡ p.main
  main-is = ap (place_of (bytes "main")) names-all ∙ numbers a.procs ∙ ap (λ (q : Program). q.main) (sym a.numbered)
    where
      numbers : (rs : List (Proc Name)) → place_of (bytes "main") (proc_names rs) ≡ (number_program rs).main
      numbers rs = unfold number_program in refl

  pub few-commands : nc ≤ most_commands
  few-commands = let e = tells.summed in let h = a.limited.few_commands in omega arith

  pub words_are : {code' : List ℕ} → Finishes s calls procs nc code code' → code' ≡ program_words p
  words_are f =
      f.stored
      ∙ ap (λ (l : List ℕ). set (set l 0 procs.count) 1 (place_of (bytes "main") (known s procs))) (linked ∙ ap (program_stored (replicate code_words 0)) procedures_are)
      ∙ ap (λ (n : ℕ). set (set (program_stored (replicate code_words 0) p.procedures) 0 n) 1 (place_of (bytes "main") (known s procs))) counted
      ∙ ap (set (set (program_stored (replicate code_words 0) p.procedures) 0 (length p.procedures)) 1) main-is
      ∙ program-joined p (passed_well_formed a)
    where
      linked : f.linked ≡ program_stored (replicate code_words 0) (map (relink_proc (callee_in s calls procs)) stored-procs)
      linked = f.links.words (replicate code_words 0) stored-procs (length-replicate {A = ℕ} code_words 0) code_is commands_are (omega (arith, commands_are, few-commands)) (omega (arith, length-map a.procs (proc_of (properties a.procs) calls-all), a.limited.few_procedures)) nodes

  pub names_are : (k : ℕ) → k < length p.procedures → name_at s (get_or procs.places k nowhere) ≡ (procedure_at p k).name
  names_are k h =
      ap (name_at s) (sym (get_or-take (length a.procs) procs.places k nowhere (omega (arith, count-is, counted))))
      ∙ sym (get_or-map (name_at s) (take (length a.procs) procs.places) k nowhere)
      ∙ ap (λ (ns : List Name). get_or ns k (name_at s nowhere)) table
      ∙ any_default (proc_names a.procs) k (name_at s nowhere) [] (omega (arith, many, count-is, counted))
      ∙ ap (λ (ns : List Name). get_or ns k []) (sym (names-numbered a.procs))
      ∙ ap (λ (q : Program). get_or (map (λ (r : Procedure). r.name) q.procedures) k []) (sym a.numbered)
      ∙ (unfold procedure_at in get_or-map (λ (r : Procedure). r.name) p.procedures k (record { name = []; variables = 0; body = [] }))

-- the two words, after linking
pub finishes : {s code linked : List ℕ} {calls procs : Names} {commands m : ℕ} → Links s calls procs commands code linked → m ≡ place_of (bytes "main") (known s procs) → Finishes s calls procs commands code (set (set linked 0 procs.count) 1 m)
finishes {linked = linked} {procs = procs} l f = record { linked = linked; links = l; stored = ap (set (set linked 0 procs.count) 1) f }

-- a text that is a fault
pub reads-fault : {s code : List ℕ} {names : Names} → procedures s ≡ faulty → length s ≤ most_bytes → Reads s code names for_form
reads-fault {s} e short = reads-refused (answer-read s short (sym (unfold tested text_answer in ap (λ (r : Read (List (Proc Name))). text_answer (tested r)) e))) (λ z. omega (arith, z))

-- a text that was read into zeroed words, and into tables with no names
module _ {s code₀ code : List ℕ} {p₀ props k₀ calls q₀ names : Names} {np nc r n : ℕ} {wide past unended : Bool} {ps : List (Proc Name)} (ec : code₀ ≡ replicate code_words 0) (kp : Kept s most_properties p₀ []) (kk : Kept s most_procedures k₀ []) (kq : Kept s most_procedures q₀ []) (is : procedures s ≡ read ps n) (t : Tells s p₀ props k₀ calls q₀ names code₀ code np nc wide past unended ps) (short : length s ≤ most_bytes) (h : (qs : List (Proc Name)) (m : ℕ) → Told s props calls names np nc wide past unended qs → r ≡ text_answer (tested (read qs m))) where
  answered : r ≡ check_call s
  answered = answer-read s short (h ps n (told kp kk kq t) ∙ ap (λ (x : Read (List (Proc Name))). text_answer (tested x)) (sym is))

  pub reads-told : {code' : List ℕ} → (r ≡ 0 → ⊥) → Reads s code' names r
  reads-told z = reads-refused answered z

  module _ {p : Program} (a : Passed s p) where
    same : ps ≡ a.procs
    same = same_read (sym is ∙ a.is)

    tells : Tells s p₀ props k₀ calls q₀ names (replicate code_words 0) code np nc wide past unended a.procs
    tells = subst (λ (l : List ℕ). Tells s p₀ props k₀ calls q₀ names l code np nc wide past unended a.procs) ec (subst (Tells s p₀ props k₀ calls q₀ names code₀ code np nc wide past unended) same t)

  pub reads_all : {code' : List ℕ} → r ≡ 0 → (length calls.places ≡ most_names → length (known s names) ≡ names.count → nc ≤ most_commands → Finishes s calls names nc code code') → Reads s code' names 0
  reads_all {code'} z f = record { answer = sym z ∙ answered; words = words; named = λ p e. let a = accepted-passed s p e in names_are kp kk kq a (tells a) }
    where
      words : (p : Program) → check_text s ≡ accepted p → code' ≡ program_words p
      words p e = let a = accepted-passed s p e in let t' = tells a in words_are kp kk kq a t' (f (kept-calls kp kk kq a t').long (known-count kp kk kq a t') (few-commands kp kk kq a t'))

-- no refusal's number is 0
pub refused : (f : Refusal) → refusal_number f ≡ 0 → ⊥
refused Refusal.Budgets e = omega (arith, e)
refused Refusal.Lists e = omega (arith, e)
refused Refusal.Length e = omega (arith, e)
refused Refusal.Form e = omega (arith, e)
refused Refusal.Limits e = omega (arith, e)
refused Refusal.Names e = omega (arith, e)
refused Refusal.Jump e = omega (arith, e)
refused Refusal.End e = omega (arith, e)
refused Refusal.Rows e = omega (arith, e)
refused Refusal.Terms e = omega (arith, e)

-- the text by its bytes
pub at_text : {s s' code : List ℕ} {names : Names} {r : ℕ} → s' ≡ s → length s ≤ most_bytes → (length s' ≤ most_bytes → Reads s' code names r) → Reads s code names r
at_text {code = code} {names = names} {r = r} e l f = subst (λ (x : List ℕ). Reads x code names r) e (f (subst (λ (x : List ℕ). length x ≤ most_bytes) (sym e) l))

pub at_bytes : {s s' : List ℕ} {cap : ℕ} {names : Names} {all : List Name} → s' ≡ s → Kept s cap names all → Kept s' cap names all
at_bytes {cap = cap} {names = names} {all = all} e k = subst (λ (x : List ℕ). Kept x cap names all) (sym e) k
