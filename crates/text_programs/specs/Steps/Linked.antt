-- The loop that links, over stored procedures; linked, they are document 01's. Assumes nothing.
use Rattle.std.specs.Prelude.{ℕ, zero, suc, ◌+◌, ◌-◌, ◌≤◌, ◌<◌, min}
use Rattle.std.specs.Prelude.{◌≡◌, ◌||◌, take, get_or, eqb}
use Rattle.std.proofs.Math.Path.{refl, sym, ap}
use Rattle.std.proofs.Common.{◌∙◌, add-one, eq-eqb, ne_eqb, get_or-set_same, get_or-set_other, set-set, get_or-take, take_all}
use Rattle.std.proofs.Math.Bool.{Bool, true, false, not}
use mathlib.Core.List.{List, [], ◌∷◌, ◌++◌, map, map-append}
use Rattle.std.proofs.Common.{arith}
use Rattle.std.proofs.Math.ListN.{length, set, length-set, length-map, get_or-map}
use Rattle.std.proofs.Math.Seq.{sets, length-sets}
use Rattle.gil.specs.Text.{bytes, same}
use Rattle.gil.specs.Tree.{Cmd, assign, ifgoto, call, lookup, mutate, dispose, u_sym, i_sym, return, fail, vanish, Proc, Name}
use Rattle.gil.specs.Names.{any, gather, has, place_of, with_names, repeated, cmd_calls, proc_vars, properties, proc_names, wrong_names, rename_expr, rename_cmd, Procedure, number_proc, number_program}
use Rattle.machine_code.specs.Code.{expr_words, cmd_nodes, cmd_words, command_words, procedure_words, call_kind, code_words, command_size, commands_at, nodes_at, assign_kind, command_at, dispose_kind, fail_kind, i_sym_kind, jump_kind, lookup_kind, mutate_kind, procedures_at, return_kind, u_sym_kind, vanish_kind}
use Rattle.machine_code.specs.WellFormed.{Each, none, more}
use Rattle.machine_code.proofs.Accepted.{Limited}
use Rattle.machine_code.proofs.Accepted.Lists.{or_false, each_to, each_both, each-gather}
use Rattle.machine_code.proofs.Accepted.Places.{place_of-below, with_names-has}
use Rattle.gil.specs.Numbers.{most_commands, most_procedures}
use Rattle.text_words.specs.Laws.Words.{same-is}
use Rattle.text_tokens.specs.Mirror.Seen.{name_at}
use Rattle.text_names.specs.declared.Names.{Names}
use Rattle.text_names.specs.Mirror.Tables.{Kept, number_in, known}
use Rattle.text_names.specs.Laws.Distinct.{distinct-is, few-distinct}
use Rattle.text_forms.specs.Laws.Stores.{sets-append, set-sets, sets_swap}
use Rattle.text_procedures.specs.Mirror.Lists.{body_stored}
use Rattle.text_procedures.specs.Mirror.Words.{proc_of, bodies, program_stored}
use Rattle.text_procedures.specs.Mirror.Procedures.{calls_of}
use Rattle.text_procedures.specs.Laws.Lists.{five-words}
use Rattle.text_procedures.specs.Laws.Words.{three-words, proc_is}
use Rattle.text_programs.specs.Mirror.Linked.{relink, relink_proc, callee_in, nowhere, Links, link_command}

-- the words with `k` commands linked, from command `i` on
unfoldable pub link_from : (ℕ → ℕ) → List ℕ → ℕ → ℕ → List ℕ
link_from g ws i zero = ws
link_from g ws i (suc k) = link_from g (link_command g ws i) (suc i) k

pub link_call : (g : ℕ → ℕ) (ws : List ℕ) (i : ℕ) → get_or ws (command_at i) 0 ≡ call_kind → link_command g ws i ≡ set ws (command_at i + 3) (g (get_or ws (command_at i + 3) 0))
unfolding link_command
link_call g ws i e = rw (eq-eqb (get_or ws (command_at i) 0) call_kind e, link_command)

pub link_other : (g : ℕ → ℕ) (ws : List ℕ) (i : ℕ) → (get_or ws (command_at i) 0 ≡ call_kind → ⊥) → link_command g ws i ≡ ws
unfolding link_command
link_other g ws i e = rw (ne_eqb (get_or ws (command_at i) 0) call_kind e, link_command)

-- reads and stores among words stored in a row
below : (l : List ℕ) (i j : ℕ) (ws : List ℕ) → i < j → get_or (sets l j ws) i 0 ≡ get_or l i 0
below l i j [] h = refl
below l i j (x ∷ ws) h = below (set l j x) i (suc j) ws (omega arith) ∙ get_or-set_other l j i x 0 (λ e. omega (arith, e))

first_word : (l : List ℕ) (p a : ℕ) (ws : List ℕ) → p < length l → get_or (sets l p (a ∷ ws)) p 0 ≡ a
first_word l p a ws h = below (set l p a) p (suc p) ws (omega arith) ∙ get_or-set_same l p a 0 h

first_store : (l : List ℕ) (p a v : ℕ) (ws : List ℕ) → set (sets l p (a ∷ ws)) p v ≡ sets l p (v ∷ ws)
first_store l p a v ws = set-sets (set l p a) p v (suc p) ws (omega arith) ∙ ap (λ (m : List ℕ). sets m (suc p) ws) (set-set l p a v)

fourth : (p : ℕ) → p + 3 ≡ suc (suc (suc p))
fourth p = omega arith

fourth-word : (l : List ℕ) (p a b c d : ℕ) (ws : List ℕ) → p + 5 ≤ length l → get_or (sets l p (a ∷ b ∷ c ∷ d ∷ ws)) (p + 3) 0 ≡ d
fourth-word l p a b c d ws h =
    ap (λ (n : ℕ). get_or (sets l p (a ∷ b ∷ c ∷ d ∷ ws)) n 0) (fourth p)
    ∙ first_word (sets l p (a ∷ b ∷ c ∷ [])) (suc (suc (suc p))) d ws (omega (arith, length-sets l p (a ∷ b ∷ c ∷ [])))

fourth-store : (l : List ℕ) (p a b c d v : ℕ) (ws : List ℕ) → set (sets l p (a ∷ b ∷ c ∷ d ∷ ws)) (p + 3) v ≡ sets l p (a ∷ b ∷ c ∷ v ∷ ws)
fourth-store l p a b c d v ws = ap (λ (n : ℕ). set (sets l p (a ∷ b ∷ c ∷ d ∷ ws)) n v) (fourth p) ∙ first_store (sets l p (a ∷ b ∷ c ∷ [])) (suc (suc (suc p))) d v ws

-- one command linked
module _ (g : ℕ → ℕ) (l : List ℕ) (i : ℕ) (h : command_at i + command_size ≤ length l) where
  other : (k : ℕ) (ws : List ℕ) → (k ≡ call_kind → ⊥) → link_command g (sets l (command_at i) (k ∷ ws)) i ≡ sets l (command_at i) (k ∷ ws)
  other k ws ne = link_other g (sets l (command_at i) (k ∷ ws)) i (λ e. ne (sym (first_word l (command_at i) k ws (omega arith)) ∙ e))

  called : (x at f : ℕ) → link_command g (sets l (command_at i) (call_kind ∷ x ∷ at ∷ f ∷ 0 ∷ [])) i ≡ sets l (command_at i) (call_kind ∷ x ∷ at ∷ g f ∷ 0 ∷ [])
  called x at f =
      link_call g (sets l (command_at i) (call_kind ∷ x ∷ at ∷ f ∷ 0 ∷ [])) i (first_word l (command_at i) call_kind (x ∷ at ∷ f ∷ 0 ∷ []) (omega arith))
      ∙ ap (λ (v : ℕ). set (sets l (command_at i) (call_kind ∷ x ∷ at ∷ f ∷ 0 ∷ [])) (command_at i + 3) (g v)) (fourth-word l (command_at i) call_kind x at f (0 ∷ []) h)
      ∙ fourth-store l (command_at i) call_kind x at f (g f) (0 ∷ [])

  one-linked : (at : ℕ) (r : Cmd ℕ) → link_command g (sets l (command_at i) (cmd_words at r)) i ≡ sets l (command_at i) (cmd_words at (relink g r))
  unfolding cmd_words relink
  one-linked at (assign x e) = other assign_kind (x ∷ at ∷ 0 ∷ 0 ∷ []) (λ z. omega (arith, z))
  one-linked at (ifgoto e n) = other jump_kind (n ∷ at ∷ 0 ∷ 0 ∷ []) (λ z. omega (arith, z))
  one-linked at (call x f e) = called x at f
  one-linked at (lookup x e q) = other lookup_kind (x ∷ at ∷ q ∷ 0 ∷ []) (λ z. omega (arith, z))
  one-linked at (mutate x e q d) = other mutate_kind (x ∷ at ∷ q ∷ (at + length (expr_words e)) ∷ []) (λ z. omega (arith, z))
  one-linked at (dispose x e) = other dispose_kind (x ∷ at ∷ 0 ∷ 0 ∷ []) (λ z. omega (arith, z))
  one-linked at (u_sym x j) = other u_sym_kind (x ∷ 0 ∷ j ∷ 0 ∷ []) (λ z. omega (arith, z))
  one-linked at (i_sym x j) = other i_sym_kind (x ∷ 0 ∷ j ∷ 0 ∷ []) (λ z. omega (arith, z))
  one-linked at (return e) = other return_kind (0 ∷ at ∷ 0 ∷ 0 ∷ []) (λ z. omega (arith, z))
  one-linked at (fail e) = other fail_kind (0 ∷ at ∷ 0 ∷ 0 ∷ []) (λ z. omega (arith, z))
  one-linked at vanish = other vanish_kind (0 ∷ 0 ∷ 0 ∷ 0 ∷ []) (λ z. omega (arith, z))

-- linking keeps the words of expressions, and the counts
module _ (g : ℕ → ℕ) where
  nodes-same : (r : Cmd ℕ) → cmd_nodes (relink g r) ≡ cmd_nodes r
  unfolding cmd_nodes relink
  nodes-same (assign x e) = refl
  nodes-same (ifgoto e n) = refl
  nodes-same (call x f e) = refl
  nodes-same (lookup x e q) = refl
  nodes-same (mutate x e q d) = refl
  nodes-same (dispose x e) = refl
  nodes-same (u_sym x j) = refl
  nodes-same (i_sym x j) = refl
  nodes-same (return e) = refl
  nodes-same (fail e) = refl
  nodes-same vanish = refl

  pub nodes-linked : (rs : List (Cmd ℕ)) → gather cmd_nodes (map (relink g) rs) ≡ gather cmd_nodes rs
  unfolding gather
  nodes-linked [] = refl
  nodes-linked (r ∷ rs) = ap (λ (l : List ℕ). l ++ gather cmd_nodes (map (relink g) rs)) (nodes-same r) ∙ ap (λ (l : List ℕ). cmd_nodes r ++ l) (nodes-linked rs)

  pub bodies-linked : (qs : List Procedure) → bodies (map (relink_proc g) qs) ≡ map (relink g) (bodies qs)
  unfolding gather relink_proc
  bodies-linked [] = refl
  bodies-linked (q ∷ qs) = ap (λ (l : List (Cmd ℕ)). map (relink g) q.body ++ l) (bodies-linked qs) ∙ sym (map-append (relink g) q.body (bodies qs))

  pub procedures-linked : (first : ℕ) (qs : List Procedure) → procedure_words first (map (relink_proc g) qs) ≡ procedure_words first qs
  unfolding procedure_words relink_proc
  procedures-linked first [] = refl
  procedures-linked first (q ∷ qs) =
      ap (λ (n : ℕ). first ∷ q.variables ∷ n ∷ procedure_words (first + n) (map (relink_proc g) qs)) (length-map q.body (relink g))
      ∙ ap (λ (l : List ℕ). first ∷ q.variables ∷ length q.body ∷ l) (procedures-linked (first + length q.body) qs)

  -- all commands linked, one after another
  commands-linked : (l : List ℕ) (i at : ℕ) (rs : List (Cmd ℕ)) → command_at (i + length rs) ≤ length l → link_from g (sets l (command_at i) (command_words at rs)) i (length rs) ≡ sets l (command_at i) (command_words at (map (relink g) rs))
  unfolding command_words link_from
  commands-linked l i at [] h = refl
  commands-linked l i at (r ∷ rs) h =
      ap (λ (m : List ℕ). link_from g (link_command g m i) (suc i) (length rs)) (apart (cmd_words at r) (five-words at r))
      ∙ ap (λ (m : List ℕ). link_from g m (suc i) (length rs)) (one-linked g (sets l (command_at (suc i)) (command_words n rs)) i (omega (arith, length-sets l (command_at (suc i)) (command_words n rs))) at r)
      ∙ ap (λ (m : List ℕ). link_from g m (suc i) (length rs)) (sym (sets_swap l (command_at i) (cmd_words at (relink g r)) (command_at (suc i)) (command_words n rs) (omega (arith, five-words at (relink g r)))))
      ∙ commands-linked (sets l (command_at i) (cmd_words at (relink g r))) (suc i) n rs (omega (arith, length-sets l (command_at i) (cmd_words at (relink g r))))
      ∙ ap (λ (m : ℕ). sets (sets l (command_at i) (cmd_words at (relink g r))) m (command_words n (map (relink g) rs))) (step (relink g r))
      ∙ sym (sets-append l (command_at i) (cmd_words at (relink g r)) (command_words n (map (relink g) rs)))
      ∙ ap (λ (ns : List ℕ). sets l (command_at i) (cmd_words at (relink g r) ++ command_words (at + length ns) (map (relink g) rs))) (sym (nodes-same r))
    where
      n : ℕ
      n = at + length (cmd_nodes r)

      step : (r : Cmd ℕ) → command_at (suc i) ≡ command_at i + length (cmd_words at r)
      step r = omega (arith, five-words at r)

      apart : (ws : List ℕ) → length ws ≡ command_size → sets l (command_at i) (ws ++ command_words n rs) ≡ sets (sets l (command_at (suc i)) (command_words n rs)) (command_at i) ws
      apart ws e =
          let z : command_at i + length ws ≡ command_at (suc i) = omega arith in
          sets-append l (command_at i) ws (command_words n rs)
          ∙ ap (λ (m : ℕ). sets (sets l (command_at i) ws) m (command_words n rs)) z
          ∙ sets_swap l (command_at i) ws (command_at (suc i)) (command_words n rs) (omega arith)

  program-linked : (code₀ : List ℕ) (qs : List Procedure) → length code₀ ≡ code_words → length (bodies qs) ≤ most_commands → length qs ≤ most_procedures → link_from g (program_stored code₀ qs) 0 (length (bodies qs)) ≡ program_stored code₀ (map (relink_proc g) qs)
  unfolding program_stored body_stored
  program-linked code₀ qs l few small =
      ap (λ (m : List ℕ). link_from g m 0 (length (bodies qs))) (sym (sets_swap base procedures_at (procedure_words 0 qs) commands_at (command_words nodes_at (bodies qs)) (omega (arith, three-words 0 qs))))
      ∙ commands-linked (sets base procedures_at (procedure_words 0 qs)) 0 nodes_at (bodies qs) (omega (arith, length-sets base procedures_at (procedure_words 0 qs), length-sets code₀ nodes_at (gather cmd_nodes (bodies qs))))
      ∙ sets_swap base procedures_at (procedure_words 0 qs) commands_at (command_words nodes_at (map (relink g) (bodies qs))) (omega (arith, three-words 0 qs))
      ∙ ap (λ (ws : List ℕ). sets (sets (sets code₀ nodes_at ws) commands_at (command_words nodes_at (map (relink g) (bodies qs)))) procedures_at (procedure_words 0 qs)) (sym (nodes-linked (bodies qs)))
      ∙ ap (λ (rs : List (Cmd ℕ)). sets (sets (sets code₀ nodes_at (gather cmd_nodes rs)) commands_at (command_words nodes_at rs)) procedures_at (procedure_words 0 qs)) (sym (bodies-linked qs))
      ∙ ap (sets (sets (sets code₀ nodes_at (gather cmd_nodes (bodies (map (relink_proc g) qs)))) commands_at (command_words nodes_at (bodies (map (relink_proc g) qs)))) procedures_at) (sym (procedures-linked 0 qs))
    where
      base : List ℕ
      base = sets code₀ nodes_at (gather cmd_nodes (bodies qs))

-- the loop over the commands
module _ (g : ℕ → ℕ) (commands : ℕ) where
  command-long : (ws : List ℕ) (i : ℕ) → length (link_command g ws i) ≡ length ws
  unfolding link_command
  command-long ws i = pick (eqb (get_or ws (command_at i) 0) call_kind)
    where
      pick : (b : Bool) → length {A = ℕ} (elim b [ true ↦ set ws (command_at i + 3) (g (get_or ws (command_at i + 3) 0)) | false ↦ ws ]) ≡ length ws
      pick true = length-set ws (command_at i + 3) (g (get_or ws (command_at i + 3) 0))
      pick false = refl

  from-long : (ws : List ℕ) (i k : ℕ) → length (link_from g ws i k) ≡ length ws
  unfolding link_from
  from-long ws i zero = refl
  from-long ws i (suc k) = from-long (link_command g ws i) (suc i) k ∙ command-long ws i

  pub link_start : (ws : List ℕ) → link_from g ws 0 commands ≡ link_from g ws 0 (commands - 0)
  link_start ws = let e : commands ≡ commands - 0 = omega arith in ap (link_from g ws 0) e

  pub link_more : (ws ws' : List ℕ) (i : ℕ) → i < commands → ws' ≡ link_command g ws i → link_from g ws i (commands - i) ≡ link_from g ws' (i + 1) (commands - (i + 1))
  unfolding link_from
  link_more ws ws' i h e =
      let z : commands - i ≡ suc (commands - (i + 1)) = omega arith in
      ap (link_from g ws i) z
      ∙ ap (λ (m : List ℕ). link_from g m (suc i) (commands - (i + 1))) (sym e)
      ∙ ap (λ (n : ℕ). link_from g ws' n (commands - (i + 1))) (sym (add-one i))

  pub link_end : (ws : List ℕ) (i : ℕ) → commands ≤ i → link_from g ws i (commands - i) ≡ ws
  unfolding link_from
  link_end ws i h = let z : commands - i ≡ 0 = omega arith in ap (link_from g ws i) z

pub links-all : (s : List ℕ) (calls procs : Names) (commands : ℕ) (code code' : List ℕ) → link_from (callee_in s calls procs) code 0 commands ≡ code' → Links s calls procs commands code code'
links-all s calls procs commands code code' e =
    record {
      long = ap length (sym e) ∙ from-long (callee_in s calls procs) commands code 0 commands;
      words = λ code₀ qs l c m few small nodes.
          sym e
          ∙ ap (λ (ws : List ℕ). link_from (callee_in s calls procs) ws 0 commands) c
          ∙ ap (link_from (callee_in s calls procs) (program_stored code₀ qs) 0) m
          ∙ program-linked (callee_in s calls procs) code₀ qs l few small;
    }

-- the linked procedures are document 01's
name-at : (w : Name) (ns : List Name) (d : Name) → place_of w ns < length ns → get_or ns (place_of w ns) d ≡ w
unfolding place_of
name-at w [] d h = absurd (omega arith)
name-at w (n ∷ ns) d h = at (same w n) refl h (name-at w ns d)
  where
    at : (t : Bool) → same w n ≡ t → elim t [ true ↦ 0 | false ↦ suc (place_of w ns) ] < suc (length ns) → (place_of w ns < length ns → get_or ns (place_of w ns) d ≡ w) → get_or (n ∷ ns) (elim t [ true ↦ 0 | false ↦ suc (place_of w ns) ]) d ≡ w
    at true e l f = sym (same-is w n e)
    at false e l f = f (omega arith)

map_each : {A B : Type 0} {f g : A → B} {l : List A} → Each (λ a. f a ≡ g a) l → map f l ≡ map g l
map_each none = refl
map_each {f = f} {g = g} (more {a} {l} e es) = ap (λ b. b ∷ map f l) e ∙ ap (λ t. g a ∷ t) (map_each es)

map-map : {A B C : Type 0} (g : B → C) (f : A → B) (l : List A) → map g (map f l) ≡ map (λ a. g (f a)) l
map-map g f [] = refl
map-map g f (a ∷ l) = ap (λ t. g (f a) ∷ t) (map-map g f l)

relink_rename : (g : ℕ → ℕ) (v p f k : Name → ℕ) (c : Cmd Name) → Each (λ w. g (f w) ≡ k w) (cmd_calls c) → relink g (rename_cmd v p f c) ≡ rename_cmd v p k c
unfolding relink rename_cmd cmd_calls
relink_rename g v p f k (assign x e) h = refl
relink_rename g v p f k (ifgoto e n) h = refl
relink_rename g v p f k (call x w e) (more h hs) = ap (λ (n : ℕ). call (v x) n (rename_expr v e)) h
relink_rename g v p f k (lookup x e q) h = refl
relink_rename g v p f k (mutate x e q d) h = refl
relink_rename g v p f k (dispose x e) h = refl
relink_rename g v p f k (u_sym x j) h = refl
relink_rename g v p f k (i_sym x j) h = refl
relink_rename g v p f k (return e) h = refl
relink_rename g v p f k (fail e) h = refl
relink_rename g v p f k vanish h = refl

relink_proc_lem : (g : ℕ → ℕ) (p f k : Name → ℕ) (r : Proc Name) → Each (λ c. Each (λ w. g (f w) ≡ k w) (cmd_calls c)) r.body → relink_proc g (number_proc p f r) ≡ number_proc p k r
unfolding relink_proc number_proc
relink_proc_lem g p f k r h =
    ap (λ (b : List (Cmd ℕ)). record { name = r.name; variables = length (proc_vars r); body = b })
    (map-map (relink g) (rename_cmd (λ w. place_of w (proc_vars r)) p f) r.body
    ∙ map_each (each_to (relink_rename g (λ w. place_of w (proc_vars r)) p f k) h))

-- Where refusals 5 and 6 are not given: `limited` is `limits_kept` (crates/machine_code/proofs/Accepted.antt) of `over_limits ps ≡ false`; `kq` and `kc`
-- are `kept-procs` and `kept-calls` of specs/Steps/Verdict.antt, so `Tells.names` and `Tells.calls` from empty tables.
module _ (s : List ℕ) (calls procs : Names) (ps : List (Proc Name)) (limited : Limited ps) (right : wrong_names ps ≡ false) (kq : Kept s most_procedures procs (with_names [] (proc_names ps))) (kc : Kept s most_procedures calls (with_names [] (gather calls_of ps))) where
  tests : (repeated (proc_names ps) ≡ false) × (any (λ f. not (has f (proc_names ps))) (gather calls_of ps) ≡ false)
  unfolding wrong_names
  tests =
      let unknown : Bool = any (λ f. not (has f (proc_names ps))) (gather calls_of ps) in
      or_false (repeated (proc_names ps)) unknown (or_false (repeated (proc_names ps) || unknown) (not (has (bytes "main") (proc_names ps))) right).0

  as_many : length (proc_names ps) ≡ length ps
  unfolding proc_names
  as_many = length-map ps (λ r. r.name)

  few_callees : length (with_names [] (gather calls_of ps)) ≤ most_procedures
  few_callees = omega (arith, few-distinct (gather calls_of ps) (proc_names ps) tests.1, as_many, limited.few_procedures)

  pub all-procs : known s procs ≡ proc_names ps
  unfolding known
  all-procs =
      let own = distinct-is (proc_names ps) tests.0 in
      let e : min procs.count procs.most ≡ min most_procedures (length (with_names [] (proc_names ps))) = omega (arith, kq.counted, kq.most) in
      ap (λ (n : ℕ). map (name_at s) (take n procs.places)) e ∙ kq.named ∙ ap (take most_procedures) own ∙ take_all most_procedures (proc_names ps) (omega (arith, as_many, limited.few_procedures))

  all-calls : map (name_at s) (take (length (with_names [] (gather calls_of ps))) calls.places) ≡ with_names [] (gather calls_of ps)
  all-calls =
      let e : length (with_names [] (gather calls_of ps)) ≡ min most_procedures (length (with_names [] (gather calls_of ps))) = omega (arith, few_callees) in
      ap (λ (n : ℕ). map (name_at s) (take n calls.places)) e ∙ kc.named ∙ take_all most_procedures (with_names [] (gather calls_of ps)) few_callees

  callee_named : (w : Name) → has w (with_names [] (gather calls_of ps)) ≡ true → name_at s (get_or calls.places (place_of w (with_names [] (gather calls_of ps))) nowhere) ≡ w
  callee_named w h =
      let fs = with_names [] (gather calls_of ps) in
      let k = place_of w fs in
      let low : k < length fs = place_of-below w fs h in
      ap (name_at s) (sym (get_or-take (length fs) calls.places k nowhere low))
      ∙ sym (get_or-map (name_at s) (take (length fs) calls.places) k nowhere)
      ∙ ap (λ (l : List Name). get_or l k (name_at s nowhere)) all-calls
      ∙ name-at w fs (name_at s nowhere) low

  callee_is : (w : Name) → has w (with_names [] (gather calls_of ps)) ≡ true → callee_in s calls procs (number_in most_procedures (with_names [] (gather calls_of ps)) w) ≡ place_of w (proc_names ps)
  unfolding callee_in number_in
  callee_is w h =
      ap (λ (l : List Name). place_of (name_at s (get_or calls.places (place_of w l) nowhere)) (known s procs)) (take_all most_procedures (with_names [] (gather calls_of ps)) few_callees)
      ∙ ap (λ (v : Name). place_of v (known s procs)) (callee_named w h)
      ∙ ap (place_of w) all-procs

  each-called : Each (λ r. Each (λ c. Each (λ w. has w (with_names [] (gather calls_of ps)) ≡ true) (cmd_calls c)) r.body) ps
  each-called = each_to (λ r. each-gather cmd_calls r.body) (each-gather calls_of ps (with_names-has [] (gather calls_of ps)))

  pub linked-is : map (relink_proc (callee_in s calls procs)) (map (proc_of (properties ps) (with_names [] (gather calls_of ps))) ps) ≡ (number_program ps).procedures
  unfolding number_program
  linked-is =
      map-map (relink_proc g) (proc_of (properties ps) fs) ps
      ∙ map_each (each_to (λ r h. ap (relink_proc g) (proc_is (properties ps) fs r h.0 limited.few_properties) ∙ relink_proc_lem g number (number_in most_procedures fs) (λ w. place_of w (proc_names ps)) r (each_to (λ c. each_to callee_is) h.1)) (each_both limited.few_variables each-called))
    where
      fs : List Name
      fs = with_names [] (gather calls_of ps)

      g : ℕ → ℕ
      g = callee_in s calls procs

      number : Name → ℕ
      number w = place_of w (properties ps)
