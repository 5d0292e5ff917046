-- Where a well-formed program's words stand: the next command's five words and its expressions, and `vanish` past the end of a procedure.
-- Assumes nothing.
use Rattle.std.specs.Prelude.{ℕ, zero, suc, ◌+◌, ◌-◌, ◌*◌, ◌<◌, ◌≤◌, ◌≡◌, refl, List, [], ◌∷◌, ◌++◌, length, get_or, take, drop, replicate}
use Rattle.std.proofs.Common.{sym, ap, ap₂, ◌∙◌, arith, length-append, lt-ltb, le-ltb}
use Rattle.std.proofs.lemmas.List.{append_assoc}
use Rattle.std.proofs.Math.ListN.{get_or-append}
use Rattle.std.proofs.Math.Seq.{split_at, get_or-append-add, drop-append-add, drop-append-le, drop-append_seam, length-take-le}
use Rattle.gil.specs.Tree.{Cmd, assign, ifgoto, call, lookup, mutate, dispose, u_sym, i_sym, return, fail, vanish}
use Rattle.gil.specs.Names.{gather, Procedure, Program}
use Rattle.gil.specs.Layout.{room}
use Rattle.gil.specs.Machine.{procedure_at}
use Rattle.gil.proofs.Theory.Gathered.{gather_append}
use Rattle.lent_words.specs.Laws.Rooms.{length-room}
use Rattle.machine_code.specs.Code.{cmd_nodes, cmd_words, command_words, procedure_words, all_commands, program_words, code_words, nodes_at, commands_room, nodes_room, procedures_room, commands_at}
use Rattle.machine_code.specs.WellFormed.{Each, none, more, CmdFits, ProcedureFits, WellFormed}
use Rattle.machine_code.specs.Mirror.{code_word}
use Rattle.machine_code.specs.declared.kinds.CommandKind.{CommandKind}
use Rattle.machine_commands.specs.declared.Command.{Command}
use Rattle.machine_commands.specs.Mirror.{vanish_command, kind_of, command_in, fetch_in}

-- a command of five words
abbrev pub of_words : List ℕ → Command
of_words ws = record { kind = kind_of (get_or ws 0 0); target = get_or ws 1 0; first = get_or ws 2 0; other = get_or ws 3 0; second = get_or ws 4 0 }

five-words : (at : ℕ) (c : Cmd ℕ) → length (cmd_words at c) ≡ 5
unfolding cmd_words
five-words at (assign x e) = refl
five-words at (ifgoto e n) = refl
five-words at (call x f e) = refl
five-words at (lookup x e q) = refl
five-words at (mutate x e q d) = refl
five-words at (dispose x e) = refl
five-words at (u_sym x j) = refl
five-words at (i_sym x j) = refl
five-words at (return e) = refl
five-words at (fail e) = refl
five-words at vanish = refl

commands-length : (at : ℕ) (cs : List (Cmd ℕ)) → length (command_words at cs) ≡ 5 * length cs
unfolding command_words
commands-length at [] = refl
commands-length at (c ∷ cs) =
    length-append (cmd_words at c) (command_words (at + length (cmd_nodes c)) cs)
    ∙ omega (arith, five-words at c, commands-length (at + length (cmd_nodes c)) cs)

procedures-length : (first : ℕ) (qs : List Procedure) → length (procedure_words first qs) ≡ 3 * length qs
unfolding procedure_words
procedures-length first [] = refl
procedures-length first (q ∷ qs) = omega (arith, procedures-length (first + length q.body) qs)

-- the words of a command behind others
command-words : (at : ℕ) (pre : List (Cmd ℕ)) (c : Cmd ℕ) (post : List (Cmd ℕ)) (j : ℕ) → j < 5
    → get_or (command_words at (pre ++ c ∷ post)) (5 * length pre + j) 0 ≡ get_or (cmd_words (at + length (gather cmd_nodes pre)) c) j 0
unfolding command_words gather
command-words at [] c post j h =
    let e : 5 * 0 + j ≡ j = omega arith in
    let f : at ≡ at + 0 = omega arith in
    ap (λ (n : ℕ). get_or (cmd_words at c ++ command_words (at + length (cmd_nodes c)) post) n 0) e
    ∙ get_or-append (cmd_words at c) (command_words (at + length (cmd_nodes c)) post) 0 j (omega (arith, five-words at c))
    ∙ ap (λ (n : ℕ). get_or (cmd_words n c) j 0) f
command-words at (x ∷ pre) c post j h =
    let at' = at + length (cmd_nodes x) in
    let e : 5 * suc (length pre) + j ≡ length (cmd_words at x) + (5 * length pre + j) = omega (arith, five-words at x) in
    let f : at + length (cmd_nodes x) + length (gather cmd_nodes pre) ≡ at + length (cmd_nodes x ++ gather cmd_nodes pre) =
    omega (arith, length-append (cmd_nodes x) (gather cmd_nodes pre)) in
    ap (λ (n : ℕ). get_or (cmd_words at x ++ command_words at' (pre ++ c ∷ post)) n 0) e
    ∙ get_or-append-add (cmd_words at x) (command_words at' (pre ++ c ∷ post)) (5 * length pre + j) 0
    ∙ command-words at' pre c post j h
    ∙ ap (λ (n : ℕ). get_or (cmd_words n c) j 0) f

-- a procedure's words behind others
no_procedure : Procedure
no_procedure = record { name = []; variables = 0; body = [] }

abbrev bodies : List Procedure → List (Cmd ℕ)
bodies qs = gather (λ q. q.body) qs

procedure-first : (first f : ℕ) (qs : List Procedure) → f < length qs
    → get_or (procedure_words first qs) (3 * f) 0 ≡ first + length (bodies (take f qs))
unfolding procedure_words gather
procedure-first first f [] h = absurd (omega arith)
procedure-first first zero (q ∷ qs) h = omega arith
procedure-first first (suc f) (q ∷ qs) h =
    let e : 3 * suc f ≡ suc (suc (suc (3 * f))) = omega arith in
    ap (λ (n : ℕ). get_or (procedure_words first (q ∷ qs)) n 0) e
    ∙ procedure-first (first + length q.body) f qs (omega arith)
    ∙ omega (arith, length-append q.body (bodies (take f qs)))

procedure-variables : (first f : ℕ) (qs : List Procedure) → f < length qs
    → get_or (procedure_words first qs) (3 * f + 1) 0 ≡ (get_or qs f no_procedure).variables
unfolding procedure_words no_procedure
procedure-variables first f [] h = absurd (omega arith)
procedure-variables first zero (q ∷ qs) h = refl
procedure-variables first (suc f) (q ∷ qs) h =
    let e : 3 * suc f + 1 ≡ suc (suc (suc (3 * f + 1))) = omega arith in
    ap (λ (n : ℕ). get_or (procedure_words first (q ∷ qs)) n 0) e ∙ procedure-variables (first + length q.body) f qs (omega arith)

procedure-count : (first f : ℕ) (qs : List Procedure) → f < length qs
    → get_or (procedure_words first qs) (3 * f + 2) 0 ≡ length (get_or qs f no_procedure).body
unfolding procedure_words no_procedure
procedure-count first f [] h = absurd (omega arith)
procedure-count first zero (q ∷ qs) h = refl
procedure-count first (suc f) (q ∷ qs) h =
    let e : 3 * suc f + 2 ≡ suc (suc (suc (3 * f + 2))) = omega arith in
    ap (λ (n : ℕ). get_or (procedure_words first (q ∷ qs)) n 0) e ∙ procedure-count (first + length q.body) f qs (omega arith)

-- numbers and then zeros
in_room_lem : (n i : ℕ) (ws : List ℕ) → i < length ws → get_or (room n ws) i 0 ≡ get_or ws i 0
unfolding room
in_room_lem n i ws h = get_or-append ws (replicate (n - length ws) 0) 0 i h

-- the four parts of a program's words
module _ (p : Program) (ok : WellFormed p) where
  head : List ℕ
  head = length p.procedures ∷ p.main ∷ []

  procs : List ℕ
  procs = procedure_words 0 p.procedures

  cmds : List ℕ
  cmds = command_words nodes_at (all_commands p)

  nodes : List ℕ
  nodes = gather cmd_nodes (all_commands p)

  procs-few : length procs ≤ procedures_room
  unfolding procs
  procs-few = omega (arith, procedures-length 0 p.procedures, ok.few_procedures)

  cmds-few : length cmds ≤ commands_room
  unfolding cmds
  cmds-few = omega (arith, commands-length nodes_at (all_commands p), ok.few_commands)

  nodes-few : length nodes ≤ nodes_room
  unfolding nodes
  nodes-few = ok.few_nodes

  part1 : List ℕ
  part1 = head ++ room procedures_room procs

  part2 : List ℕ
  part2 = part1 ++ room commands_room cmds

  split : program_words p ≡ part2 ++ room nodes_room nodes
  unfolding program_words part2 part1 head procs cmds nodes
  split = refl

  length1 : length part1 ≡ commands_at
  unfolding part1 head
  length1 = omega (arith, length-append head (room procedures_room procs), length-room procedures_room procs procs-few)

  length2 : length part2 ≡ nodes_at
  unfolding part2
  length2 = length-append part1 (room commands_room cmds) ∙ omega (arith, length1, length-room commands_room cmds cmds-few)

  pub program-length : length (program_words p) ≡ code_words
  program-length =
      ap length split
      ∙ length-append part2 (room nodes_room nodes)
      ∙ omega (arith, length2, length-room nodes_room nodes nodes-few)

  in_part2 : (i : ℕ) → i < nodes_at → get_or (program_words p) i 0 ≡ get_or part2 i 0
  in_part2 i h = ap (λ (l : List ℕ). get_or l i 0) split ∙ get_or-append part2 (room nodes_room nodes) 0 i (omega (arith, length2))

  procs-at : (i : ℕ) → i < length procs → get_or (program_words p) (2 + i) 0 ≡ get_or procs i 0
  unfolding part2 part1 head
  procs-at i h =
      in_part2 (2 + i) (omega (arith, procs-few))
      ∙ get_or-append part1 (room commands_room cmds) 0 (2 + i) (omega (arith, length1, procs-few))
      ∙ get_or-append-add head (room procedures_room procs) i 0
      ∙ in_room_lem procedures_room i procs h

  cmds-at : (i : ℕ) → i < length cmds → get_or (program_words p) (commands_at + i) 0 ≡ get_or cmds i 0
  unfolding part2
  cmds-at i h =
      let e : commands_at + i ≡ length part1 + i = omega (arith, length1) in
      in_part2 (commands_at + i) (omega (arith, cmds-few))
      ∙ ap (λ (n : ℕ). get_or (part1 ++ room commands_room cmds) n 0) e
      ∙ get_or-append-add part1 (room commands_room cmds) i 0
      ∙ in_room_lem commands_room i cmds h

  nodes-at : (i : ℕ) → i ≤ length nodes → drop (nodes_at + i) (program_words p) ≡ drop i nodes ++ replicate (nodes_room - length nodes) 0
  unfolding room
  nodes-at i h =
      let e : nodes_at + i ≡ length part2 + i = omega (arith, length2) in
      ap₂ (λ (n : ℕ) (l : List ℕ). drop n l) e split
      ∙ drop-append-add part2 (room nodes_room nodes) i
      ∙ drop-append-le i nodes (replicate (nodes_room - length nodes) 0) h

  -- a command among all
  module _ (pre : List (Cmd ℕ)) (c : Cmd ℕ) (post : List (Cmd ℕ)) (all : all_commands p ≡ pre ++ c ∷ post) where
    fewer : length pre < 512
    fewer = omega (arith, ok.few_commands, ap length all, length-append pre (c ∷ post))

    word : (j : ℕ) → j < 5 → get_or (program_words p) (commands_at + 5 * length pre + j) 0 ≡ get_or (cmd_words (nodes_at + length (gather cmd_nodes pre)) c) j 0
    unfolding cmds
    word j h =
        let e : commands_at + 5 * length pre + j ≡ commands_at + (5 * length pre + j) = omega arith in
        ap (λ (n : ℕ). get_or (program_words p) n 0) e
        ∙ cmds-at (5 * length pre + j)
        (omega (arith, commands-length nodes_at (all_commands p), ap length all, length-append pre (c ∷ post)))
        ∙ ap (λ (l : List (Cmd ℕ)). get_or (command_words nodes_at l) (5 * length pre + j) 0) all
        ∙ command-words nodes_at pre c post j h

    pub command-is : command_in (program_words p) (commands_at + 5 * length pre) ≡ of_words (cmd_words (nodes_at + length (gather cmd_nodes pre)) c)
    unfolding command_in
    command-is =
        let e : commands_at + 5 * length pre ≡ commands_at + 5 * length pre + 0 = omega arith in
        let w0 : get_or (program_words p) (commands_at + 5 * length pre) 0 ≡ get_or (cmd_words (nodes_at + length (gather cmd_nodes pre)) c) 0 0 =
        ap (λ (n : ℕ). get_or (program_words p) n 0) e ∙ word 0 (omega arith) in
        simp (lt-ltb (commands_at + 5 * length pre) 10798 (omega (arith, fewer)))
        (five (ap kind_of w0) (word 1 (omega arith)) (word 2 (omega arith)) (word 3 (omega arith)) (word 4 (omega arith)))
      where
        five : {a a' : CommandKind} {b d e f b' d' e' f' : ℕ} → a ≡ a' → b ≡ b' → d ≡ d' → e ≡ e' → f ≡ f'
            → ◌≡◌ {A = Command} (record { kind = a; target = b; first = d; other = e; second = f })
            (record { kind = a'; target = b'; first = d'; other = e'; second = f' })
        five p q r s t = λ i. record { kind = p i; target = q i; first = r i; other = s i; second = t i }

    pub nodes_are : drop (nodes_at + length (gather cmd_nodes pre)) (program_words p)
        ≡ cmd_nodes c ++ (gather cmd_nodes post ++ replicate (nodes_room - length (gather cmd_nodes (all_commands p))) 0)
    unfolding nodes gather
    nodes_are =
        let g : gather cmd_nodes (all_commands p) ≡ gather cmd_nodes pre ++ (cmd_nodes c ++ gather cmd_nodes post) =
        ap (gather cmd_nodes) all ∙ gather_append cmd_nodes pre (c ∷ post) in
        nodes-at (length (gather cmd_nodes pre))
        (omega (arith, ap length g, length-append (gather cmd_nodes pre) (cmd_nodes c ++ gather cmd_nodes post)))
        ∙ ap (λ (l : List ℕ). drop (length (gather cmd_nodes pre)) l ++ replicate (nodes_room - length nodes) 0) g
        ∙ ap (λ (l : List ℕ). l ++ replicate (nodes_room - length nodes) 0)
        (drop-append_seam (gather cmd_nodes pre) (cmd_nodes c ++ gather cmd_nodes post))
        ∙ append_assoc (cmd_nodes c) (gather cmd_nodes post) (replicate (nodes_room - length nodes) 0)

-- the command that stands at a place, with its expressions
pub record FetchedAs (code : List ℕ) (variables procedures : ℕ) (c : Cmd ℕ) (m : Command) : Type 0 where
  pub at : ℕ
  pub rest : List ℕ
  pub words : m ≡ of_words (cmd_words at c)
  pub nodes : drop at code ≡ cmd_nodes c ++ rest
  pub fits : CmdFits variables procedures c

each_at : {A : Type 0} {P : A → Type 0} {l : List A} (d : A) (i : ℕ) → i < length l → Each P l → P (get_or l i d)
each_at d i h none = absurd (omega arith)
each_at d zero h (more x r) = x
each_at d (suc i) h (more x r) = each_at d i (omega arith) r

module _ (p : Program) (ok : WellFormed p) (f : ℕ) (there : f < length p.procedures) where
  pub procedure-fits : ProcedureFits (length p.procedures) (procedure_at p f)
  unfolding procedure_at
  procedure-fits = each_at _ f there ok.procedures

  -- one procedure's commands are among all
  pub body-few : length (procedure_at p f).body ≤ 512
  unfolding all_commands gather procedure_at no_procedure
  body-few =
      let q = procedure_at p f in
      let a = bodies (take f p.procedures) in
      let r = bodies (drop (suc f) p.procedures) in
      let e : bodies p.procedures ≡ a ++ (q.body ++ r) =
      ap (λ (l : List Procedure). bodies l) (split_at p.procedures f no_procedure there)
      ∙ gather_append (λ q. q.body) (take f p.procedures) (q ∷ drop (suc f) p.procedures) in
      omega (arith, ok.few_commands, ap length e, length-append a (q.body ++ r), length-append q.body r)

  code_word_lem : (i : ℕ) → i < 3 * length p.procedures → code_word (program_words p) (2 + i) ≡ get_or (procedure_words 0 p.procedures) i 0
  unfolding code_word procs
  code_word_lem i h =
      simp (lt-ltb (2 + i) code_words (omega (arith, ok.few_procedures)))
      (procs-at p ok i (omega (arith, procedures-length 0 p.procedures)))

  count-is : code_word (program_words p) (3 * f + 4) ≡ length (procedure_at p f).body
  unfolding procedure_at no_procedure
  count-is =
      let e : 3 * f + 4 ≡ 2 + (3 * f + 2) = omega arith in
      ap (code_word (program_words p)) e ∙ code_word_lem (3 * f + 2) (omega arith) ∙ procedure-count 0 f p.procedures there

  -- how many variables a frame of the procedure has
  pub variables-is : code_word (program_words p) (3 * f + 3) ≡ (procedure_at p f).variables
  unfolding procedure_at no_procedure
  variables-is =
      let e : 3 * f + 3 ≡ 2 + (3 * f + 1) = omega arith in
      ap (code_word (program_words p)) e ∙ code_word_lem (3 * f + 1) (omega arith) ∙ procedure-variables 0 f p.procedures there

  first-is : code_word (program_words p) (3 * f + 2) ≡ length (bodies (take f p.procedures))
  first-is =
      let e : 3 * f + 2 ≡ 2 + 3 * f = omega arith in
      ap (code_word (program_words p)) e ∙ code_word_lem (3 * f) (omega arith) ∙ procedure-first 0 f p.procedures there ∙ omega arith

  module _ (k : ℕ) where
    -- past the end of the procedure
    pub past_end : length (procedure_at p f).body ≤ k → fetch_in (program_words p) f k ≡ vanish_command
    unfolding fetch_in
    past_end h = simp (count-is, le-ltb k (length (procedure_at p f).body) h)

    module _ (h : k < length (procedure_at p f).body) where
      cmd : Cmd ℕ
      cmd = get_or (procedure_at p f).body k vanish

      pre : List (Cmd ℕ)
      pre = bodies (take f p.procedures) ++ take k (procedure_at p f).body

      post : List (Cmd ℕ)
      post = drop (suc k) (procedure_at p f).body ++ bodies (drop (suc f) p.procedures)

      pre-length : length pre ≡ length (bodies (take f p.procedures)) + k
      unfolding pre
      pre-length =
          length-append (bodies (take f p.procedures)) (take k (procedure_at p f).body)
          ∙ omega (arith, length-take-le k (procedure_at p f).body (omega arith))

      all : all_commands p ≡ pre ++ cmd ∷ post
      unfolding all_commands gather pre post cmd procedure_at no_procedure
      all =
          let a = bodies (take f p.procedures) in
          let b = take k (procedure_at p f).body in
          let d = drop (suc k) (procedure_at p f).body in
          let r = bodies (drop (suc f) p.procedures) in
          ap (λ (l : List Procedure). bodies l) (split_at p.procedures f no_procedure there)
          ∙ gather_append (λ q. q.body) (take f p.procedures) (procedure_at p f ∷ drop (suc f) p.procedures)
          ∙ ap (λ (l : List (Cmd ℕ)). a ++ (l ++ r)) (split_at (procedure_at p f).body k vanish h)
          ∙ ap (λ (l : List (Cmd ℕ)). a ++ l) (append_assoc b (cmd ∷ d) r)
          ∙ sym (append_assoc a b (cmd ∷ (d ++ r)))

      pub fetch_as :
          FetchedAs (program_words p) (procedure_at p f).variables (length p.procedures) (get_or (procedure_at p f).body k vanish)
          (fetch_in (program_words p) f k)
      unfolding fetch_in cmd
      fetch_as =
          record {
            at = nodes_at + length (gather cmd_nodes pre);
            rest = gather cmd_nodes post ++ replicate (nodes_room - length (gather cmd_nodes (all_commands p))) 0;
            words =
                simp (count-is, lt-ltb k (length (procedure_at p f).body) h, first-is)
                (ap (λ (n : ℕ). command_in (program_words p) (commands_at + 5 * n)) (sym pre-length) ∙ command-is p ok pre cmd post all);
            nodes = nodes_are p ok pre cmd post all;
            fits = each_at vanish k h procedure-fits.commands;
          }
