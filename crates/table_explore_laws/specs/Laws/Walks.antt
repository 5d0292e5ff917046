-- The exploration on a program's words is document 01's: where a path stops both go on alike, so by the branches left the walk on words is `walk`,
-- and what `explore` leaves is the table and the pool of `table`, or the refusal and zeros. Assumes nothing.
use Prim.Native.Nat.{ℕ, zero, suc, ◌+◌, ◌-◌, ◌%◌, ◌<◌, ◌≤◌}
use Rattle.std.specs.Prelude.{Bool, refl, List, [], ◌∷◌, ◌++◌, length, None, Some}
use Rattle.std.proofs.Math.Bool.{true, false}
use Rattle.std.proofs.Math.Path.{◌≡◌, sym, ap}
use Rattle.std.proofs.Common.{◌∙◌, arith}
use Rattle.std.proofs.Math.Dec.{ltb, leb}
use borrow.Author.Tests.{ltb-false, le-leb, lt-leb, eq-eqb, ne_eqb}
use Rattle.gil.specs.Numbers.{most_steps, most_branches, most_terms, most_cells, for_terms}
use Rattle.gil.specs.Names.{Program}
use Rattle.gil.specs.Machine as Machine
use Rattle.gil.specs.Machine.{State, move, fork}
use Rattle.gil.specs.Rows.{Condition, Path, Row, cut_for, steps, branches}
use Rattle.gil.specs.Explore as Explore
use Rattle.gil.specs.Explore.{Explored, refused, explored, branched, turned, walk_turn, overfull, turn_in, walk_move, walk}
use Rattle.gil.specs.Pool.{pooled}
use Rattle.gil.specs.Layout.{bit, reason_code}
use Rattle.gil.proofs.Theory.Tests.{chosen}
use Rattle.gil.proofs.Theory.Trees.{trees}
use Rattle.gil.proofs.Theory.Relation.{Nexts, forks, is_true, is_false, Grows, grows_not, grows-on, grow-state}
use Rattle.gil.proofs.Theory.PoolTree.{counted, as_trees}
use Rattle.machine_code.specs.Code.{program_words}
use Rattle.machine_code.specs.WellFormed.{WellFormed}
use Rattle.machine_terms.specs.Laws.Pooled.{pooled_engine}
use Rattle.machine_commands.specs.declared.Control.{Control}
use Rattle.machine_commands.specs.declared.Next.{Next}
use Rattle.machine_commands.specs.declared.Next.TheVariants.{Fork}
use Rattle.machine_laws.specs.Laws.Moves.{StateAs}
use Rattle.table_head.specs.Mirror.{end_of, ended_in}
use Rattle.table_advance.specs.Mirror.Followed.{Spot, spot, Stopped, goes_in, cut_at, stopped_at}
use Rattle.table_path.specs.Laws.Few.{FewNext, few_fork, move-few}
use Rattle.table_path.specs.Laws.Path.{onward-steps, SpotAs, Stops, used_up, by_command, Followed, one, one_as, EndAs, end_returned, end_failed, end_vanished, end_erred, end-outcome, end-steps, Came, came_on, came_end, came_fork, came}
use Rattle.table_path.specs.Laws.Exploring.{pick_false, walk-onward, Reading, Sound, moved-reads, moved-few, counts-terms, explores}
use Rattle.table_rows.specs.Laws.Held.{a_cut}
use Rattle.table_branch.specs.Mirror.{full_in, condition_on, conditions_with}
use Rattle.table_walk.specs.Mirror.{Reached, row_in, after_first, turn_by, settle_by, fork_by, walk_in}
use Rattle.table_explore_laws.specs.Laws.Reached.{place, Tabled, ReachedAs, a_refusal, a_table, reached-before, ConditionsAs, condition-word, condition-gained, finish_as}

pick_true : {A : Type 0} (b : Bool) (x y : A) → b ≡ true → ◌≡◌ {A = A} (elim b [ true ↦ x | false ↦ y ]) x
pick_true true x y e = refl
pick_true false x y e = let z : ◌≡◌ {A = ℕ} 0 1 = cc in absurd (omega arith)

-- the walk after a refusal
walk_refused : (p : Program) (most j : ℕ) (q : Path pooled.Term) (n : ℕ) → walk pooled p most j q (refused n) ≡ refused n
unfolding walk
walk_refused p most zero q n = refl
walk_refused p most (suc j) q n = refl

-- an end finishes a row
turn_end : {e : Machine.End pooled.Term} {r : Next} (f : ℕ → Control → Control → Reached) (row : Reached) → EndAs pooled_engine e r → turn_by f row (Some r) ≡ row
unfolding turn_by
turn_end f row (end_returned h) = refl
turn_end f row (end_failed h) = refl
turn_end f row end_vanished = refl
turn_end f row (end_erred e) = refl

-- the states of a fork, and its term, stand in the pool
record ForkReads (v : pooled.World) (t : pooled.Term) (a b : State pooled.Term) : Type 0 where
  inside : place t < most_terms
  yes : Reading v a
  no : Reading v b

fork-reads : {v : pooled.World} {t : pooled.Term} {a b : State pooled.Term} {other : Machine.Next (trees counted).Term} → Nexts as_trees v (fork t a b) other
    → pooled.made v ≤ most_terms
    → ForkReads v t a b
unfolding as_trees pooled place
fork-reads (forks {a' = x} {b' = y} h ha hb) room =
    record { inside = omega (arith, h.within); yes = record { state = x; reads = ha }; no = record { state = y; reads = hb } }
fork-reads (is_true h k) room = absurd h
fork-reads (is_false h k) room = absurd h

-- where a path forks: the world and the words there, and both branches
pub record AtFork (p : Program) (budget : ℕ) (w v : pooled.World) (s a b : State pooled.Term) (t : pooled.Term) (y j : ℕ) (g : Stopped) (ca cb : Control) : Type 0 where
  pub grown : Grows as_trees w v
  pub room : pooled.made v ≤ most_terms
  pub pool : pooled_engine.WorldAs v g.pool g.count
  pub here : StateAs pooled_engine p s g.control g.store g.cells
  pub few : length s.memory.cells ≤ most_cells
  pub is_fork : g.next ≡ Some (Fork (y % 4294967296) ca cb)
  pub term : pooled_engine.TermAs t y
  pub inside : place t < most_terms
  pub yes : StateAs pooled_engine p a ca g.store g.cells
  pub no : StateAs pooled_engine p b cb g.store g.cells
  pub yes_few : length a.memory.cells ≤ most_cells
  pub no_few : length b.memory.cells ≤ most_cells
  pub yes_reads : Reading v a
  pub no_reads : Reading v b
  pub left : g.steps + suc j ≡ budget

module _ (p : Program) (ok : WellFormed p) (budget most : ℕ) (small : budget ≤ most_steps) (few : most ≤ most_branches) where
  -- from where a path begins to where it stops, whatever is done at a fork
  module _ {w : pooled.World} (cs : List (Condition pooled.Term)) (rows : List (Row pooled.Term)) {many b : ℕ} {conditions : List ℕ} (table : List ℕ)
      (t : Tabled rows table) (same : many ≡ length rows) (c : ConditionsAs b cs conditions) (branches_fit : b ≤ most_branches)
      (F : Stopped → ℕ → Control → Control → Reached)
      (fork-as : (v : pooled.World) (s a b : State pooled.Term) (t : pooled.Term) (y j : ℕ) (g : Stopped) (ca cb : Control) → AtFork p budget w v s a b t y j g ca cb
      → ReachedAs w
      (walk_turn (walk pooled p most j) v rows (turned most (record { state = s; steps = g.steps; conditions = cs }) (fork t a b)))
      (F g (y % 4294967296) ca cb)) where
    -- the command that stopped it, with the pool not overfull
    came-by : {v : pooled.World} {s : State pooled.Term} {x : Control} {store store' : List ℕ} {ds ds' : List (Machine.Cell ℕ)} {nx : Machine.Next pooled.Term}
        {r : Next} {other : Machine.Next (trees counted).Term} (pool : List ℕ) (count m j : ℕ)
        → Came pooled_engine p store ds nx r store' ds'
        → FewNext nx
        → Nexts as_trees v nx other
        → StateAs pooled_engine p s x store ds
        → length s.memory.cells ≤ most_cells
        → Grows as_trees w v
        → pooled.made v ≤ most_terms
        → pooled_engine.WorldAs v pool count
        → count ≤ most_terms
        → goes_in r count ≡ false
        → m + suc j ≡ budget
        → let f : Stopped = record { next = Some r; control = x; steps = m; store = store'; cells = ds'; pool = pool; count = count } in
        ReachedAs w (walk_turn (walk pooled p most j) v rows (turned most (record { state = s; steps = m; conditions = cs }) nx))
        (turn_by (F f) (row_in (program_words p) b conditions many table f) (Some r))
    unfolding walk_turn turned turn_by goes_in ended_in
    came-by pool count m j (came_on h) fits reads k cells grown room world low e left =
        let z : ◌≡◌ {A = Bool} true false = sym (le-leb count most_terms low) ∙ e in
        let y : ◌≡◌ {A = ℕ} 0 1 = cc in
        absurd (omega arith)
    came-by {v} {s} {x} {store} {ds = ds} pool count m j (came_end {e = e} {r = r} h) fits reads k cells grown room world low g left =
        let f : Stopped = record { next = Some r; control = x; steps = m; store = store; cells = ds; pool = pool; count = count } in
        let q : Path pooled.Term = record { state = s; steps = m; conditions = cs } in
        rw (turn_end (F f) (row_in (program_words p) b conditions many table f) h)
        (finish_as p ok grown room rows table t same q c branches_fit pool count (Some r) m k cells world
        (end-outcome pooled_engine m h) (end-steps pooled_engine m (omega arith) h))
    came-by {v} {s} {x} {store} {ds = ds} pool count m j (came_fork {t = u} {x = y} {a = a} {b = a'} {ca = ca} {cb = cb} h ha hb) (few_fork fa fb) reads k cells grown room world low g left =
        let f : Stopped =
        record { next = Some (Fork (y % 4294967296) ca cb); control = x; steps = m; store = store; cells = ds; pool = pool; count = count } in
        let held = fork-reads reads room in
        fork-as v s a a' u y j f ca cb
        (record {
          grown = grown;
          room = room;
          pool = world;
          here = k;
          few = cells;
          is_fork = refl;
          term = h;
          inside = held.inside;
          yes = ha;
          no = hb;
          yes_few = fa;
          no_few = fb;
          yes_reads = held.yes;
          no_reads = held.no;
          left = left;
        })

    -- the command that stopped it
    moved_by : {v : pooled.World} {s : State pooled.Term} {x : Control} {store store' : List ℕ} {ds ds' : List (Machine.Cell ℕ)} {nx : Machine.Next pooled.Term}
        {r : Next} {other : Machine.Next (trees counted).Term} (pool : List ℕ) (count m j : ℕ)
        → Came pooled_engine p store ds nx r store' ds'
        → FewNext nx
        → Nexts as_trees v nx other
        → StateAs pooled_engine p s x store ds
        → length s.memory.cells ≤ most_cells
        → Grows as_trees w v
        → pooled_engine.WorldAs v pool count
        → count ≡ pooled.made v
        → goes_in r count ≡ false
        → m + suc j ≡ budget
        → let f : Stopped = record { next = Some r; control = x; steps = m; store = store'; cells = ds'; pool = pool; count = count } in
        ReachedAs w (walk_move pooled p most (walk pooled p most j) (record { state = s; steps = m; conditions = cs }) rows (record { world = v; next = nx }))
        (settle_by (F f) (row_in (program_words p) b conditions many table f) many table f)
    unfolding walk_move overfull turn_in settle_by full_in
    moved_by {v} {s} {x} {store' = store'} {ds' = ds'} {r = r} pool count m j k fits reads h cells grown world counted g left =
        let f : Stopped = record { next = Some r; control = x; steps = m; store = store'; cells = ds'; pool = pool; count = count } in
        chosen
        (λ (e : Explored pooled.World pooled.Term).
        ReachedAs w e (settle_by (F f) (row_in (program_words p) b conditions many table f) many table f))
        (ltb most_terms (pooled.made v))
        (λ e. let full : ltb most_terms count ≡ true = ap (ltb most_terms) counted ∙ e in a_refusal {n = for_terms} (rw full) (λ z. absurd (omega arith)))
        (λ e.
        let free : ltb most_terms count ≡ false = ap (ltb most_terms) counted ∙ e in
        rw free
        (came-by pool count m j k fits reads h cells grown (ltb-false most_terms (pooled.made v) e) world (ltb-false most_terms count free) g left))

    stops_as : {j m : ℕ} {v : pooled.World} {s : State pooled.Term} {x : Spot} {f : Stopped} → Stops pooled_engine p j m x f
        → Sound w v s
        → SpotAs pooled_engine p v s x
        → m + j ≡ budget
        → ReachedAs w (walk pooled p most j (record { state = s; steps = m; conditions = cs }) (explored v rows))
        (settle_by (F f) (row_in (program_words p) b conditions many table f) many table f)
    unfolding walk cut_at stopped_at settle_by full_in turn_by ended_in cut_for reason_code
    stops_as {v = v} {s = s} {x = x} (used_up {n = m} e) i h left =
        let q : Path pooled.Term = record { state = s; steps = m; conditions = cs } in
        rw e
        (finish_as p ok i.grown i.terms rows table t same q c branches_fit x.pool x.count None m h.state i.cells h.world
        (a_cut {why = steps}) refl)
    stops_as {v = v} {s = s} {x = x} (by_command {j = j} {n = m} g e) i h left =
        let k = one_as pooled_engine p ok h in
        let reads = moved-reads p ok i in
        let o = one pooled_engine p x in
        rw e
        (moved_by o.pool o.count m j (came pooled_engine k.next) (move-few pooled p s i.cells v) reads.moves.nexts h.state i.cells
        (grows-on as_trees i.grown reads.moves.grows) k.world
        (counts-terms (move pooled p v s).world o.pool o.count k.world (moved-few p ok i h)) g left)

    pub settles : {n : ℕ} {s : State pooled.Term} {f : Stopped} → n ≤ budget → Followed pooled_engine p (Sound w) (budget - n) n w s f
        → ReachedAs w (walk pooled p most (budget - n) (record { state = s; steps = n; conditions = cs }) (explored w rows))
        (settle_by (F f) (row_in (program_words p) b conditions many table f) many table f)
    settles low g =
        rw (walk-onward p most cs rows g.onward) (stops_as g.stops g.still g.stands (omega (arith, onward-steps g.onward)))

  -- a branch in words
  pub record BranchAs (k n b : ℕ) (conditions : List ℕ) (x : Spot) (w : pooled.World) (s : State pooled.Term) (cs : List (Condition pooled.Term)) : Type 0 where
    pub taken : n ≤ budget
    pub left : b + k ≡ most
    pub gained : ConditionsAs b cs conditions
    pub sound : Sound w w s
    pub stands : SpotAs pooled_engine p w s x

  abbrev pub Walks : ℕ → Type 0
  Walks k =
      (n b : ℕ) (conditions : List ℕ) (x : Spot) (many : ℕ) (table : List ℕ) (w : pooled.World) (s : State pooled.Term) (cs : List (Condition pooled.Term))
      (rows : List (Row pooled.Term))
      → BranchAs k n b conditions x w s cs
      → Tabled rows table
      → many ≡ length rows
      → ReachedAs w (walk pooled p most (budget - n) (record { state = s; steps = n; conditions = cs }) (explored w rows))
      (walk_in (program_words p) budget k n b conditions x many table)

  turned-cut : (q : Path pooled.Term) (t : pooled.Term) (a b : State pooled.Term) → leb most (length q.conditions) ≡ true
      → turned most q (fork t a b) ≡ Explore.finishes (cut_for branches q)
  unfolding turned
  turned-cut q t a b e = pick_true (leb most (length q.conditions)) _ _ e

  turned-forks : (q : Path pooled.Term) (t : pooled.Term) (a b : State pooled.Term) → leb most (length q.conditions) ≡ false
      → turned most q (fork t a b) ≡ Explore.forks (branched t true a q) (branched t false b q)
  unfolding turned
  turned-forks q t a b e = pick_false (leb most (length q.conditions)) _ _ e

  -- no branch is left: the path is cut
  no-branch : {w v : pooled.World} {s a a' : State pooled.Term} {t : pooled.Term} {y j : ℕ} {g : Stopped} {ca cb : Control} (cs : List (Condition pooled.Term))
      (rows : List (Row pooled.Term)) {many b : ℕ} {conditions : List ℕ} (table : List ℕ)
      → Tabled rows table
      → many ≡ length rows
      → ConditionsAs b cs conditions
      → b ≡ most
      → AtFork p budget w v s a a' t y j g ca cb
      → ReachedAs w
      (walk_turn (walk pooled p most j) v rows (turned most (record { state = s; steps = g.steps; conditions = cs }) (fork t a a')))
      (row_in (program_words p) b conditions many table g)
  unfolding walk_turn cut_for ended_in end_of reason_code
  no-branch {v = v} {s} {a} {a'} {t = u} {g = g} cs rows {many} {b} {conditions} table t same c e h =
      let q : Path pooled.Term = record { state = s; steps = g.steps; conditions = cs } in
      let full : leb most (length cs) ≡ true = le-leb most (length cs) (omega (arith, c.size)) in
      rw (turned-cut q u a a' full)
      (finish_as p ok h.grown h.room rows table t same q c (omega arith) g.pool g.count g.next g.steps h.here h.few h.pool
      (rw h.is_fork (a_cut {why = branches})) (rw h.is_fork))

  -- the second branch, where the first was not refused
  then_as : {v : pooled.World} {e : Explored pooled.World pooled.Term} {r : Reached} (f : Reached → Reached) (j : ℕ) (q : Path pooled.Term)
      → ReachedAs v e r
      → ((u : pooled.World) (rows : List (Row pooled.Term)) → Grows as_trees v u → pooled.made u ≤ most_terms → pooled_engine.WorldAs u r.pool r.count
      → Tabled rows r.table → r.rows ≡ length rows → ReachedAs u (walk pooled p most j q (explored u rows)) (f r))
      → ReachedAs v (walk pooled p most j q e) (after_first r f)
  unfolding after_first
  then_as {r = r} f j q (a_refusal {n} e z) k =
      rw (walk_refused p most j q n, ne_eqb r.refusal 0 (λ d. z (sym e ∙ d))) (a_refusal e z)
  then_as {r = r} f j q (a_table {w = u} {rows = rows} e g room pool t n) k =
      rw (eq-eqb r.refusal 0 e) (reached-before g (k u rows g room pool t n))

  module _ {k : ℕ} (rest : Walks k) {w v : pooled.World} {s a a' : State pooled.Term} {t : pooled.Term} {y j : ℕ} {g : Stopped} {ca cb : Control}
      (cs : List (Condition pooled.Term)) {b : ℕ} {conditions : List ℕ} (c : ConditionsAs b cs conditions) (branches_left : b + suc k ≡ most)
      (h : AtFork p budget w v s a a' t y j g ca cb) where
    -- one branch, in a world that may have grown
    branch_as : (truth : Bool) (s' : State pooled.Term) (c' : Control) (u : pooled.World) (pool : List ℕ) (count many : ℕ) (table : List ℕ) (rows : List (Row pooled.Term))
        → StateAs pooled_engine p s' c' g.store g.cells
        → length s'.memory.cells ≤ most_cells
        → Reading u s'
        → pooled.made u ≤ most_terms
        → pooled_engine.WorldAs u pool count
        → Tabled rows table
        → many ≡ length rows
        → ReachedAs u (walk pooled p most j (branched t truth s' (record { state = s; steps = g.steps; conditions = cs })) (explored u rows))
        (walk_in (program_words p) budget k ((g.steps + 1) % 4294967296) (b + 1)
        (conditions_with b (condition_on (y % 4294967296) (bit truth)) conditions) (spot c' g.store g.cells pool count) many table)
    unfolding branched
    branch_as truth s' c' u pool count many table rows stands cells reads room world t' same =
        let next : (g.steps + 1) % 4294967296 ≡ suc g.steps = omega (arith, h.left) in
        let left : budget - suc g.steps ≡ j = omega (arith, h.left) in
        let word = condition-word t y truth h.term h.inside in
        rw (next, ← left)
        (rest (suc g.steps) (b + 1) (conditions_with b (condition_on (y % 4294967296) (bit truth)) conditions) (spot c' g.store g.cells pool count) many table u s'
        (cs ++ (record { term = t; truth = truth } ∷ [])) rows
        (record {
          taken = omega (arith, h.left);
          left = omega arith;
          gained = condition-gained (record { term = t; truth = truth }) (condition_on (y % 4294967296) (bit truth)) c (omega arith) word;
          sound = record { grown = grows_not as_trees; terms = room; cells = cells; reading = reads };
          stands = record { state = stands; world = world };
        })
        t' same)

    -- "true branch first, to its end, and then the false one"
    forked : (rows : List (Row pooled.Term)) (many : ℕ) (table : List ℕ)
        → Tabled rows table
        → many ≡ length rows
        → ReachedAs w
        (walk_turn (walk pooled p most j) v rows (turned most (record { state = s; steps = g.steps; conditions = cs }) (fork t a a')))
        (fork_by (program_words p) budget (walk_in (program_words p) budget k) b conditions many table g (y % 4294967296) ca cb)
    unfolding walk_turn fork_by bit
    forked rows many table t' same =
        let q : Path pooled.Term = record { state = s; steps = g.steps; conditions = cs } in
        let free : leb most (length cs) ≡ false = lt-leb most (length cs) (omega (arith, c.size)) in
        rw (turned-forks q t a a' free)
        (reached-before h.grown
        (then_as _ j (branched t false a' q)
        (branch_as true a ca v g.pool g.count many table rows h.yes h.yes_few h.yes_reads h.room h.pool t' same)
        (λ u rows₁ grown room pool t₁ same₁.
        branch_as false a' cb u _ _ _ _ rows₁ h.no h.no_few
        (record { state = h.no_reads.state; reads = grow-state grown h.no_reads.reads }) room pool t₁ same₁)))

  -- the walk on words
  pub walks : (k : ℕ) → Walks k
  unfolding walk_in pooled_engine
  walks zero n b conditions x many table w s cs rows h t same =
      settles cs rows table t same h.gained (omega (arith, h.left)) (λ g t ca cb. row_in (program_words p) b conditions many table g)
      (λ v s a a' u y j g ca cb f. no-branch cs rows table t same h.gained (omega (arith, h.left)) f)
      h.taken (explores p ok w (budget - n) n w s x h.sound h.stands)
  walks (suc k) n b conditions x many table w s cs rows h t same =
      settles cs rows table t same h.gained (omega (arith, h.left))
      (λ g. fork_by (program_words p) budget (walk_in (program_words p) budget k) b conditions many table g)
      (λ v s a a' u y j g ca cb f. forked (walks k) cs h.gained h.left f rows many table t same)
      h.taken (explores p ok w (budget - n) n w s x h.sound h.stands)
