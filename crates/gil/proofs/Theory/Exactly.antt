-- Demand 3 on trees: after every command exactly one of the rows and waiting branches has its conditions met, and the plain run goes
-- through it. By counting: the number of those met is 1 at the start, and every command keeps it. Assumes nothing.
use Prim.Native.Nat.{ℕ, zero, suc, ◌+◌}
use Rattle.std.specs.Prelude.{Bool, ◌&&◌, ◌≡◌, length, leb}
use Rattle.std.proofs.Math.Bool.{true, false, not}
use Rattle.std.proofs.Math.Path.{refl, sym, ap}
use Rattle.std.proofs.Common.{ap₂, ◌∙◌, subst}
use mathlib.Core.List.{List, [], ◌∷◌, ◌++◌, map}
use native.Mathlib.Omega.{arith}
use Rattle.gil.specs.Names.{Program}
use Rattle.gil.specs.Values.{Constant, boolean, truth_in, same_truth}
use Rattle.gil.specs.Machine.{State, End, Next, on, ends, fork, move, start}
use Rattle.gil.specs.Rows.{Condition, ended, cut, Reason, steps, branches, Path, Row, row_of, cut_for}
use Rattle.gil.specs.Plain.{plain, ran, ran_to, run_for, plain_run}
use Rattle.gil.specs.Explore.{stepped, branched, turned, Exploring, finish, waiting_on, on_turn, overfull, turn_in, after_move, advance, begin, after_commands}
use Rattle.gil.specs.Explore as Explore
use Rattle.gil.specs.Accounts.{put_value, put_end, put_outcome, put_in, Accounted}
use Rattle.gil.proofs.Theory.Tests.{chosen, no_false, and_true, and_assoc, and_left, and_right}
use Rattle.gil.proofs.Theory.Trees.{Tree, trees, value_in, tree_value}
use Rattle.gil.proofs.Theory.PutIn.{holds, same_end, plainly, plain_value}
use Rattle.gil.proofs.Theory.Counting.{one, many, many-append, All, nil, cons, all_append, all-at, only_one, halves}
use Rattle.gil.proofs.Theory.TreePlain.{Alike, alike-start, Follows, plain_next, follow, put-alike}
use Rattle.gil.proofs.Theory.TreePlain as TreePlain

module _ (count : List Tree → ℕ) (p : Program) (inputs : List ℕ) where
  -- the plain run goes, after `n` steps, through a state that is this one on the inputs
  record Along (n : ℕ) (s : State Tree) : Type 0 where
    through : State ⊥
    alike : Alike count inputs s through
    runs : (k : ℕ) → plain_run p inputs (n + k) ≡ run_for inputs p k n through

  begin_along : Along 0 (start p)
  unfolding plain_run
  begin_along =
      record {
        through = start p;
        alike = alike-start count inputs p;
        runs = λ (k : ℕ). let e : 0 + k ≡ k = omega arith in ap (λ (j : ℕ). run_for inputs p j 0 (start p)) e;
      }

  -- a row is the plain run with that row's steps
  abbrev Ran : Row Tree → Type 0
  Ran r = plain_run p inputs r.steps ≡ put_in (tree_value inputs) r

  -- where the run goes by the next command: on, to the row that it ends in, or to one side of a fork
  data After (n : ℕ) (s : State Tree) : Next Tree → Type 0 where
    moves : {s' : State Tree} → Along (suc n) s' → After n s (on s')
    stops :
        {e : End Tree}
        → ((cs : List (Condition Tree)) → Ran (row_of (ended e) (suc n) (record { state = s; steps = n; conditions = cs })))
        → After n s (ends e)
    is_true : {t : Tree} {a b : State Tree} → value_in inputs t ≡ boolean true → Along (suc n) a → After n s (fork t a b)
    is_false : {t : Tree} {a b : State Tree} → value_in inputs t ≡ boolean false → Along (suc n) b → After n s (fork t a b)

  along_next :
      {n : ℕ} {s : State Tree} (h : Along n s) {s' : State Tree} (s₁ : State ⊥)
      → plain_next inputs p h.through ≡ on s₁ → Alike count inputs s' s₁ → Along (suc n) s'
  unfolding run_for ran_to plain plain_next
  along_next {n} h s₁ e a = record { through = s₁; alike = a; runs = runs }
    where
      runs : (k : ℕ) → plain_run p inputs (suc n + k) ≡ run_for inputs p k (suc n) s₁
      runs k =
          let d : suc n + k ≡ n + suc k = omega arith in
          ap (plain_run p inputs) d ∙ h.runs (suc k) ∙ ap (ran_to (run_for inputs p k) n h.through) e

  ran-cut :
      {n : ℕ} {s : State Tree} → Along n s
      → (why : Reason) (cs : List (Condition Tree)) → Ran (cut_for why (record { state = s; steps = n; conditions = cs }))
  unfolding run_for cut_for put_outcome row_of put_in ran
  ran-cut {n} {s} h why cs =
      let e : n ≡ n + 0 = omega arith in
      ap (plain_run p inputs) e ∙ h.runs 0
      ∙ sym (put-alike count inputs n (cut why) (cut steps) n n cs s h.through refl refl h.alike)

  ran-end :
      {n : ℕ} {s : State Tree} (h : Along n s) (e : End Tree) (e' : End ⊥)
      → plain_next inputs p h.through ≡ ends e' → put_end (put_value (tree_value inputs)) e ≡ e'
      → (cs : List (Condition Tree)) → Ran (row_of (ended e) (suc n) (record { state = s; steps = n; conditions = cs }))
  unfolding run_for ran_to plain plain_next put_outcome row_of
  ran-end {n} {s} h e e' next i cs =
      let d : suc n ≡ n + 1 = omega arith in
      ap (plain_run p inputs) d ∙ h.runs 1 ∙ ap (ran_to (run_for inputs p 0) n h.through) next
      ∙ sym (put-alike count inputs (suc n) (ended e) (ended e') n n cs s h.through (ap ended i) (ap ended (same_end (put_value plainly) plain_value e')) h.alike)

  follows :
      {n : ℕ} {s : State Tree} (h : Along n s) {x : Next Tree} {y : Next ⊥}
      → plain_next inputs p h.through ≡ y → Follows count inputs x y → After n s x
  follows h e (TreePlain.goes {s'} a) = moves (along_next h s' e a)
  follows h e (TreePlain.stops {e = d} {e'} i) = stops (ran-end h d e' e i)
  follows h e (TreePlain.is_true {s} t a) = is_true t (along_next h s e a)
  follows h e (TreePlain.is_false {s} t a) = is_false t (along_next h s e a)

  after : {n : ℕ} {s : State Tree} (w : List Tree) → Along n s → After n s (move (trees count) p w s).next
  after {s} w h = follows h refl (follow count inputs p w s h.through h.alike)

  -- conditions that the inputs meet
  abbrev met : List (Condition Tree) → Bool
  met = holds (tree_value inputs)

  row_met : Row Tree → Bool
  row_met r = met r.conditions

  path_met : Path Tree → Bool
  path_met q = met q.conditions

  abbrev gained : List (Condition Tree) → Tree → Bool → List (Condition Tree)
  gained cs t b = cs ++ (record { term = t; truth = b } ∷ [])

  -- a fork splits the conditions: exactly one side is met where the path was
  met-gained :
      (cs : List (Condition Tree)) (t : Tree) (b : Bool) → met (gained cs t b) ≡ met cs && same_truth b (truth_in (value_in inputs t))
  unfolding holds tree_value
  met-gained [] t b = and_true (same_truth b (truth_in (value_in inputs t)))
  met-gained (c ∷ cs) t b = and_assoc (same_truth c.truth (truth_in (value_in inputs c.term))) _ _ _ (met-gained cs t b)

  split : (cs : List (Condition Tree)) (t : Tree) → one (met (gained cs t true)) + one (met (gained cs t false)) ≡ one (met cs)
  split cs t =
      ap₂ (λ (x y : Bool). one x + one y) (met-gained cs t true) (met-gained cs t false) ∙ halves (met cs) (truth_in (value_in inputs t))

  met-before : (cs : List (Condition Tree)) (t : Tree) (b : Bool) → met (gained cs t b) ≡ true → met cs ≡ true
  met-before cs t b h = and_left (met cs) _ (sym (met-gained cs t b) ∙ h)

  met-last :
      (cs : List (Condition Tree)) (t : Tree) (b : Bool) → met (gained cs t b) ≡ true → same_truth b (truth_in (value_in inputs t)) ≡ true
  met-last cs t b h = and_right (met cs) _ (sym (met-gained cs t b) ∙ h)

  -- what each kind of next command leaves of `After`
  after_on : {n : ℕ} {s s' : State Tree} → After n s (on s') → Along (suc n) s'
  after_on (moves h) = h

  after-ends :
      {n : ℕ} {s : State Tree} {e : End Tree} → After n s (ends e)
      → (cs : List (Condition Tree)) → Ran (row_of (ended e) (suc n) (record { state = s; steps = n; conditions = cs }))
  after-ends (stops h) = h

  after_true :
      {n : ℕ} {s : State Tree} {t : Tree} {a b : State Tree}
      → After n s (fork t a b) → same_truth true (truth_in (value_in inputs t)) ≡ true → Along (suc n) a
  unfolding same_truth truth_in
  after_true (is_true e h) x = h
  after_true (is_false e h) x = no_false x (ap truth_in e)

  after_false :
      {n : ℕ} {s : State Tree} {t : Tree} {a b : State Tree}
      → After n s (fork t a b) → same_truth false (truth_in (value_in inputs t)) ≡ true → Along (suc n) b
  unfolding same_truth truth_in
  after_false (is_true e h) x = no_false x (ap (λ (c : Constant). not (truth_in c)) e)
  after_false (is_false e h) x = h

  -- what every command keeps: one is met; a row that is met is the run; a branch that is met waits where the run goes through
  abbrev RowRan : Row Tree → Type 0
  RowRan r = row_met r ≡ true → Ran r

  abbrev PathAlong : Path Tree → Type 0
  PathAlong q = path_met q ≡ true → Along q.steps q.state

  data Kept : Exploring (List Tree) Tree → Type 0 where
    stopped : {n : ℕ} → Kept (Explore.stopped n)
    exploring :
        {w : List Tree} {rs : List (Row Tree)} {qs : List (Path Tree)}
        → many row_met rs + many path_met qs ≡ 1 → All RowRan rs → All PathAlong qs → Kept (Explore.exploring w rs qs)

  module _ (w : List Tree) {rs : List (Row Tree)} {qs : List (Path Tree)} (ran : All RowRan rs) (along : All PathAlong qs) where
    finish-kept :
        (r : Row Tree) → many row_met rs + (one (row_met r) + many path_met qs) ≡ 1 → RowRan r → Kept (waiting_on qs (finish w rs r))
    unfolding finish waiting_on many
    finish-kept r e h =
        let d : many row_met (rs ++ (r ∷ [])) + many path_met qs ≡ 1 = omega (arith, many-append row_met rs (r ∷ [])) in
        chosen (λ x. Kept (waiting_on qs x)) (leb 64 (length rs)) (λ t. stopped) (λ t. exploring d (all_append ran (cons h nil)) along)

    forks-kept :
        (most : ℕ) (q : Path Tree) (t : Tree) (a b : State Tree)
        → many row_met rs + (one (path_met q) + many path_met qs) ≡ 1 → PathAlong q
        → (path_met q ≡ true → After q.steps q.state (fork t a b)) → Kept (on_turn w rs qs (turned most q (fork t a b)))
    unfolding turned on_turn many row_met path_met branched cut_for row_of
    forks-kept most q t a b e so_far next =
        let cs = q.conditions in
        let d : one (met (gained cs t true)) + one (met (gained cs t false)) ≡ one (met cs) = split cs t in
        let c : many row_met rs + (one (met (gained cs t true)) + (one (met (gained cs t false)) + many path_met qs)) ≡ 1 = omega arith in
        let on_true : met (gained cs t true) ≡ true → Along (suc q.steps) a =
        λ h. after_true (next (met-before cs t true h)) (met-last cs t true h) in
        let on_false : met (gained cs t false) ≡ true → Along (suc q.steps) b =
        λ h. after_false (next (met-before cs t false h)) (met-last cs t false h) in
        chosen (λ x. Kept (on_turn w rs qs x)) (leb most (length cs))
        (λ t. finish-kept _ e (λ h. ran-cut (so_far h) branches cs))
        (λ t. exploring c ran (cons on_true (cons on_false along)))

    turned-kept :
        (most : ℕ) (q : Path Tree) (x : Next Tree)
        → many row_met rs + (one (path_met q) + many path_met qs) ≡ 1 → PathAlong q
        → (path_met q ≡ true → After q.steps q.state x) → Kept (on_turn w rs qs (turned most q x))
    unfolding turned on_turn many row_met path_met stepped row_of
    turned-kept most q (on s) e so_far next = exploring e ran (cons (λ h. after_on (next h)) along)
    turned-kept most q (ends d) e so_far next = finish-kept _ e (λ h. after-ends (next h) q.conditions)
    turned-kept most q (fork t a b) e so_far next = forks-kept most q t a b e so_far next

  advance-kept : (budget most : ℕ) {x : Exploring (List Tree) Tree} → Kept x → Kept (advance (trees count) p budget most x)
  unfolding advance after_move turn_in many cut_for row_of row_met path_met
  advance-kept budget most stopped = stopped
  advance-kept budget most (exploring e ran nil) = exploring e ran nil
  advance-kept budget most (exploring {w} {rs} e ran (cons {a = q} {l = qs} h along)) =
      let m = move (trees count) p w q.state in
      chosen Kept (leb budget q.steps)
      (λ t. finish-kept w ran along _ e (λ i. ran-cut (h i) steps q.conditions))
      (λ t. chosen Kept (overfull (trees count) p m.world) (λ u. stopped)
      (λ u. turned-kept m.world ran along most q m.next e h (λ i. after w (h i))))

  commands-kept : (budget most : ℕ) (w : List Tree) (n : ℕ) → Kept (after_commands (trees count) p budget most w n)
  unfolding after_commands begin many one holds path_met
  commands-kept budget most w zero = exploring refl nil (cons (λ h. begin_along) nil)
  commands-kept budget most w (suc n) = advance-kept budget most (commands-kept budget most w n)

  -- waiting branches read as cut
  many-cut : (qs : List (Path Tree)) → many row_met (map (cut_for steps) qs) ≡ many path_met qs
  unfolding many row_met path_met cut_for row_of
  many-cut [] = refl
  many-cut (q ∷ qs) = ap (λ (k : ℕ). one (path_met q) + k) (many-cut qs)

  all-cut : {qs : List (Path Tree)} → All PathAlong qs → All RowRan (map (cut_for steps) qs)
  unfolding row_met path_met cut_for row_of
  all-cut nil = nil
  all-cut (cons {a = q} h hs) = cons (λ i. ran-cut (h i) steps q.conditions) (all-cut hs)

  accounted : (rs : List (Row Tree)) → many row_met rs ≡ 1 → All RowRan rs → Accounted met (tree_value inputs) (plain_run p inputs) rs
  unfolding row_met
  accounted rs e ran =
      let o = only_one row_met rs e in
      record {
        place = o.place;
        row = o.found;
        stands = o.stands;
        met = o.passes;
        only = o.only;
        ran = all-at ran o.stands o.passes;
      }

  kept-accounted :
      {w : List Tree} {rs : List (Row Tree)} {qs : List (Path Tree)}
      → Kept (Explore.exploring w rs qs) → Accounted met (tree_value inputs) (plain_run p inputs) (rs ++ map (cut_for steps) qs)
  kept-accounted (exploring {rs} {qs} e ran along) =
      let all = many-append row_met rs (map (cut_for steps) qs) ∙ ap (λ (k : ℕ). many row_met rs + k) (many-cut qs) ∙ e in
      accounted (rs ++ map (cut_for steps) qs) all (all_append ran (all-cut along))

  -- demand 3 on trees
  pub tree_accounted :
      (budget most : ℕ) (w₀ : List Tree) (n : ℕ) (w : List Tree) (rs : List (Row Tree)) (qs : List (Path Tree))
      → after_commands (trees count) p budget most w₀ n ≡ Explore.exploring w rs qs
      → Accounted (holds (tree_value inputs)) (tree_value inputs) (plain_run p inputs) (rs ++ map (cut_for steps) qs)
  tree_accounted budget most w₀ n w rs qs e = kept-accounted (subst Kept e (commands-kept budget most w₀ n))
