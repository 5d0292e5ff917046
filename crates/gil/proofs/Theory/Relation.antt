-- Two models side by side, as source 003 relates its concrete and symbolic states: what it takes for their worlds and terms to be
-- related, and the one lemma from there to `move`: related states move to related results. Each action on the memory has a lemma of its
-- own, which `exec`'s cases cite: a change of an action is an edit of Machine and of that lemma. Assumes nothing.
use Rattle.std.specs.Prelude.{ℕ, zero, suc, Bool, ◌&&◌, ◌||◌, ◌≡◌, length, get_or, set, replicate}
use Rattle.std.proofs.Math.Bool.{true, false}
use Rattle.std.proofs.Math.Path.{refl, subst⁻¹}
use Rattle.std.proofs.Common.{ap, subst}
use mathlib.Core.List.{List, [], ◌∷◌, ◌++◌}
use Rattle.std.proofs.Math.Option.{Option, none, some}
use Rattle.std.proofs.Math.Dec.{ltb, leb, eqb}
use Rattle.gil.specs.Numbers.{most_cells, not_bound, wrong_sort, no_such_cell, ninth_frame, seventeenth_input, seventeenth_location, thirty_third_cell}
use Rattle.gil.specs.Tree.{Op, Expr, num, bool, var, neg, bin, Cmd, assign, ifgoto, call, lookup, mutate, dispose, u_sym, i_sym, return, fail, vanish}
use Rattle.gil.specs.Names.{Program}
use Rattle.gil.specs.Values.{Constant, number, boolean, location, Sort, numbers, booleans, sort_of, same_sort, Fit, right, wrong, unlike, fit, Value, const, term, input}
use Rattle.gil.specs.Machine
use Rattle.gil.specs.Machine.{Model, Caller, Control, Counters, Store, Cell, Memory, Answer, State, End, Next, on, ends, fork, Result, ok, err, Act, Val, Moved, making, combine, negated}
use Rattle.gil.proofs.Theory.Tests.{either}

-- lists of one length and optional things, related one by one
pub data Each {A B : Type 0} (R : A → B → Type 0) : List A → List B → Type 0 where
  nil : Each R [] []
  cons : {a : A} {b : B} {xs : List A} {ys : List B} → R a b → Each R xs ys → Each R (a ∷ xs) (b ∷ ys)

pub data Perhaps {A B : Type 0} (R : A → B → Type 0) : Option A → Option B → Type 0 where
  unbound : Perhaps R none none
  bound : {a : A} {b : B} → R a b → Perhaps R (some a) (some b)

module _ {A B : Type 0} {R : A → B → Type 0} where
  pub each-length : {xs : List A} {ys : List B} → Each R xs ys → length xs ≡ length ys
  each-length nil = refl
  each-length (cons r rs) = ap suc (each-length rs)

  pub each_append : {xs xs' : List A} {ys ys' : List B} → Each R xs ys → Each R xs' ys' → Each R (xs ++ xs') (ys ++ ys')
  each_append nil rs = rs
  each_append (cons r rs) rs' = cons r (each_append rs rs')

module _ {A B : Type 0} (R : A → B → Type 0) where
  each_set : (n : ℕ) {xs : List A} {ys : List B} {a : A} {b : B} → Each R xs ys → R a b → Each R (set xs n a) (set ys n b)
  each_set n nil r = nil
  each_set zero (cons q rs) r = cons r rs
  each_set (suc n) (cons q rs) r = cons q (each_set n rs r)

  each_get_d : (n : ℕ) {xs : List A} {ys : List B} {a : A} {b : B} → Each R xs ys → R a b → R (get_or xs n a) (get_or ys n b)
  each_get_d n nil r = r
  each_get_d zero (cons q rs) r = q
  each_get_d (suc n) (cons q rs) r = each_get_d n rs r

  each-replicate : (n : ℕ) {a : A} {b : B} → R a b → Each R (replicate n a) (replicate n b)
  each-replicate zero r = nil
  each-replicate (suc n) r = cons r (each-replicate n r)

module _ {A B : Type 0} {R Q : A → B → Type 0} (f : (a : A) (b : B) → R a b → Q a b) where
  pub each_map : (xs : List A) (ys : List B) → Each R xs ys → Each Q xs ys
  each_map xs ys nil = nil
  each_map xs ys (cons {a} {b} {xs = x} {ys = y} r rs) = cons (f a b r) (each_map x y rs)

  pub perhaps_map : (a : Option A) (b : Option B) → Perhaps R a b → Perhaps Q a b
  perhaps_map x y unbound = unbound
  perhaps_map x y (bound {a} {b} r) = bound (f a b r)

-- When worlds are related; when a term is known to have a constant's value on the other side; when two terms are related.
pub record Relation (M N : Model) : Type 1 where
  pub Worlds : M.World → N.World → Type 0
  pub Valued : M.World → M.Term → Constant → Type 0
  pub Terms : M.World → M.Term → N.Term → Type 0

module _ {M N : Model} (R : Relation M N) where
  pub data Values (w : M.World) : Value M.Term → Value N.Term → Type 0 where
    consts : {c : Constant} → Values w (const c) (const c)
    valued : {t : M.Term} {c : Constant} → R.Valued w t c → Values w (term t) (const c)
    terms : {t : M.Term} {u : N.Term} → R.Terms w t u → Values w (term t) (term u)

  pub data Cells (w : M.World) : Cell M.Term → Cell N.Term → Type 0 where
    cell :
        {l q : ℕ} {a : Value M.Term} {b : Value N.Term} → Values w a b
        → Cells w (record { location = l; property = q; value = a }) (record { location = l; property = q; value = b })

  abbrev pub Stores : M.World → Store M.Term → Store N.Term → Type 0
  Stores w = Each (Perhaps (Values w))

  pub data Memories (w : M.World) : Memory M.Term → Memory N.Term → Type 0 where
    memories :
        {k : Counters} {cs : List (Cell M.Term)} {cs' : List (Cell N.Term)} → Each (Cells w) cs cs'
        → Memories w (record { counters = k; cells = cs }) (record { counters = k; cells = cs' })

  pub data Answers (w : M.World) : Answer M.Term → Answer N.Term → Type 0 where
    answers :
        {a : Value M.Term} {b : Value N.Term} {m : Memory M.Term} {m' : Memory N.Term} → Values w a b → Memories w m m'
        → Answers w (record { value = a; memory = m }) (record { value = b; memory = m' })

  pub data States (w : M.World) : State M.Term → State N.Term → Type 0 where
    states :
        {c : Control} {ρ : Store M.Term} {ρ' : Store N.Term} {ρs : List (Store M.Term)} {ρs' : List (Store N.Term)}
        {m : Memory M.Term} {m' : Memory N.Term}
        → Stores w ρ ρ' → Each (Stores w) ρs ρs' → Memories w m m'
        → States w (record { control = c; variables = ρ; saved = ρs; memory = m }) (record { control = c; variables = ρ'; saved = ρs'; memory = m' })

  pub data Ends (w : M.World) : End M.Term → End N.Term → Type 0 where
    returned : {a : Value M.Term} {b : Value N.Term} → Values w a b → Ends w (Machine.returned a) (Machine.returned b)
    failed : {a : Value M.Term} {b : Value N.Term} → Values w a b → Ends w (Machine.failed a) (Machine.failed b)
    vanished : Ends w Machine.vanished Machine.vanished
    error : {n : ℕ} → Ends w (Machine.error n) (Machine.error n)

  -- a fork goes with a fork on a related term; or with going on, on the side that the term's truth is known to choose
  pub data Nexts (w : M.World) : Next M.Term → Next N.Term → Type 0 where
    goes : {s : State M.Term} {s' : State N.Term} → States w s s' → Nexts w (on s) (on s')
    stops : {e : End M.Term} {e' : End N.Term} → Ends w e e' → Nexts w (ends e) (ends e')
    forks :
        {t : M.Term} {u : N.Term} {a b : State M.Term} {a' b' : State N.Term}
        → R.Terms w t u → States w a a' → States w b b' → Nexts w (fork t a b) (fork u a' b')
    is_true :
        {t : M.Term} {a b : State M.Term} {s : State N.Term} → R.Valued w t (boolean true) → States w a s
        → Nexts w (fork t a b) (on s)
    is_false :
        {t : M.Term} {a b : State M.Term} {s : State N.Term} → R.Valued w t (boolean false) → States w b s
        → Nexts w (fork t a b) (on s)

  -- a later world: what was related stays related
  pub record Grows (w w' : M.World) : Type 0 where
    pub stays : (t : M.Term) (c : Constant) → R.Valued w t c → R.Valued w' t c
    pub keeps : (t : M.Term) (u : N.Term) → R.Terms w t u → R.Terms w' t u

  unfoldable pub grows_not : {w : M.World} → Grows w w
  grows_not = record { stays = λ t c h. h; keeps = λ t u h. h }

  unfoldable pub grows-on : {w w' w'' : M.World} → Grows w w' → Grows w' w'' → Grows w w''
  grows-on g h = record { stays = λ t c k. h.stays t c (g.stays t c k); keeps = λ t u k. h.keeps t u (g.keeps t u k) }

  -- results of two actions begun in related worlds: the same error, or related answers
  pub data Results {A B : Type 0} (Q : M.World → A → B → Type 0) (w : M.World) : Result M.World A → Result N.World B → Type 0 where
    oks : {w' : M.World} {v' : N.World} {a : A} {b : B} → Grows w w' → R.Worlds w' v' → Q w' a b → Results Q w (ok w' a) (ok v' b)
    errs : {w' : M.World} {v' : N.World} {n : ℕ} → Grows w w' → R.Worlds w' v' → Results Q w (err w' n) (err v' n)

  abbrev pub Acts :
      {A B : Type 0} → (M.World → A → B → Type 0) → M.World → (M.World → Result M.World A) → (N.World → Result N.World B)
      → Type 0
  Acts Q w m m' = (v : N.World) → R.Worlds w v → Results Q w (m w) (m' v)

  pub record Moves (w : M.World) (m : Moved M) (m' : Moved N) : Type 0 where
    pub grows : Grows w m.world
    pub worlds : R.Worlds m.world m'.world
    pub nexts : Nexts m.world m.next m'.next

-- What the two models' terms must respect: sorts; no term is a location; what `make` gives, alone or against a constant worked out.
pub record Laws {M N : Model} (R : Relation M N) : Type 0 where
  pub terms-sort : (w : M.World) (t : M.Term) (u : N.Term) → R.Terms w t u → M.sort t ≡ N.sort u
  pub valued-sort : (w : M.World) (t : M.Term) (c : Constant) → R.Valued w t c → M.sort t ≡ sort_of c
  pub no-location : (w : M.World) (t : M.Term) (l : ℕ) → R.Valued w t (location l) → ⊥
  pub inputs : (w : M.World) (k : ℕ) → Acts R (Values R) w (making M (input k)) (making N (input k))
  pub nots : (w : M.World) (a : Val M) (b : Val N) → Values R w a b → Acts R (Values R) w (negated M a) (negated N b)
  pub operators :
      (w : M.World) (o : Op) (a b : Val M) (a' b' : Val N)
      → Values R w a a' → Values R w b b' → Acts R (Values R) w (combine M o a b) (combine N o a' b')

-- what is related stays so in a later world
module _ {M N : Model} {R : Relation M N} {w w' : M.World} (g : Grows R w w') where
  pub grow-value : (a : Val M) (b : Val N) → Values R w a b → Values R w' a b
  grow-value a b consts = consts
  grow-value a b (valued {t} {c} h) = valued (g.stays t c h)
  grow-value a b (terms {t} {u} h) = terms (g.keeps t u h)

  pub grow-store : (ρ : Store M.Term) (ρ' : Store N.Term) → Stores R w ρ ρ' → Stores R w' ρ ρ'
  grow-store = each_map (perhaps_map grow-value)

  pub grow-cell : (c : Cell M.Term) (c' : Cell N.Term) → Cells R w c c' → Cells R w' c c'
  grow-cell c c' (cell h) = cell (grow-value _ _ h)

  pub grow-cells : (cs : List (Cell M.Term)) (cs' : List (Cell N.Term)) → Each (Cells R w) cs cs' → Each (Cells R w') cs cs'
  grow-cells = each_map grow-cell

  pub grow-memory : {m : Memory M.Term} {m' : Memory N.Term} → Memories R w m m' → Memories R w' m m'
  grow-memory (memories cs) = memories (grow-cells _ _ cs)

  pub grow-state : {s : State M.Term} {s' : State N.Term} → States R w s s' → States R w' s s'
  grow-state (states ρ ρs m) = states (grow-store _ _ ρ) (each_map grow-store _ _ ρs) (grow-memory m)

-- actions in a row
module _ {M N : Model} {R : Relation M N} {A B : Type 0} {Q : M.World → A → B → Type 0} where
  later :
      {w w' : M.World} {r : Result M.World A} {r' : Result N.World B} → Grows R w w' → Results R Q w' r r' → Results R Q w r r'
  later g (oks h k q) = oks (grows-on R g h) k q
  later g (errs h k) = errs (grows-on R g h) k

  pub give_rel : {w : M.World} (a : A) (b : B) → Q w a b → Acts R Q w (Machine.give a) (Machine.give b)
  unfolding Machine.give
  give_rel a b q v k = oks (grows_not R) k q

  stop_rel : {w : M.World} (n : ℕ) → Acts R Q w (Machine.stop n) (Machine.stop n)
  unfolding Machine.stop
  stop_rel n v k = errs (grows_not R) k

module _ {M N : Model} {R : Relation M N} {A B C D : Type 0} {Q : M.World → A → B → Type 0} {P : M.World → C → D → Type 0} where
  and_then_lem :
      {w : M.World} {r : Result M.World A} {r' : Result N.World B} {f : A → Act M C} {f' : B → Act N D}
      → Results R Q w r r' → ((w' : M.World) (a : A) (b : B) → Grows R w w' → Q w' a b → Acts R P w' (f a) (f' b))
      → Results R P w (Machine.and_then r f) (Machine.and_then r' f')
  unfolding Machine.and_then
  and_then_lem (oks {w'} {v'} {a} {b} g k q) rest = later g (rest w' a b g q v' k)
  and_then_lem (errs g k) rest = errs g k

-- a test, and an option: they leave the world as it is
module _ {M N : Model} {R : Relation M N} {C D : Type 0} {P : M.World → C → D → Type 0} where
  must-same :
      (t : Bool) (n : ℕ) (w : M.World) (m : Act M C) (m' : Act N D)
      → Acts R P w m m' → Acts R P w (Machine.◌>>◌ (Machine.must t n) m) (Machine.◌>>◌ (Machine.must t n) m')
  unfolding Machine.◌>>◌ Machine.must Machine.and_then Machine.give Machine.stop
  must-same true n w m m' h = h
  must-same false n w m m' h = stop_rel n

  checking :
      (n : ℕ) {w : M.World} (m : Act M C) (m' : Act N D) {t t' : Bool}
      → t ≡ t' → Acts R P w m m' → Acts R P w (Machine.◌>>◌ (Machine.must t n) m) (Machine.◌>>◌ (Machine.must t' n) m')
  checking n {w} m m' {t} e h =
      subst (λ (x : Bool). Acts R P w (Machine.◌>>◌ (Machine.must t n) m) (Machine.◌>>◌ (Machine.must x n) m')) e (must-same t n w m m' h)

  fetching :
      (n : ℕ) {A B : Type 0} {Q : A → B → Type 0} {w : M.World} {a : Option A} {b : Option B} (f : A → Act M C) (f' : B → Act N D)
      → Perhaps Q a b → ((x : A) (y : B) → Q x y → Acts R P w (f x) (f' y))
      → Acts R P w (Machine.◌>>=◌ (Machine.there a n) f) (Machine.◌>>=◌ (Machine.there b n) f')
  unfolding Machine.◌>>=◌ Machine.there Machine.and_then Machine.give Machine.stop
  fetching n f f' unbound h = stop_rel n
  fetching n f f' (bound {a} {b} q) h = h a b q

module _ {M N : Model} {R : Relation M N} (L : Laws R) where
  sort_rel : {w : M.World} {a : Val M} {b : Val N} → Values R w a b → Machine.sort_in M a ≡ Machine.sort_in N b
  unfolding Machine.sort_in
  sort_rel consts = refl
  sort_rel {w} (valued {t} {c} h) = L.valued-sort w t c h
  sort_rel {w} (terms {t} {u} h) = L.terms-sort w t u h

  fitted_rel :
      (f : Fit) (o : Op) (w : M.World) (a b : Val M) (a' b' : Val N)
      → Values R w a a' → Values R w b b' → Acts R (Values R) w (Machine.fitted M f o a b) (Machine.fitted N f o a' b')
  unfolding Machine.fitted
  fitted_rel right o w a b a' b' q r = L.operators w o a b a' b' q r
  fitted_rel wrong o w a b a' b' q r = stop_rel wrong_sort
  fitted_rel unlike o w a b a' b' q r = give_rel _ _ consts

  operate_rel :
      (o : Op) (w : M.World) (a b : Val M) (a' b' : Val N)
      → Values R w a a' → Values R w b b' → Acts R (Values R) w (Machine.operate M o a b) (Machine.operate N o a' b')
  unfolding Machine.operate
  operate_rel o w a b a' b' q r =
      rw (sort_rel q, sort_rel r) (fitted_rel (fit o (Machine.sort_in N a') (Machine.sort_in N b')) o w a b a' b' q r)

  negate_rel : (w : M.World) (a : Val M) (b : Val N) → Values R w a b → Acts R (Values R) w (Machine.negate M a) (Machine.negate N b)
  unfolding Machine.negate
  negate_rel w a b q = checking wrong_sort _ _ (ap (same_sort booleans) (sort_rel q)) (L.nots w a b q)

  variable_rel :
      {w : M.World} {a : Option (Val M)} {b : Option (Val N)} (n : ℕ) → Perhaps (Values R w) a b
      → Acts R (Values R) w (Machine.there a n) (Machine.there b n)
  unfolding Machine.there
  variable_rel n unbound = stop_rel n
  variable_rel n (bound q) = give_rel _ _ q

  pub eval_rel :
      (e : Expr ℕ) (w : M.World) (ρ : Store M.Term) (ρ' : Store N.Term) → Stores R w ρ ρ'
      → Acts R (Values R) w (Machine.eval M ρ e) (Machine.eval N ρ' e)
  unfolding Machine.eval Machine.◌>>=◌
  eval_rel (num n) w ρ ρ' h = give_rel _ _ consts
  eval_rel (bool b) w ρ ρ' h = give_rel _ _ consts
  eval_rel (var x) w ρ ρ' h = variable_rel not_bound (each_get_d (Perhaps (Values R w)) x h unbound)
  eval_rel (neg e) w ρ ρ' h = λ v k. and_then_lem (eval_rel e w ρ ρ' h v k) (λ w' a b g q. negate_rel w' a b q)
  eval_rel (bin o e d) w ρ ρ' h = λ v k.
      and_then_lem (eval_rel e w ρ ρ' h v k) (λ w' a a' g q v k.
      and_then_lem (eval_rel d w' ρ ρ' (grow-store g ρ ρ' h) v k) (λ w'' b b' g' r. operate_rel o w'' a b a' b' (grow-value g' a a' q) r))

-- evaluating makes terms; finding a location does not
module _ {M N : Model} {R : Relation M N} (L : Laws R) {C D : Type 0} {P : M.World → C → D → Type 0} where
  evaluating :
      (e : Expr ℕ) {w : M.World} {ρ : Store M.Term} {ρ' : Store N.Term} {f : Val M → Act M C} {f' : Val N → Act N D} → Stores R w ρ ρ'
      → ((w' : M.World) (a : Val M) (b : Val N) → Grows R w w' → Values R w' a b → Acts R P w' (f a) (f' b))
      → Acts R P w (Machine.◌>>=◌ (Machine.eval M ρ e) f) (Machine.◌>>=◌ (Machine.eval N ρ' e) f')
  unfolding Machine.◌>>=◌
  evaluating e {w} {ρ} {ρ'} h rest v k = and_then_lem (eval_rel L e w ρ ρ' h v k) rest

  receiving :
      (k : ℕ) {w : M.World} {f : Val M → Act M C} {f' : Val N → Act N D}
      → ((w' : M.World) (a : Val M) (b : Val N) → Grows R w w' → Values R w' a b → Acts R P w' (f a) (f' b))
      → Acts R P w (Machine.◌>>=◌ (making M (input k)) f) (Machine.◌>>=◌ (making N (input k)) f')
  unfolding Machine.◌>>=◌
  receiving k {w} rest v i = and_then_lem (L.inputs w k v i) rest

  locating :
      {w : M.World} {a : Val M} {b : Val N} (f : ℕ → Act M C) (f' : ℕ → Act N D) → Values R w a b → ((l : ℕ) → Acts R P w (f l) (f' l))
      → Acts R P w (Machine.◌>>=◌ (Machine.the_location M a) f) (Machine.◌>>=◌ (Machine.the_location N b) f')
  unfolding Machine.◌>>=◌ Machine.the_location Machine.and_then Machine.give Machine.stop
  locating f f' (consts {c = number n}) rest = stop_rel wrong_sort
  locating f f' (consts {c = boolean t}) rest = stop_rel wrong_sort
  locating f f' (consts {c = location l}) rest = rest l
  locating f f' (valued {c = number n} h) rest = stop_rel wrong_sort
  locating f f' (valued {c = boolean t} h) rest = stop_rel wrong_sort
  locating {w} f f' (valued {t} {c = location l} h) rest = absurd (L.no-location w t l h)
  locating f f' (terms h) rest = stop_rel wrong_sort

-- the cells, and the states that commands lead to
module _ {M N : Model} {R : Relation M N} {w : M.World} where
  cell_at_rel :
      (l q : ℕ) {cs : List (Cell M.Term)} {cs' : List (Cell N.Term)}
      → Each (Cells R w) cs cs' → Perhaps (Values R w) (Machine.cell_at l q cs) (Machine.cell_at l q cs')
  unfolding Machine.cell_at Machine.is_at
  cell_at_rel l q nil = unbound
  cell_at_rel l q (cons (cell {l = k} {q = r} h) hs) = either (Perhaps (Values R w)) (eqb l k && eqb q r) (bound h) (cell_at_rel l q hs)

  put_cell_rel :
      (l q : ℕ) {a : Val M} {b : Val N} {cs : List (Cell M.Term)} {cs' : List (Cell N.Term)}
      → Values R w a b → Each (Cells R w) cs cs' → Each (Cells R w) (Machine.put_cell l q a cs) (Machine.put_cell l q b cs')
  unfolding Machine.put_cell Machine.is_at Machine.is_before
  put_cell_rel l q v nil = cons (cell v) nil
  put_cell_rel l q v (cons (cell {l = k} {q = r} h) hs) =
      either (Each (Cells R w)) (eqb l k && eqb q r)
      (cons (cell v) hs)
      (either (Each (Cells R w)) (ltb l k || eqb l k && ltb q r) (cons (cell v) (cons (cell h) hs)) (cons (cell h) (put_cell_rel l q v hs)))

  without_cells_rel :
      (l : ℕ) {cs : List (Cell M.Term)} {cs' : List (Cell N.Term)}
      → Each (Cells R w) cs cs' → Each (Cells R w) (Machine.without_cells l cs) (Machine.without_cells l cs')
  unfolding Machine.without_cells
  without_cells_rel l nil = nil
  without_cells_rel l (cons (cell {l = k} h) hs) =
      either (Each (Cells R w)) (eqb l k) (without_cells_rel l hs) (cons (cell h) (without_cells_rel l hs))

  frame_rel : (n : ℕ) {a : Val M} {b : Val N} → Values R w a b → Stores R w (Machine.frame n a) (Machine.frame n b)
  unfolding Machine.frame
  frame_rel n v = each_set (Perhaps (Values R w)) 0 (each-replicate (Perhaps (Values R w)) n unbound) (bound v)

  pub start_rel : (p : Program) → States R w (Machine.start p) (Machine.start p)
  unfolding Machine.start
  start_rel p = states (frame_rel _ consts) nil (memories nil)

  steer_rel :
      (f : Control → Control) {s : State M.Term} {s' : State N.Term} → States R w s s'
      → States R w (Machine.steer f s) (Machine.steer f s')
  unfolding Machine.steer
  steer_rel f (states ρ ρs m) = states ρ ρs m

  assigned_rel :
      (x : ℕ) {a : Val M} {b : Val N} {s : State M.Term} {s' : State N.Term}
      → Values R w a b → States R w s s' → States R w (Machine.assigned x a s) (Machine.assigned x b s')
  unfolding Machine.assigned
  assigned_rel x v (states ρ ρs m) = states (each_set (Perhaps (Values R w)) x ρ (bound v)) ρs m

  answered_rel :
      (x : ℕ) {a : Answer M.Term} {b : Answer N.Term} {s : State M.Term} {s' : State N.Term}
      → Answers R w a b → States R w s s' → States R w (Machine.answered x a s) (Machine.answered x b s')
  unfolding Machine.answered Machine.with_memory
  answered_rel x (answers v m) (states ρ ρs m₀) = assigned_rel x v (states ρ ρs m)

  opened_rel :
      (p : Program) (x f : ℕ) {a : Val M} {b : Val N} {s : State M.Term} {s' : State N.Term}
      → Values R w a b → States R w s s' → States R w (Machine.opened p x f a s) (Machine.opened p x f b s')
  unfolding Machine.opened
  opened_rel p x f v (states ρ ρs m) = states (frame_rel _ v) (cons ρ ρs) m

  top_rel :
      {ρs : List (Store M.Term)} {ρs' : List (Store N.Term)} → Each (Stores R w) ρs ρs'
      → Stores R w (Machine.top_store ρs) (Machine.top_store ρs')
  unfolding Machine.top_store
  top_rel nil = nil
  top_rel (cons ρ ρs) = ρ

  below_rel :
      {ρs : List (Store M.Term)} {ρs' : List (Store N.Term)} → Each (Stores R w) ρs ρs'
      → Each (Stores R w) (Machine.below_top ρs) (Machine.below_top ρs')
  unfolding Machine.below_top
  below_rel nil = nil
  below_rel (cons ρ ρs) = ρs

  returns_to_rel :
      (ks : List Caller) {a : Val M} {b : Val N} {s : State M.Term} {s' : State N.Term}
      → Values R w a b → States R w s s' → Nexts R w (Machine.returns_to ks a s) (Machine.returns_to ks b s')
  unfolding Machine.returns_to Machine.closed
  returns_to_rel [] v s = stops (returned v)
  returns_to_rel (k ∷ ks) v (states ρ ρs m) =
      goes (states (each_set (Perhaps (Values R w)) k.target (top_rel ρs) (bound v)) (below_rel ρs) m)

-- every action on the memory
module _ {M N : Model} {R : Relation M N} {w : M.World} where
  looked_up_rel :
      (l q : ℕ) {m : Memory M.Term} {m' : Memory N.Term} → Memories R w m m'
      → Acts R (Answers R) w (Machine.looked_up M l q m) (Machine.looked_up N l q m')
  unfolding Machine.looked_up
  looked_up_rel l q (memories cs) = fetching no_such_cell _ _ (cell_at_rel l q cs) (λ a b v. give_rel _ _ (answers v (memories cs)))

  written_rel :
      (l q : ℕ) {a : Val M} {b : Val N} {m : Memory M.Term} {m' : Memory N.Term} → Values R w a b → Memories R w m m'
      → Acts R (Answers R) w (Machine.written M l q a m) (Machine.written N l q b m')
  unfolding Machine.written Machine.with_cells
  written_rel l q v (memories cs) =
      let put = put_cell_rel l q v cs in
      checking thirty_third_cell _ _ (ap (λ (n : ℕ). leb n most_cells) (each-length put)) (give_rel _ _ (answers consts (memories put)))

  dropped_rel :
      (l : ℕ) {m : Memory M.Term} {m' : Memory N.Term} → Memories R w m m'
      → Acts R (Answers R) w (Machine.dropped M l m) (Machine.dropped N l m')
  unfolding Machine.dropped Machine.with_cells
  dropped_rel l (memories cs) = give_rel _ _ (answers consts (memories (without_cells_rel l cs)))

  fresh_location_rel :
      (j : ℕ) {m : Memory M.Term} {m' : Memory N.Term} → Memories R w m m'
      → Acts R (Answers R) w (Machine.fresh_location M j m) (Machine.fresh_location N j m')
  unfolding Machine.fresh_location Machine.counting
  fresh_location_rel j (memories cs) = checking seventeenth_location _ _ refl (give_rel _ _ (answers consts (memories cs)))

  fresh_input_rel :
      Laws R → (j : ℕ) {m : Memory M.Term} {m' : Memory N.Term} → Memories R w m m'
      → Acts R (Answers R) w (Machine.fresh_input M j m) (Machine.fresh_input N j m')
  unfolding Machine.fresh_input Machine.counting
  fresh_input_rel L j (memories {k} cs) =
      checking seventeenth_input _ _ refl (
      receiving L k.inputs (λ w₁ a b g v.
      give_rel _ _ (answers v (memories (grow-cells g _ _ cs)))))

  -- its answer assigned
  answering :
      (x : ℕ) (r : Act M (Answer M.Term)) (r' : Act N (Answer N.Term)) {s : State M.Term} {s' : State N.Term}
      → Acts R (Answers R) w r r' → States R w s s'
      → Acts R (Nexts R) w (Machine.◌>>=◌ r (λ a. Machine.give (on (Machine.answered x a s)))) (Machine.◌>>=◌ r' (λ a. Machine.give (on (Machine.answered x a s'))))
  unfolding Machine.◌>>=◌
  answering x r r' h t v i = and_then_lem (h v i) (λ w₁ a b g q. give_rel _ _ (goes (answered_rel x q (grow-state g t))))

-- every command
module _ {M N : Model} {R : Relation M N} (L : Laws R) where
  -- a jump on a term, of which the other side knows the sort
  forking_rel :
      (w : M.World) (t : M.Term) (a b : State M.Term) (r : Result N.World (Next N.Term)) (x : Sort) → M.sort t ≡ x
      → Results R (Nexts R) w (Machine.and_then (Machine.must (same_sort booleans x) wrong_sort w) (λ (u : Unit {0}). Machine.give (fork t a b))) r
      → Results R (Nexts R) w (Machine.and_then (Machine.must (same_sort booleans (M.sort t)) wrong_sort w) (λ (u : Unit {0}). Machine.give (fork t a b))) r
  forking_rel w t a b r x e =
      subst⁻¹ (λ (x : Sort). Results R (Nexts R) w (Machine.and_then (Machine.must (same_sort booleans x) wrong_sort w) (λ (u : Unit {0}). Machine.give (fork t a b))) r) e

  jump_rel :
      (n : ℕ) (w : M.World) (a : Val M) (b : Val N) (s : State M.Term) (s' : State N.Term)
      → Values R w a b → States R w s s' → Acts R (Nexts R) w (Machine.jump M n s a) (Machine.jump N n s' b)
  unfolding Machine.jump Machine.◌>>◌ Machine.and_then Machine.must Machine.give Machine.stop same_sort sort_of
  jump_rel n w a b s s' (consts {c = number k}) h = stop_rel wrong_sort
  jump_rel n w a b s s' (consts {c = boolean true}) h = give_rel _ _ (goes (steer_rel (Machine.goto n) h))
  jump_rel n w a b s s' (consts {c = boolean false}) h = give_rel _ _ (goes (steer_rel Machine.onward h))
  jump_rel n w a b s s' (consts {c = location l}) h = stop_rel wrong_sort
  jump_rel n w a b s s' (valued {t} {c = number k} q) h = λ v i.
      forking_rel w t _ _ _ numbers (L.valued-sort w t (number k) q) (errs (grows_not R) i)
  jump_rel n w a b s s' (valued {t} {c = boolean true} q) h = λ v i.
      forking_rel w t _ _ _ booleans (L.valued-sort w t (boolean true) q) (oks (grows_not R) i (is_true q (steer_rel (Machine.goto n) h)))
  jump_rel n w a b s s' (valued {t} {c = boolean false} q) h = λ v i.
      forking_rel w t _ _ _ booleans (L.valued-sort w t (boolean false) q) (oks (grows_not R) i (is_false q (steer_rel Machine.onward h)))
  jump_rel n w a b s s' (valued {t} {c = location l} q) h = λ v i. absurd (L.no-location w t l q)
  jump_rel n w a b s s' (terms {t} {u} q) h =
      checking wrong_sort _ _ (ap (same_sort booleans) (L.terms-sort w t u q)) (
      give_rel _ _ (forks q (steer_rel (Machine.goto n) h) (steer_rel Machine.onward h)))

  exec_rel :
      (p : Program) (d : Cmd ℕ) (w : M.World) (s : State M.Term) (s' : State N.Term)
      → States R w s s' → Acts R (Nexts R) w (Machine.exec M p s d) (Machine.exec N p s' d)
  unfolding Machine.exec
  exec_rel p (assign x e) w s s' (states ρ ρs m) =
      evaluating L e ρ (λ w₁ a b g v.
      give_rel _ _ (goes (assigned_rel x v (grow-state g (states ρ ρs m)))))
  exec_rel p (ifgoto e n) w s s' (states ρ ρs m) =
      evaluating L e ρ (λ w₁ a b g v.
      jump_rel n w₁ a b _ _ v (grow-state g (states ρ ρs m)))
  exec_rel p (call x f e) w s s' (states ρ ρs m) =
      evaluating L e ρ (λ w₁ a b g v.
      checking ninth_frame _ _ refl (
      give_rel _ _ (goes (opened_rel p x f v (grow-state g (states ρ ρs m))))))
  exec_rel p (lookup x e q) w s s' (states ρ ρs m) =
      evaluating L e ρ (λ w₁ a b g v.
      locating L _ _ v (λ l.
      answering x _ _ (looked_up_rel l q (grow-memory g m)) (grow-state g (states ρ ρs m))))
  exec_rel p (mutate x e q d) w s s' (states ρ ρs m) =
      evaluating L e ρ (λ w₁ a a' g v.
      evaluating L d (grow-store g _ _ ρ) (λ w₂ b b' g' u.
      locating L _ _ (grow-value g' a a' v) (λ l.
      let h = grows-on R g g' in
      answering x _ _ (written_rel l q u (grow-memory h m)) (grow-state h (states ρ ρs m)))))
  exec_rel p (dispose x e) w s s' (states ρ ρs m) =
      evaluating L e ρ (λ w₁ a b g v.
      locating L _ _ v (λ l.
      answering x _ _ (dropped_rel l (grow-memory g m)) (grow-state g (states ρ ρs m))))
  exec_rel p (u_sym x j) w s s' (states ρ ρs m) = answering x _ _ (fresh_location_rel j m) (states ρ ρs m)
  exec_rel p (i_sym x j) w s s' (states ρ ρs m) = answering x _ _ (fresh_input_rel L j m) (states ρ ρs m)
  exec_rel p (return e) w s s' (states {c} ρ ρs m) =
      evaluating L e ρ (λ w₁ a b g v.
      give_rel _ _ (returns_to_rel c.callers v (grow-state g (states ρ ρs m))))
  exec_rel p (fail e) w s s' (states ρ ρs m) =
      evaluating L e ρ (λ w₁ a b g v.
      give_rel _ _ (stops (failed v)))
  exec_rel p vanish w s s' h = give_rel _ _ (stops vanished)

  settled_rel :
      (w : M.World) {r : Result M.World (Next M.Term)} {r' : Result N.World (Next N.Term)} → Results R (Nexts R) w r r'
      → Moves R w (Machine.settled M r) (Machine.settled N r')
  unfolding Machine.settled
  settled_rel w (oks g k q) = record { grows = g; worlds = k; nexts = q }
  settled_rel w (errs g k) = record { grows = g; worlds = k; nexts = stops error }

  -- related states in related worlds move to related results
  pub move_rel :
      (p : Program) (w : M.World) (v : N.World) (s : State M.Term) (s' : State N.Term)
      → R.Worlds w v → States R w s s' → Moves R w (Machine.move M p w s) (Machine.move N p v s')
  unfolding Machine.move
  move_rel p w v s s' k (states {c} ρ ρs m) = settled_rel w (exec_rel p (Machine.command_at p c) w _ _ (states ρ ρs m) v k)
