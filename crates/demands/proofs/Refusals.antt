-- The definitions of the calls refuse by the first reason that holds, and come to the definitions' answers where none does: the proofs
-- behind demands 1 and 2. Assumes nothing.
use Rattle.std.specs.Prelude.{ℕ, suc, ◌+◌, ◌-◌, ◌≤◌, ◌<◌, Bool, List, ◌++◌, length, drop, replicate}
use native.Mathlib.Omega.{arith}
use Rattle.std.proofs.Math.Path.{◌≡◌, refl, sym}
use Rattle.std.proofs.Common.{◌∙◌, subst, inl, inr}
use Rattle.std.proofs.Math.Bool.{true, false}
use Rattle.gil.specs.Names.{Program, Checked, refused, accepted, check_text}
use Rattle.gil.specs.Rows.{Row}
use Rattle.gil.specs.Explore as Explore
use Rattle.gil.specs.Explore.{Explored, explored}
use Rattle.gil.specs.Pool.{Ref, Pool, table, placed}
use Rattle.gil.proofs.Demand3.{of_the_table}
use Rattle.gil.proofs.Theory.Tests.{no_false}
use Rattle.gil.proofs.Theory.Given.{budgets_small}
use Rattle.gil.specs.Plain.{plain_run}
use Rattle.gil.specs.Numbers.{for_budgets, for_lists, for_length, for_end, for_rows, for_terms, last_refusal, first_row, table_length, pool_length, answer_length}
use Rattle.gil.specs.Layout.{table_bytes, pool_bytes, answer_bytes, input_words}
use Rattle.gil.specs.Calls as Calls
use Rattle.gil.specs.Calls.{first_of, TableAnswer, PlainAnswer}
use Rattle.machine_code.proofs.Accepted.{accepted_well_formed}
use Rattle.table_locate.specs.Laws.Sound.{Sound}
use Rattle.table_locate.specs.Laws.Exploring.{exploring-sound}
use Rattle.demands.proofs.Rows.{stands-below}
use Rattle.demands.specs.Reasons.{TextReason, Overrun, after, Never, Reason, of_budgets, of_lists, of_text, of_exploring, PlainReason, ExploreReason, PlaceReason, Zero, ARow, text_refusals, plain_refusals, explore_refusals, First, Refuses, Leaves, RunsAs, ExploresAs}
use Rattle.demands.proofs.Orders.{first_holds, first-same, Lowest, rising, lowest_first}
use Rattle.demands.proofs.Texts.{text_range, TextOutcome, is_wrong, is_right, text-outcome}
use Rattle.demands.proofs.Overruns.{table_overruns, overruns_range, overrun-table, overrun_late}

-- what a call comes to: refused by the first reason, or a success with none
pub data Outcome (R : ℕ → Type 0) (order : List ℕ) (Success : ℕ → Type 0) (returns : ℕ) : Type 0 where
  refusal : First R order returns → 1 ≤ returns → returns ≤ last_refusal → Outcome R order Success returns
  success : ((n : ℕ) → R n → ⊥) → Success returns → Outcome R order Success returns

-- whatever the order
pub refuses :
    {R Success : ℕ → Type 0} {order : List ℕ} {returns : ℕ} → (Success returns → 1 ≤ returns → returns ≤ last_refusal → ⊥)
    → Outcome R order Success returns → Refuses R order Success returns
refuses {R} {order = order} {returns} apart (refusal f low high) =
    record {
      exactly = λ n _ _. (λ e. subst (First R order) e f, λ g. first-same f g);
      otherwise = (λ s. absurd (apart s low high), λ no-reason. absurd (no-reason returns (first_holds f)));
      nothing_else = inr f;
    }
refuses apart (success no-reason s) =
    record {
      exactly = λ n l h. (λ e. absurd (apart s (omega arith) (omega arith)), λ g. absurd (no-reason n (first_holds g)));
      otherwise = (λ _. no-reason, λ _. s);
      nothing_else = inl s;
    }

-- in the order of the numbers, `lowest` to `highest`
module _
    {R Success : ℕ → Type 0} (lowest highest : ℕ) (low : 1 ≤ lowest) (high : highest ≤ last_refusal)
    (range : (n : ℕ) → R n → (lowest ≤ n) × (n ≤ highest))
  where
    by_number : {returns : ℕ} → Lowest R returns → Outcome R (rising lowest (suc highest - lowest)) Success returns
    by_number {returns} f =
        let (l, h) = range returns f.0 in
        refusal (lowest_first lowest (suc highest - lowest) f l (omega arith)) (omega arith) (omega arith)

-- All reasons of a call
module _ {b c : Bool} {text : List ℕ} {Late : ℕ → Type 0} where
  pub reason_range : (h : ℕ) → for_end ≤ h → ((n : ℕ) → Late n → (for_rows ≤ n) × (n ≤ h)) → (n : ℕ) → Reason b c text Late n → (1 ≤ n) × (n ≤ h)
  reason_range h l late n (of_budgets e) = omega arith
  reason_range h l late n (of_lists e) = omega arith
  reason_range h l late n (of_text r) = let (f, g) = text_range r in omega arith
  reason_range h l late n (of_exploring r) = let (f, g) = late n r in omega arith

  -- no reason before number k, where there is none of each kind
  reason-below :
      (k : ℕ)
      → (for_budgets < k → b ≡ false)
      → (for_lists < k → c ≡ false)
      → ((m : ℕ) → m < k → TextReason text m → ⊥)
      → ((m : ℕ) → m < k → Late m → ⊥)
      → (m : ℕ)
      → m < k
      → Reason b c text Late m
      → ⊥
  reason-below k f g h i m l (of_budgets e) = no_false e (f l)
  reason-below k f g h i m l (of_lists e) = no_false e (g l)
  reason-below k f g h i m l (of_text r) = h m l r
  reason-below k f g h i m l (of_exploring r) = i m l r

-- 1 and 2 come before the text, and the text before the exploration
pub data CallOutcome (b c : Bool) (text : List ℕ) (Late : ℕ → Type 0) : Checked → Type 0 where
  early : {n : ℕ} → Lowest (Reason b c text Late) n → n ≤ for_end → CallOutcome b c text Late (refused n)
  goes_on :
      {p : Program} → check_text text ≡ accepted p
      → ((k : ℕ) → ((m : ℕ) → m < k → Late m → ⊥) → (m : ℕ) → m < k → Reason b c text Late m → ⊥)
      → CallOutcome b c text Late (accepted p)

module _ (text : List ℕ) {Late : ℕ → Type 0} (late : (n : ℕ) → Late n → for_rows ≤ n) where
  not_late : (k : ℕ) → k ≤ for_rows → (m : ℕ) → m < k → Late m → ⊥
  not_late k h m l r = let f : for_rows ≤ m = late m r in omega arith

  not_text_lem : (k : ℕ) → k ≤ for_length → (m : ℕ) → m < k → TextReason text m → ⊥
  not_text_lem k h m l r = let (f, g) = text_range r in omega arith

  of_text_lem : (t : Checked) → check_text text ≡ t → TextOutcome text t → CallOutcome false false text Late t
  of_text_lem (refused n) e (is_wrong (r, f)) =
      let (g, h) = text_range r in
      early (of_text r, reason-below n (λ _. refl) (λ _. refl) f (not_late n (omega arith))) h
  of_text_lem (accepted p) e (is_right f) = goes_on e (λ k. reason-below k (λ _. refl) (λ _. refl) (λ m _. f m))

  pub call-outcome : (b c : Bool) → CallOutcome b c text Late (first_of b c (check_text text))
  unfolding first_of
  call-outcome true c =
      early (
        of_budgets refl,
        reason-below for_budgets (λ h. absurd (omega arith)) (λ h. absurd (omega arith)) (not_text_lem for_budgets (omega arith)) (not_late for_budgets (omega arith)),
      )
      (omega arith)
  call-outcome false true =
      early (of_lists refl, reason-below for_lists (λ _. refl) (λ h. absurd (omega arith)) (not_text_lem for_lists (omega arith)) (not_late for_lists (omega arith)))
      (omega arith)
  call-outcome false false = of_text_lem (check_text text) refl (text-outcome text)

never : {A : Type 0} {n : ℕ} → Never n → A
never = elim [ ]

-- no reason at all
none : {b c : Bool} {text : List ℕ} → ((k : ℕ) → ((m : ℕ) → m < k → Never m → ⊥) → (m : ℕ) → m < k → Reason b c text Never m → ⊥)
    → (n : ℕ) → Reason b c text Never n → ⊥
none f n = f (suc n) (λ m _. never) n (omega arith)

-- check
check-from : {text : List ℕ} {t : Checked} → TextOutcome text t → Outcome (TextReason text) text_refusals Zero (Calls.text_answer t)
unfolding Calls.text_answer rising
check-from (is_wrong f) = by_number for_length for_end (omega arith) (omega arith) (λ n. text_range) f
check-from (is_right f) = success f refl

pub check-refuses : (text : List ℕ) → Refuses (TextReason text) text_refusals Zero (Calls.check_call text)
unfolding Calls.check_call
check-refuses text = refuses (λ e l h. omega arith) (check-from (text-outcome text))

pub plain_range : {b c : Bool} {text : List ℕ} (n : ℕ) → Reason b c text Never n → (for_budgets ≤ n) × (n ≤ for_end)
plain_range = reason_range for_end (omega arith) (λ n. never)

-- plain run: all that it comes to
pub data PlainOutcome (R : ℕ → Type 0) (text inputs : List ℕ) (budget : ℕ) (answer : List ℕ) : PlainAnswer → Type 0 where
  not_run : {n : ℕ} → Lowest R n → n ≤ for_end → PlainOutcome R text inputs budget answer (record { returns = n; answer = answer })
  run :
      {p : Program} → ((n : ℕ) → R n → ⊥) → check_text text ≡ accepted p
      → PlainOutcome R text inputs budget answer
      (record { returns = 0; answer = answer_bytes (plain_run p (input_words inputs) budget) ++ drop answer_length answer })

module _ (text inputs : List ℕ) (budget : ℕ) (answer : List ℕ) {b c : Bool} where
  plain-on :
      (t : Checked) → CallOutcome b c text Never t
      → PlainOutcome (Reason b c text Never) text inputs budget answer (Calls.plain_on inputs budget answer t)
  unfolding Calls.plain_on
  plain-on (refused n) (early f h) = not_run f h
  plain-on (accepted p) (goes_on e f) = run (none f) e

module _ {R : ℕ → Type 0} {text inputs : List ℕ} {budget : ℕ} {answer : List ℕ} where
  plain-outcome :
      ((n : ℕ) → R n → (for_budgets ≤ n) × (n ≤ for_end)) → {a : PlainAnswer} → PlainOutcome R text inputs budget answer a
      → Outcome R plain_refusals Zero a.returns
  unfolding rising
  plain-outcome range (not_run f h) = by_number for_budgets for_end (omega arith) (omega arith) range f
  plain-outcome range (run f e) = success f refl

  plain-keeps : {a : PlainAnswer} → PlainOutcome R text inputs budget answer a → 1 ≤ a.returns → a.answer ≡ answer
  plain-keeps (not_run f h) l = refl
  plain-keeps (run f e) l = absurd (omega arith)

  plain_as : {a : PlainAnswer} → PlainOutcome R text inputs budget answer a → ((n : ℕ) → R n → ⊥) → RunsAs text inputs budget answer a
  plain_as (not_run {n} f h) g = absurd (g n f.0)
  plain_as (run {p} f e) g = record { program = p; reads = e; is = refl }

module _ (text inputs : List ℕ) (budget : ℕ) (answer : List ℕ) where
  plain-comes : PlainOutcome (PlainReason text inputs budget answer) text inputs budget answer (Calls.plain_call text inputs budget answer)
  unfolding Calls.plain_call
  plain-comes = plain-on text inputs budget answer _ (call-outcome text (λ n. never) _ _)

  pub plain-refuses :
      Refuses (PlainReason text inputs budget answer) plain_refusals Zero (Calls.plain_call text inputs budget answer).returns
  plain-refuses = refuses (λ e l h. omega arith) (plain-outcome plain_range plain-comes)

  pub plain-untouched : 1 ≤ (Calls.plain_call text inputs budget answer).returns → (Calls.plain_call text inputs budget answer).answer ≡ answer
  plain-untouched = plain-keeps plain-comes

  pub plain_runs :
      ((n : ℕ) → PlainReason text inputs budget answer n → ⊥) → RunsAs text inputs budget answer (Calls.plain_call text inputs budget answer)
  plain_runs = plain_as plain-comes

-- explore and place: all that they come to
pub data TablesOutcome
    (R : ℕ → Type 0) (success : Pool → List (Row Ref) → ℕ) (text : List ℕ) (budget most : ℕ) (t w : List ℕ)
    : TableAnswer → Type 0 where
  not_explored : {n : ℕ} → Lowest R n → n ≤ for_end → TablesOutcome R success text budget most t w (record { returns = n; table = t; pool = w })
  overrun :
      {n : ℕ} → Lowest R n → for_rows ≤ n
      → TablesOutcome R success text budget most t w
      (record { returns = n; table = replicate table_length 0 ++ drop table_length t; pool = replicate pool_length 0 ++ drop pool_length w })
  tabled :
      {p : Program} {terms : Pool} {rows : List (Row Ref)} → ((n : ℕ) → R n → ⊥) → check_text text ≡ accepted p
      → table p budget most ≡ explored terms rows
      → TablesOutcome R success text budget most t w
      (record {
        returns = success terms rows;
        table = table_bytes terms rows ++ drop table_length t;
        pool = pool_bytes terms ++ drop pool_length w;
      })

module _ (success : Pool → List (Row Ref) → ℕ) (text : List ℕ) (budget most : ℕ) (t w : List ℕ) {b c : Bool} where
  tables_from :
      (p : Program) → check_text text ≡ accepted p
      → ((k : ℕ) → ((m : ℕ) → m < k → Overrun text budget most m → ⊥) → (m : ℕ) → m < k → Reason b c text (Overrun text budget most) m → ⊥)
      → (x : Explored Pool Ref)
      → table p budget most ≡ x
      → TablesOutcome (Reason b c text (Overrun text budget most)) success text budget most t w (Calls.tables_after success t w x)
  unfolding Calls.tables_after
  tables_from p e f (Explore.refused n) g =
      let (k, o) = table_overruns p budget most g in
      let earlier : (m : ℕ) → m < n → Overrun text budget most m → ⊥ =
      λ m l r. let d : Explore.refused n ≡ Explore.refused m = sym g ∙ overrun-table e r in let same : n ≡ m = cc in omega arith in
      overrun (of_exploring (after k e o), f n earlier) (overruns_range o).0
  tables_from p e f (explored terms rows) g =
      tabled
      (λ n.
      f (suc n)
      (λ m l r.
      let d : explored terms rows ≡ Explore.refused m = sym g ∙ overrun-table e r in
      let z : ◌≡◌ {A = ℕ} 0 1 = cc in
      omega arith)
      n (omega arith))
      e g

  tables_on :
      (x : Checked) → CallOutcome b c text (Overrun text budget most) x
      → TablesOutcome (Reason b c text (Overrun text budget most)) success text budget most t w (Calls.explore_on success budget most t w x)
  unfolding Calls.explore_on
  tables_on (refused n) (early f h) = not_explored f h
  tables_on (accepted p) (goes_on e f) = tables_from p e f (table p budget most) refl

module _ {R : ℕ → Type 0} {succeed : Pool → List (Row Ref) → ℕ} {text : List ℕ} {budget most : ℕ} {t w : List ℕ} where
  tables_outcome :
      ((n : ℕ) → R n → (for_budgets ≤ n) × (n ≤ for_terms))
      → {a : TableAnswer} {Success : ℕ → Type 0}
      → ((p : Program) (terms : Pool) (rows : List (Row Ref)) → ((n : ℕ) → R n → ⊥) → check_text text ≡ accepted p
      → table p budget most ≡ explored terms rows → Success (succeed terms rows))
      → TablesOutcome R succeed text budget most t w a
      → Outcome R explore_refusals Success a.returns
  unfolding rising
  tables_outcome range s (not_explored f h) = by_number for_budgets for_terms (omega arith) (omega arith) range f
  tables_outcome range s (overrun f h) = by_number for_budgets for_terms (omega arith) (omega arith) range f
  tables_outcome range s (tabled {p} {terms} {rows} f e g) = success f (s p terms rows f e g)

  -- a success is no refusal's number
  tables_leave :
      {a : TableAnswer} → ((terms : Pool) (rows : List (Row Ref)) → 1 ≤ succeed terms rows → succeed terms rows ≤ for_terms → ⊥)
      → TablesOutcome R succeed text budget most t w a → Leaves t w a
  tables_leave s (not_explored f h) = record { untouched = λ _ _. (refl, refl); zero = λ l _. absurd (omega arith) }
  tables_leave s (overrun f h) = record { untouched = λ _ g. absurd (omega arith); zero = λ _ _. (refl, refl) }
  tables_leave s (tabled {terms = terms} {rows = rows} f e g) =
      record {
        untouched = λ l h. absurd (s terms rows (omega arith) (omega arith));
        zero = λ l h. absurd (s terms rows (omega arith) (omega arith));
      }

  tables_as :
      {a : TableAnswer} → TablesOutcome R succeed text budget most t w a → ((n : ℕ) → R n → ⊥) → ExploresAs succeed text budget most t w a
  tables_as (not_explored {n} f h) g = absurd (g n f.0)
  tables_as (overrun {n} f h) g = absurd (g n f.0)
  tables_as (tabled {p} {terms} {rows} f e d) g =
      record { program = p; terms = terms; rows = rows; reads = e; explores = d; is = refl }

refuted : (b : Bool) → (b ≡ true → ⊥) → b ≡ false
refuted true f = absurd (f refl)
refuted false f = refl

-- the table of an accepted text is sound
pub sound-table :
    (text : List ℕ) (budget most : ℕ) → (Calls.wrong_budgets budget most ≡ true → ⊥)
    → {p : Program} {terms : Pool} {rows : List (Row Ref)}
    → check_text text ≡ accepted p
    → table p budget most ≡ explored terms rows
    → Sound terms rows
sound-table text budget most right {p} reads explores =
    let (small, few) = budgets_small budget most (refuted (Calls.wrong_budgets budget most) right) in
    exploring-sound budget most (accepted_well_formed text p reads) small few explores

pub placed_row :
    (text : List ℕ) (budget most : ℕ) → (Calls.wrong_budgets budget most ≡ true → ⊥) → (inputs : List ℕ)
    → {p : Program} {terms : Pool} {rows : List (Row Ref)}
    → check_text text ≡ accepted p
    → table p budget most ≡ explored terms rows
    → ARow (first_row + placed inputs terms rows)
placed_row text budget most right inputs {p} {terms} {rows} reads explores =
    let s : Sound terms rows = sound-table text budget most right reads explores in
    let (a, e) = of_the_table p budget most inputs terms rows explores in
    let h : a.place < length rows = stands-below a.stands in
    omega (arith, s.few_rows)

pub explore_range : {b c : Bool} {text : List ℕ} {budget most : ℕ} (n : ℕ) → Reason b c text (Overrun text budget most) n → (for_budgets ≤ n) × (n ≤ for_terms)
explore_range = reason_range for_terms (omega arith) overrun_late

module _ (text : List ℕ) (budget most : ℕ) (t w : List ℕ) where
  explore-comes : TablesOutcome (ExploreReason text budget most t w) Calls.succeeds text budget most t w (Calls.explore_call text budget most t w)
  unfolding Calls.explore_call
  explore-comes = tables_on Calls.succeeds text budget most t w _ (call-outcome text (λ n r. (overrun_late n r).0) _ _)

  pub explore-refuses :
      Refuses (ExploreReason text budget most t w) explore_refusals Zero (Calls.explore_call text budget most t w).returns
  unfolding Calls.succeeds
  explore-refuses =
      refuses (λ e l h. omega arith) (tables_outcome explore_range (λ p terms rows none e g. refl) explore-comes)

  pub explore-leaves : Leaves t w (Calls.explore_call text budget most t w)
  unfolding Calls.succeeds
  explore-leaves = tables_leave (λ terms rows l h. omega arith) explore-comes

  pub explore-explores :
      ((n : ℕ) → ExploreReason text budget most t w n → ⊥)
      → ExploresAs Calls.succeeds text budget most t w (Calls.explore_call text budget most t w)
  explore-explores = tables_as explore-comes

module _ (text inputs : List ℕ) (budget most : ℕ) (t w : List ℕ) where
  place-comes :
      TablesOutcome (PlaceReason text inputs budget most t w) (Calls.places_in inputs) text budget most t w
      (Calls.place_call text inputs budget most t w)
  unfolding Calls.place_call
  place-comes = tables_on (Calls.places_in inputs) text budget most t w _ (call-outcome text (λ n r. (overrun_late n r).0) _ _)

  pub place-refuses :
      Refuses (PlaceReason text inputs budget most t w) explore_refusals ARow (Calls.place_call text inputs budget most t w).returns
  unfolding Calls.places_in
  place-refuses =
      refuses (λ e l h. omega arith)
      (tables_outcome explore_range (λ p terms rows none e g. placed_row text budget most (λ d. none for_budgets (of_budgets d)) (input_words inputs) e g) place-comes)

  pub place-leaves : Leaves t w (Calls.place_call text inputs budget most t w)
  unfolding Calls.places_in
  place-leaves = tables_leave (λ terms rows l h. omega arith) place-comes

  pub place-explores :
      ((n : ℕ) → PlaceReason text inputs budget most t w n → ⊥)
      → ExploresAs (Calls.places_in inputs) text budget most t w (Calls.place_call text inputs budget most t w)
  place-explores = tables_as place-comes
