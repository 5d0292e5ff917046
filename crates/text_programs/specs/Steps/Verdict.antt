-- The refusal of a text from what was counted and flagged while it was read. Assumes nothing.
use Rattle.std.specs.Prelude.{ℕ, ◌≤◌, ◌<◌, min, ◌≡◌, Bool, ◌||◌, take, Option, None, Some, unwrap_or, is_some}
use Rattle.std.specs.List.{list_any}
use Rattle.std.proofs.Math.Path.{refl, sym, ap}
use Rattle.std.proofs.Common.{◌∙◌, subst, arith}
use Rattle.std.proofs.Math.Bool.{true, false, not}
use mathlib.Core.List.{List, [], ◌∷◌, map}
use Rattle.std.proofs.Common.{eq-eqb, ne_eqb, lt-ltb, le-ltb, ltb-true, ltb-false}
use Rattle.std.proofs.Math.ListN.{length, length-map, length-take}
use Rattle.std.proofs.Math.Seq.{take_all}
use Rattle.std.proofs.Math.Dec.{ltb}
use Rattle.gil.specs.Text.{bytes}
use Rattle.gil.specs.Tree.{Proc, Name}
use Rattle.gil.specs.Reading.{read, procedures}
use Rattle.gil.specs.Names.{any, gather, has, place_of, with_names, distinct, repeated, proc_names, properties, over_limits, wrong_names, wrong_jump, wrong_end, accepted, refused_if, number_program, tested, check_text}
use Rattle.gil.specs.Calls.{text_answer, check_call}
use Rattle.gil.specs.Numbers.{for_end, for_jump, for_length, for_limits, for_names, most_bytes, most_commands, most_procedures, most_properties, most_variables}
use Rattle.text_tokens.specs.Mirror.Seen.{name_at}
use Rattle.text_names.specs.declared.Names.{Names}
use Rattle.text_names.specs.Mirror.Tables.{Kept, known, FoundIn}
use Rattle.text_names.specs.Laws.Lists.{has-place}
use Rattle.text_names.specs.Laws.Distinct.{any-with_names, distinct-is, repeated-is, few-distinct}
use Rattle.text_names.specs.Laws.Tables.{cut-tells}
use Rattle.text_procedures.specs.Mirror.Procedures.{props_of, calls_of, Tells}
use Rattle.text_procedures.specs.Laws.Procedures.{named-gather}
use Rattle.text_programs.specs.Mirror.Verdict.{any_missing, any_lost, wrong_with, Told}

-- a name that is found in a table is one of its names
found-some : (w : Name) (ns : List Name) (o : Option ℕ) → FoundIn w ns o → is_some o ≡ has w ns
found-some w ns None e = sym (has-place w ns ∙ le-ltb (place_of w ns) (length ns) (omega (arith, e)))
found-some w ns (Some i) e = sym (has-place w ns ∙ lt-ltb (place_of w ns) (length ns) (omega (arith, e.0, e.1)))

not-not : (r : Bool) → r ≡ not (not r)
not-not true = refl
not-not false = refl

pub found-none : (w : Name) (ns : List Name) (o : Option ℕ) (r : Bool) → is_some o ≡ not r → FoundIn w ns o → r ≡ not (has w ns)
found-none w ns o r z f = not-not r ∙ ap not (sym z ∙ found-some w ns o f)

pub found-place : (w : Name) (ns : List Name) (o : Option ℕ) (d : ℕ) → FoundIn w ns o → length ns ≡ d → unwrap_or o d ≡ place_of w ns
found-place w ns None d e h = sym h ∙ sym e
found-place w ns (Some i) d e h = e.0

pub found-few : (s : List ℕ) (t : Names) (w : Name) (o : Option ℕ) → FoundIn w (known s t) o → unwrap_or o t.count ≤ t.count
unfolding known
found-few s t w None e = omega arith
found-few s t w (Some i) e = omega (arith, e.1, length-map (take (min t.count t.most) t.places) (name_at s), length-take (min t.count t.most) t.places)

pub found-within : (s : List ℕ) (t : Names) (w : Name) (o : Option ℕ) (d : ℕ) → FoundIn w (known s t) o → d ≤ t.count → unwrap_or o d ≤ t.count
unfolding known
found-within s t w None d e l = l
found-within s t w (Some i) d e l = omega (arith, e.1, length-map (take (min t.count t.most) t.places) (name_at s), length-take (min t.count t.most) t.places)

pub list-any : {A : Type 0} (f : A → Bool) (l : List A) → list_any f l ≡ any f l
unfolding any
list-any f [] = refl
list-any f (a ∷ l) = ap (λ (b : Bool). f a || b) (list-any f l)

pub any-map : {A : Type 0} (f : Name → Bool) (g : A → Name) (l : List A) → any (λ a. f (g a)) l ≡ any f (map g l)
unfolding any
any-map f g [] = refl
any-map f g (a ∷ l) = ap (λ (b : Bool). f (g a) || b) (any-map f g l)

-- the table of all procedures, where no name is repeated
module _ (s : List ℕ) (q k : Names) (ns fs : List Name) (kq : Kept s most_procedures q (with_names [] ns)) (kk : Kept s most_procedures k (with_names [] fs)) (count : ℕ) (ec : count ≡ length ns) (low : count ≤ most_procedures) where
  pub names-repeated : (q.count ≡ count → ⊥) → true ≡ wrong_with ns fs
  unfolding wrong_with
  names-repeated h = sym (rw (repeated-is ns ∙ ap not (ne_eqb (length (with_names [] ns)) (length ns) (λ d. h (omega (arith, kq.counted, d)))), wrong_with))

  lost-any : any_lost s k q ≡ ltb k.most k.count || any_missing s k q
  unfolding any_lost
  lost-any = ap (λ (m : ℕ). ltb m k.count || any_missing s k q) (sym kk.most)

  module _ (same : q.count ≡ count) where
    one : repeated ns ≡ false
    one = repeated-is ns ∙ ap not (eq-eqb (length (with_names [] ns)) (length ns) (omega (arith, kq.counted)))

    all : with_names [] ns ≡ ns
    all = distinct-is ns one

    table : known s q ≡ ns
    unfolding known
    table =
        let d : min q.count q.most ≡ min most_procedures (length (with_names [] ns)) = omega (arith, kq.counted, kq.most, ap length all) in
        ap (λ (j : ℕ). map (name_at s) (take j q.places)) d ∙ kq.named ∙ ap (take most_procedures) all ∙ take_all most_procedures ns (omega arith)

    -- over 16 callees are not all procedures
    over : ltb k.most k.count ≡ true → any (λ f. not (has f ns)) fs ≡ true
    over e = lost (any (λ f. not (has f ns)) fs) refl
      where
        lost : (y : Bool) → any (λ f. not (has f ns)) fs ≡ y → any (λ f. not (has f ns)) fs ≡ true
        lost true g = g
        lost false g = absurd (omega (arith, ltb-true k.most k.count e, kk.most, kk.counted, few-distinct fs ns g))

    pub calls-over : ltb k.most k.count ≡ true → true ≡ wrong_with ns fs
    unfolding wrong_with
    calls-over e = sym (rw (one, over e, wrong_with))

    module _ (few : ltb k.most k.count ≡ false) where
      called : known s k ≡ with_names [] fs
      unfolding known
      called =
          let d : min k.count k.most ≡ min most_procedures (length (with_names [] fs)) = omega (arith, ltb-false k.most k.count few, kk.counted, kk.most) in
          let b : length (with_names [] fs) ≤ most_procedures = omega (arith, ltb-false k.most k.count few, kk.counted, kk.most) in
          ap (λ (j : ℕ). map (name_at s) (take j k.places)) d ∙ kk.named ∙ take_all most_procedures (with_names [] fs) b

      missing-calls : any_missing s k q ≡ any (λ f. not (has f ns)) fs
      unfolding any_missing
      missing-calls =
          ap (λ (l : List Name). any (λ w. not (has w l)) (known s k)) table
          ∙ ap (any (λ w. not (has w ns))) called
          ∙ any-with_names (λ f. not (has f ns)) [] fs
          ∙ none
        where
          none : any (λ f. not (has f ns)) [] || any (λ f. not (has f ns)) fs ≡ any (λ f. not (has f ns)) fs
          none = unfold any in refl

      -- as many callees as there is room for are lost exactly where one is missing
      pub lost-few : any_lost s k q ≡ any_missing s k q
      lost-few = lost-any ∙ ap (λ (x : Bool). x || any_missing s k q) few

    lost-calls : any_lost s k q ≡ any (λ f. not (has f ns)) fs
    lost-calls = at (ltb k.most k.count) refl
      where
        at : (x : Bool) → ltb k.most k.count ≡ x → any_lost s k q ≡ any (λ f. not (has f ns)) fs
        at true e = lost-any ∙ ap (λ (x : Bool). x || any_missing s k q) e ∙ sym (over e)
        at false e = lost-few e ∙ missing-calls e

    pub names_missing : any_lost s k q ≡ true → true ≡ wrong_with ns fs
    unfolding wrong_with
    names_missing e = sym (rw (one, sym lost-calls ∙ e, wrong_with))

    pub names-main : (o : Option ℕ) (r : Bool) → is_some o ≡ not r → any_lost s k q ≡ false → FoundIn (bytes "main") (known s q) o → r ≡ wrong_with ns fs
    unfolding wrong_with
    names-main o r z e f = found-none (bytes "main") (known s q) o r z f ∙ ap (λ (l : List Name). not (has (bytes "main") l)) table ∙ sym (rw (one, sym lost-calls ∙ e, wrong_with))

  pub names-over : most_procedures < q.count → q.count ≡ count → true ≡ wrong_with ns fs
  names-over h e = absurd (omega arith)

-- the answer by the four tests
unfoldable pub answer_by : Bool → Bool → Bool → Bool → ℕ
answer_by true b c d = for_limits
answer_by false true c d = for_names
answer_by false false true d = for_jump
answer_by false false false true = for_end
answer_by false false false false = 0

-- as the code chooses
pub answer_chain : (a b c d : Bool) {r₈ r₇ r₆ r : ℕ} → r₈ ≡ elim d [ true ↦ for_end | false ↦ 0 ] → r₇ ≡ elim c [ true ↦ for_jump | false ↦ r₈ ] → r₆ ≡ elim b [ true ↦ for_names | false ↦ r₇ ] → r ≡ elim a [ true ↦ for_limits | false ↦ r₆ ] → r ≡ answer_by a b c d
unfolding answer_by
answer_chain true b c d e f g h = h
answer_chain false true c d e f g h = h ∙ g
answer_chain false false true d e f g h = h ∙ g ∙ f
answer_chain false false false true e f g h = h ∙ g ∙ f ∙ e
answer_chain false false false false e f g h = h ∙ g ∙ f ∙ e

answer-by : (rs : List (Proc Name)) (n : ℕ) → text_answer (tested (read rs n)) ≡ answer_by (over_limits rs) (wrong_names rs) (wrong_jump rs) (wrong_end rs)
unfolding tested
answer-by rs n = at (over_limits rs) (wrong_names rs) (wrong_jump rs) (wrong_end rs)
  where
    at : (a b c d : Bool) → text_answer (refused_if a for_limits (refused_if b for_names (refused_if c for_jump (refused_if d for_end (accepted (number_program rs)))))) ≡ answer_by a b c d
    at true b c d = unfold text_answer refused_if answer_by in refl
    at false true c d = unfold text_answer refused_if answer_by in refl
    at false false true d = unfold text_answer refused_if answer_by in refl
    at false false false true = unfold text_answer refused_if answer_by in refl
    at false false false false = unfold text_answer refused_if answer_by in refl

-- what was told of the procedures that were read, from tables with no names
pub told : {s code code' : List ℕ} {p₀ props k₀ calls q₀ procs : Names} {np nc : ℕ} {wide past unended : Bool} {ps : List (Proc Name)} → Kept s most_properties p₀ [] → Kept s most_procedures k₀ [] → Kept s most_procedures q₀ [] → Tells s p₀ props k₀ calls q₀ procs code code' np nc wide past unended ps → Told s props calls procs np nc wide past unended ps
told {s} {procs = procs} {ps = ps} p k q t =
    record {
      props = t.props.kept [] p;
      calls = t.calls.kept [] k;
      names = subst (λ (l : List Name). Kept s most_procedures procs (with_names [] l)) (named-gather ps) (t.names.kept [] q);
      counted = t.counted;
      summed = t.summed;
      wider = t.wider;
      passes = t.passes;
      stays = t.stays;
    }

module _ {s : List ℕ} {props calls procs : Names} {np nc : ℕ} {wide past unended : Bool} (ps : List (Proc Name)) (n : ℕ) (t : Told s props calls procs np nc wide past unended ps) where
  over-is : ltb most_procedures np || ltb most_commands nc || wide || ltb props.most props.count ≡ over_limits ps
  over-is =
      ap (λ (j : ℕ). ltb most_procedures j || ltb most_commands nc || wide || ltb props.most props.count) t.counted
      ∙ ap (λ (j : ℕ). ltb most_procedures (length ps) || ltb most_commands j || wide || ltb props.most props.count) t.summed
      ∙ ap (λ (b : Bool). ltb most_procedures (length ps) || ltb most_commands (length (gather (λ r. r.body) ps)) || b || ltb props.most props.count) t.wider
      ∙ last (ap (λ (m : ℕ). ltb m props.count) t.props.most ∙ ap (ltb most_properties) t.props.counted ∙ cut-tells most_properties (length (with_names [] (gather props_of ps))))
    where
      last : ltb props.most props.count ≡ ltb most_properties (length (with_names [] (gather props_of ps))) → ltb most_procedures (length ps) || ltb most_commands (length (gather (λ r. r.body) ps)) || any (λ r. ltb most_variables (length (Rattle.gil.specs.Names.proc_vars r))) ps || ltb props.most props.count ≡ over_limits ps
      last e = unfold over_limits properties distinct in ap (λ (b : Bool). ltb most_procedures (length ps) || ltb most_commands (length (gather (λ r. r.body) ps)) || any (λ r. ltb most_variables (length (Rattle.gil.specs.Names.proc_vars r))) ps || b) e

  names-is : wrong_with (proc_names ps) (gather calls_of ps) ≡ wrong_names ps
  unfolding wrong_with wrong_names
  names-is = refl

  past_is : past ≡ wrong_jump ps
  unfolding wrong_jump
  past_is = t.passes

  open_is : unended ≡ wrong_end ps
  unfolding wrong_end
  open_is = t.stays

  pub few : ltb most_procedures np || ltb most_commands nc || wide || ltb props.most props.count ≡ false → np ≤ most_procedures
  few e = ltb-false most_procedures np (first (ltb most_procedures np) (ltb most_commands nc) wide (ltb props.most props.count) e)
    where
      first : (x y z w : Bool) → x || y || z || w ≡ false → x ≡ false
      first true y z w f = f
      first false y z w f = refl

  pub procs-count : np ≡ length (proc_names ps)
  procs-count = t.counted ∙ sym (unfold proc_names in length-map ps (λ r. r.name))

  -- each test in turn
  by : (a b c d : Bool) → over_limits ps ≡ a → wrong_names ps ≡ b → wrong_jump ps ≡ c → wrong_end ps ≡ d → answer_by a b c d ≡ text_answer (tested (read ps n))
  by a b c d e f g h = sym (answer-by ps n ∙ ap (λ (x : Bool). answer_by x (wrong_names ps) (wrong_jump ps) (wrong_end ps)) e ∙ ap (λ (x : Bool). answer_by a x (wrong_jump ps) (wrong_end ps)) f ∙ ap (λ (x : Bool). answer_by a b x (wrong_end ps)) g ∙ ap (answer_by a b c) h)

  pub answer_5 : ltb most_procedures np || ltb most_commands nc || wide || ltb props.most props.count ≡ true → for_limits ≡ text_answer (tested (read ps n))
  answer_5 e = unfold answer_by in by true (wrong_names ps) (wrong_jump ps) (wrong_end ps) (sym over-is ∙ e) refl refl refl

  module _ (e : ltb most_procedures np || ltb most_commands nc || wide || ltb props.most props.count ≡ false) where
    pub answer_6 : wrong_with (proc_names ps) (gather calls_of ps) ≡ true → for_names ≡ text_answer (tested (read ps n))
    answer_6 f = unfold answer_by in by false true (wrong_jump ps) (wrong_end ps) (sym over-is ∙ e) (sym names-is ∙ f) refl refl

    module _ (f : wrong_with (proc_names ps) (gather calls_of ps) ≡ false) where
      pub answer_7 : past ≡ true → for_jump ≡ text_answer (tested (read ps n))
      answer_7 g = unfold answer_by in by false false true (wrong_end ps) (sym over-is ∙ e) (sym names-is ∙ f) (sym past_is ∙ g) refl

      pub answer_8 : past ≡ false → unended ≡ true → for_end ≡ text_answer (tested (read ps n))
      answer_8 g h = unfold answer_by in by false false false true (sym over-is ∙ e) (sym names-is ∙ f) (sym past_is ∙ g) (sym open_is ∙ h)

      pub answer_0 : past ≡ false → unended ≡ false → 0 ≡ text_answer (tested (read ps n))
      answer_0 g h = unfold answer_by in by false false false false (sym over-is ∙ e) (sym names-is ∙ f) (sym past_is ∙ g) (sym open_is ∙ h)

-- refusal 3
pub answer_3 : (s : List ℕ) → most_bytes < length s → for_length ≡ check_call s
unfolding check_call check_text text_answer
answer_3 s h = sym (rw (lt-ltb most_bytes (length s) h, check_text))

pub answer-read : (s : List ℕ) {r : ℕ} → length s ≤ most_bytes → r ≡ text_answer (tested (procedures s)) → r ≡ check_call s
unfolding check_call check_text
answer-read s h e = e ∙ sym (rw (le-ltb most_bytes (length s) h, check_text))
