-- The plain run's answer where it refuses and where it runs: the laws that its proof cites. Assumes nothing.
use Rattle.std.specs.Prelude.{ℕ, ◌≤◌, ◌≡◌, Bool, false, ◌||◌, length, ltb}
use Rattle.std.proofs.Math.Path.{sym, ap}
use Rattle.std.proofs.Common.{◌∙◌, subst₂, ltb-false}
use mathlib.Core.List.{List}
use Rattle.gil.specs.Calls.{wrong_budget, wrong_inputs, PlainAnswer, plain_on, plain_call}
use Rattle.gil.specs.Numbers.{most_steps, answer_length, inputs_length}
use Rattle.gil.specs.Layout.{input_words}
use Rattle.machine_code.proofs.Accepted.{accepted_well_formed}
use Rattle.machine_code.proofs.Accepted.Lists.{or_false}
use Rattle.table_locate.specs.Laws.Inputs.{Bytes}
use Rattle.table_plain_run.specs.Mirror.{Answered}
use Rattle.table_plain_run.specs.Laws.{run-leaves}
use Rattle.call_given.specs.Mirror.{Begun}
use Rattle.call_given.specs.Laws.{begun-refused, begun-on, inputs_long, words_small}

module _ (text inputs : List ℕ) (steps : ℕ) (answer : List ℕ) where
  abbrev Answers : ℕ → List ℕ → Type 0
  Answers r left = ◌≡◌ {A = PlainAnswer} (record { returns = r; answer = left }) (plain_call text inputs steps answer)

  -- the beginning, given what the tests answered
  module _
      {budget list lists : Bool} {code : List ℕ} {r : ℕ} (eb : budget ≡ wrong_budget steps) (ei : list ≡ wrong_inputs inputs)
      (el : lists ≡ (list || ltb (length answer) answer_length)) (b : Begun budget lists text code r)
    where
      begun : Begun (wrong_budget steps) (wrong_inputs inputs || ltb (length answer) answer_length) text code r
      begun = subst₂ (λ (x y : Bool). Begun x y text code r) eb (el ∙ ap (λ (x : Bool). x || ltb (length answer) answer_length) ei) b

      pub plain-refused : (r ≡ 0 → ⊥) → Answers r answer
      unfolding plain_call plain_on
      plain-refused z = sym (ap (plain_on inputs steps answer) (begun-refused begun z))

      module _ (z : r ≡ 0) where
        right : (wrong_inputs inputs ≡ false) × (ltb (length answer) answer_length ≡ false)
        right = or_false (wrong_inputs inputs) (ltb (length answer) answer_length) (begun-on begun z).right_lists

        pub sixteen : length inputs ≡ inputs_length
        sixteen = inputs_long inputs right.0

        pub room : answer_length ≤ length answer
        room = ltb-false (length answer) answer_length right.1

        pub plain_runs : {words left : List ℕ} → Bytes inputs → words ≡ input_words inputs → Answered code words steps answer left → Answers 0 left
        unfolding plain_call plain_on wrong_budget
        plain_runs {words} {left} bytes f h =
            let a = begun-on begun z in
            let p = a.program in
            let written =
            run-leaves p (accepted_well_formed text p a.accepts) (input_words inputs) (words_small inputs bytes) steps
            (ltb-false most_steps steps a.right_budgets)
            (subst₂ (λ (c i : List ℕ). Answered c i steps answer left) a.words f h) in
            ap (λ (l : List ℕ). record { returns = 0; answer = l }) written ∙ sym (ap (plain_on inputs steps answer) a.passes)
