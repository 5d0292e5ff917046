-- `code_word` meets its contract. Assumes nothing.
use Rattle.std.proofs.Common.{ℕ, ◌≡◌, ◌∙◌, refl, Bool, true, false, List, length, get_or, ltb, rules, arith, ltb-false}
use Rattle.std.proofs.lemmas.List.{get_or_past}
use Rattle.machine_code.specs.Code.{code_words}
use Rattle.machine_code.specs.Mirror.{code_word, if?}
use Rattle.machine_code.proofs.code_word.Goals as goal

read : (code : List ℕ) (at : ℕ) → length code ≡ code_words → get_or code at 0 ≡ code_word code at
unfolding code_word
read code at e = by (ltb at code_words) refl
  where
    by : (b : Bool) → ltb at code_words ≡ b → get_or code at 0 ≡ if? b (get_or code at 0) 0
    by true h = refl
    by false h = get_or_past code at 0 (omega (arith, e, ltb-false at code_words h))

pub returns : goal.returns
returns c =
    let h : c.unwrap_or.result ≡ get_or c.args.code.now c.args.at 0 = search rules in
    h ∙ read _ _ c.told-code
