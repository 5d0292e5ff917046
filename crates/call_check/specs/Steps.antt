-- What the beginning answers where there is nothing but a text: the law that the proof of `check` cites. Assumes nothing.
use Rattle.std.specs.Prelude.{ℕ, ◌≡◌, false, List}
use Rattle.std.proofs.Common.{sym, ap}
use Rattle.gil.specs.Calls.{first_of, text_answer, check_call}
use Rattle.call_given.specs.Mirror.{Begun, is_refused, is_read}

pub checks : {text code : List ℕ} {r : ℕ} → Begun false false text code r → r ≡ check_call text
unfolding first_of text_answer check_call
checks (is_refused e z) = sym (ap text_answer e)
checks (is_read e w) = sym (ap text_answer e)
