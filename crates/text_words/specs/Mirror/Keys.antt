-- The code's reserved words against those of the definitions. Assumes nothing.
use Rattle.std.specs.Prelude.{ℕ, ◌≡◌, true, false, List, eqb, Option, Some, None, MatchOption}
use Rattle.std.specs.Borrow.{Bor}
use Rattle.std.proofs.Math.Option as M
use Rattle.gil.specs.Text
use Rattle.gil.specs.Text.{k_ifgoto, k_return, k_fail, k_vanish, k_true, k_false, k_not, k_and, k_or, k_lookup, k_mutate, k_dispose, bytes, same}
use Rattle.text_words.specs.declared.keys.Key.{Key}
use Rattle.text_words.specs.declared.keys.Key.TheVariants.{Ifgoto, Return, Fail, Vanish, True, False, Not, And, Or, Lookup, Mutate, Dispose}

-- a key as the definitions have it
unfoldable pub key_is : Key → Text.Key
key_is Ifgoto = k_ifgoto
key_is Return = k_return
key_is Fail = k_fail
key_is Vanish = k_vanish
key_is True = k_true
key_is False = k_false
key_is Not = k_not
key_is And = k_and
key_is Or = k_or
key_is Lookup = k_lookup
key_is Mutate = k_mutate
key_is Dispose = k_dispose

-- an entry of the code's table, and as the definitions have it
abbrev pub Entry : Type 0
Entry = record { now : List ℕ } × Key

abbrev pub entry : Entry → List ℕ × Text.Key
entry e = (e.0.now, key_is e.1)

unfoldable pub keyed : Option Key → M.Option Text.Key
keyed None = M.none
keyed (Some k) = M.some (key_is k)

-- a key's word
unfoldable pub reserved : Key → List ℕ
reserved Ifgoto = bytes "ifgoto"
reserved Return = bytes "return"
reserved Fail = bytes "fail"
reserved Vanish = bytes "vanish"
reserved True = bytes "true"
reserved False = bytes "false"
reserved Not = bytes "not"
reserved And = bytes "and"
reserved Or = bytes "or"
reserved Lookup = bytes "lookup"
reserved Mutate = bytes "mutate"
reserved Dispose = bytes "dispose"

-- the one entry of the table that a run may be: its word and its key, and no other key's word is the run
abbrev pub IsCandidate : List ℕ → Option (Bor (List ℕ) × Key) → Type 0
IsCandidate w r = MatchOption r ((k : Key) → same w (reserved k) ≡ false) (λ e. (e.0.now ≡ reserved e.1) × ((k : Key) → same w (reserved k) ≡ true → k ≡ e.1))

-- the key of an entry where the run is its word
unfoldable pub taken_in : List ℕ → List ℕ → Key → Option Key
taken_in w word k = elim (same w word) [ true ↦ Some k | false ↦ None ]

-- the first letter and the length leave one reserved word to be looked up
unfoldable pub started_by : ℕ → ℕ → Option Key
started_by b n =
    elim (eqb b 105) [
      | true ↦ Some Ifgoto
      | false ↦ elim (eqb b 114) [
        | true ↦ Some Return
        | false ↦ elim (eqb b 102) [
          | true ↦ elim (eqb n 5) [ true ↦ Some False | false ↦ Some Fail ]
          | false ↦ elim (eqb b 118) [
            | true ↦ Some Vanish
            | false ↦
                elim (eqb b 116) [
                  | true ↦ Some True
                  | false ↦ elim (eqb b 110) [
                    | true ↦ Some Not
                    | false ↦ elim (eqb b 97) [
                      | true ↦ Some And
                      | false ↦ elim (eqb b 111) [
                        | true ↦ Some Or
                        | false ↦
                            elim (eqb b 108) [ true ↦ Some Lookup | false ↦ elim (eqb b 109) [ true ↦ Some Mutate | false ↦ elim (eqb b 100) [ true ↦ Some Dispose | false ↦ None ] ] ]
                      ]
                    ]
                  ]
                ]
          ]
        ]
      ]
    ]
