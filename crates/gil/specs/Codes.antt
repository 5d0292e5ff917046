-- The code's enums by the numbers that stand for them in words (Numbers), and which numbers stand for nothing. Assumes nothing.
use Rattle.std.specs.Prelude.{ℕ, ◌≡◌, ◌<◌, ◌⊎◌, Result, MatchResult}
use Rattle.gil.specs.Numbers.{not_bound, wrong_sort, no_such_cell, ninth_frame, seventeenth_input, seventeenth_location, thirty_third_cell}
use Rattle.gil.specs.Numbers.{as_returned, as_failed, as_vanished, as_error, as_cut, for_steps, for_branches}
use Rattle.gil.specs.Numbers.{number_tag, boolean_tag, location_tag, number_term_tag, boolean_term_tag}
use Rattle.gil.specs.Numbers.{input_kind, not_kind, plus_kind, minus_kind, equal_kind, less_kind, and_kind, or_kind}
use Rattle.gil.specs.declared.Unknown.{Unknown}
use Rattle.gil.specs.declared.errors.Error.{Error}
use Rattle.gil.specs.declared.errors.Error.TheVariants.{NotBound, WrongSort, NoSuchCell, NinthFrame, SeventeenthInput, SeventeenthLocation, ThirtyThirdCell}
use Rattle.gil.specs.declared.outcomes.Outcome.{Outcome}
use Rattle.gil.specs.declared.outcomes.Outcome.TheVariants as Outcomes
use Rattle.gil.specs.declared.outcomes.Outcome.TheVariants.{Returned, Failed, Vanished, Cut}
use Rattle.gil.specs.declared.outcomes.Reason.{Reason}
use Rattle.gil.specs.declared.outcomes.Reason.TheVariants.{Steps, Branches}
use Rattle.gil.specs.declared.tags.Tag.{Tag}
use Rattle.gil.specs.declared.tags.Tag.TheVariants.{Number, Boolean, Location, NumberTerm, BooleanTerm}
use Rattle.gil.specs.declared.kinds.TermKind.{TermKind}
use Rattle.gil.specs.declared.kinds.TermKind.TheVariants.{Input, Not, Plus, Minus, Equal, Less, And, Or}

abbrev pub error_number : Error → ℕ
error_number NotBound = not_bound
error_number WrongSort = wrong_sort
error_number NoSuchCell = no_such_cell
error_number NinthFrame = ninth_frame
error_number SeventeenthInput = seventeenth_input
error_number SeventeenthLocation = seventeenth_location
error_number ThirtyThirdCell = thirty_third_cell

abbrev pub outcome_number : Outcome → ℕ
outcome_number Returned = as_returned
outcome_number Failed = as_failed
outcome_number Vanished = as_vanished
outcome_number Outcomes.Error = as_error
outcome_number Cut = as_cut

abbrev pub reason_number : Reason → ℕ
reason_number Steps = for_steps
reason_number Branches = for_branches

abbrev pub tag_number : Tag → ℕ
tag_number Number = number_tag
tag_number Boolean = boolean_tag
tag_number Location = location_tag
tag_number NumberTerm = number_term_tag
tag_number BooleanTerm = boolean_term_tag

abbrev pub kind_number : TermKind → ℕ
kind_number Input = input_kind
kind_number Not = not_kind
kind_number Plus = plus_kind
kind_number Minus = minus_kind
kind_number Equal = equal_kind
kind_number Less = less_kind
kind_number And = and_kind
kind_number Or = or_kind

-- what a number is read as: that which it stands for, or nothing where it is 0 or past the last
abbrev pub Reads : {A : Type 0} → (A → ℕ) → ℕ → ℕ → Result A Unknown → Type 0
Reads number last code r = MatchResult r (λ a. number a ≡ code) (λ e. (e.0 ≡ code) × ((code ≡ 0) ⊎ (last < code)))

abbrev pub IsOutcomeOf : ℕ → Result Outcome Unknown → Type 0
IsOutcomeOf = Reads outcome_number as_cut

abbrev pub IsReasonOf : ℕ → Result Reason Unknown → Type 0
IsReasonOf = Reads reason_number for_branches

abbrev pub IsTagOf : ℕ → Result Tag Unknown → Type 0
IsTagOf = Reads tag_number boolean_term_tag

abbrev pub IsKindOf : ℕ → Result TermKind Unknown → Type 0
IsKindOf = Reads kind_number or_kind
