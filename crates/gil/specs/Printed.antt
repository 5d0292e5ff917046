-- "The printed table": CSV, RFC 4180, every line ended by CRLF. No field holds a comma, a quote or a line's end, so none is quoted.
-- Assumes nothing.
use Rattle.std.specs.Prelude.{ℕ, zero, suc, ◌+◌, ◌/◌, ◌%◌, Bool, true, false, List, [], ◌∷◌, ◌++◌, length, get_or, ltb, leb}
use Rattle.std.proofs.Math.Option.{Option, none, some}
use Rattle.gil.specs.Text.{bytes}
use Rattle.gil.specs.Tree.{Op, plus, minus, equal, less, and, or}
use Rattle.gil.specs.Numbers.{most_steps, most_branches}
use Rattle.gil.specs.Names.{Program, Checked, refused, accepted, check_text}
use Rattle.gil.specs.Values.{Constant, number, boolean, location, Value, const, term, Node, input, neg, bin}
use Rattle.gil.specs.Machine.{procedure_at, End, returned, failed, vanished, error}
use Rattle.gil.specs.Rows.{Condition, steps, branches, Outcome, ended, cut, Row}
use Rattle.gil.specs.Explore as Explore
use Rattle.gil.specs.Explore.{Explored, explored}
use Rattle.gil.specs.Pool.{Ref, place_in, Pool, table}

-- decimal, with at most `k` digits more than one; nine serve every 32-bit number
unfoldable pub digits : ℕ → ℕ → List ℕ
digits zero n = (48 + n % 10) ∷ []
digits (suc k) n = elim (ltb n 10) [ true ↦ (48 + n) ∷ [] | false ↦ digits k (n / 10) ++ ((48 + n % 10) ∷ []) ]

unfoldable pub decimal : ℕ → List ℕ
decimal n = digits 9 n

unfoldable pub truth_text : Bool → List ℕ
truth_text true = bytes "true"
truth_text false = bytes "false"

-- "Terms print with `#k`, `$k`, and brackets as in the text, one space around an operator and after `not`"
unfoldable pub constant_text : Constant → List ℕ
constant_text (number n) = decimal n
constant_text (boolean b) = truth_text b
constant_text (location l) = 36 ∷ decimal l

unfoldable pub op_text : Op → List ℕ
op_text plus = bytes " + "
op_text minus = bytes " - "
op_text equal = bytes " = "
op_text less = bytes " < "
op_text and = bytes " and "
op_text or = bytes " or "

-- "one whose text would pass 200 bytes": `none`, and so is whatever holds it
unfoldable pub at_most200 : List ℕ → Option (List ℕ)
at_most200 t = elim (leb (length t) 200) [ true ↦ some t | false ↦ none ]

unfoldable pub not_text : Option (List ℕ) → Option (List ℕ)
not_text none = none
not_text (some a) = at_most200 (bytes "not " ++ a)

unfoldable pub op_texts : Op → Option (List ℕ) → Option (List ℕ) → Option (List ℕ)
op_texts o none b = none
op_texts o (some a) none = none
op_texts o (some a) (some b) = at_most200 (40 ∷ (a ++ op_text o ++ b ++ (41 ∷ [])))

-- the texts of the pool's terms, front to back: `ts` are those of the terms before
unfoldable pub value_text : List (Option (List ℕ)) → Value Ref → Option (List ℕ)
value_text ts (const c) = some (constant_text c)
value_text ts (term r) = get_or ts (place_in r) none

unfoldable pub node_text : List (Option (List ℕ)) → Node Ref → Option (List ℕ)
node_text ts (input k) = some (35 ∷ decimal k)
node_text ts (neg a) = not_text (value_text ts a)
node_text ts (bin o a b) = op_texts o (value_text ts a) (value_text ts b)

unfoldable pub texts_from : List (Option (List ℕ)) → Pool → List (Option (List ℕ))
texts_from ts [] = ts
texts_from ts (n ∷ ns) = texts_from (ts ++ (node_text ts n ∷ [])) ns

unfoldable pub pool_texts : Pool → List (Option (List ℕ))
pool_texts w = texts_from [] w

-- "prints as `large`"
unfoldable pub or_large : Option (List ℕ) → List ℕ
or_large none = bytes "large"
or_large (some t) = t

unfoldable pub value_field : List (Option (List ℕ)) → Value Ref → List ℕ
value_field ts v = or_large (value_text ts v)

-- outcome and value: "term for returned and failed, number for error, `steps` or `branches` for cut, empty for vanished"
unfoldable pub end_fields : List (Option (List ℕ)) → End Ref → List ℕ
end_fields ts (returned v) = bytes "returned," ++ value_field ts v
end_fields ts (failed v) = bytes "failed," ++ value_field ts v
end_fields ts vanished = bytes "vanished,"
end_fields ts (error n) = bytes "error," ++ decimal n

unfoldable pub outcome_fields : List (Option (List ℕ)) → Outcome Ref → List ℕ
outcome_fields ts (ended e) = end_fields ts e
outcome_fields ts (cut steps) = bytes "cut,steps"
outcome_fields ts (cut branches) = bytes "cut,branches"

-- "A condition that must be false has `not ` before it."
unfoldable pub unless_true : Bool → List ℕ
unless_true true = []
unless_true false = bytes "not "

unfoldable pub condition_text : List (Option (List ℕ)) → Condition Ref → List ℕ
condition_text ts c = unless_true c.truth ++ value_field ts (term c.term)

-- "conditions joined by `; `, or `true` where there are none"
unfoldable pub conditions_after : List (Option (List ℕ)) → List (Condition Ref) → List ℕ
conditions_after ts [] = []
conditions_after ts (c ∷ cs) = bytes "; " ++ condition_text ts c ++ conditions_after ts cs

unfoldable pub conditions_field : List (Option (List ℕ)) → List (Condition Ref) → List ℕ
conditions_field ts [] = bytes "true"
conditions_field ts (c ∷ cs) = condition_text ts c ++ conditions_after ts cs

unfoldable pub line_end : List ℕ
line_end = 13 ∷ 10 ∷ []

unfoldable pub row_line : Program → List (Option (List ℕ)) → ℕ → Row Ref → List ℕ
row_line p ts k r =
    decimal k
    ++ (44 ∷ outcome_fields ts r.outcome)
    ++ (44 ∷ decimal r.steps)
    ++ (44 ∷ (procedure_at p r.procedure).name)
    ++ (44 ∷ decimal r.command)
    ++ (44 ∷ conditions_field ts r.conditions)
    ++ line_end

unfoldable pub row_lines : Program → List (Option (List ℕ)) → ℕ → List (Row Ref) → List ℕ
row_lines p ts k [] = []
row_lines p ts k (r ∷ rs) = row_line p ts k r ++ row_lines p ts (suc k) rs

unfoldable pub heading : List ℕ
heading = bytes "row,outcome,value,steps,procedure,command,conditions" ++ line_end

-- "A refusal prints one line, `refused,` and the number."
unfoldable pub refusal_line : ℕ → List ℕ
refusal_line n = bytes "refused," ++ decimal n ++ line_end

unfoldable pub explored_text : Program → Explored Pool Ref → List ℕ
explored_text p (Explore.refused n) = refusal_line n
explored_text p (explored w rows) = heading ++ row_lines p (pool_texts w) 0 rows

unfoldable pub checked_text : Checked → List ℕ
checked_text (refused n) = refusal_line n
checked_text (accepted p) = explored_text p (table p most_steps most_branches)

-- what the program prints for a text
unfoldable pub printed : List ℕ → List ℕ
printed s = checked_text (check_text s)
