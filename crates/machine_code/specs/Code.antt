-- An accepted program as an array of 10,802 words, between the reader that writes it and the engine that reads it; no C caller sees it.
-- Words 0 and 1: the number of procedures, and which is `main`. From 2: three words for each of 16 procedures. From 50: five words for
-- each of 512 commands, all procedures' in order. From 2,610: the expressions in prefix form, one word a node. Assumes nothing.
use Rattle.std.specs.Prelude.{ℕ, ◌+◌, ◌*◌, ◌≡◌, refl, true, false, List, [], ◌∷◌, ◌++◌, length, ltb}
use Rattle.gil.specs.Numbers.{most_frames}
use Rattle.gil.specs.Tree.{Op, plus, minus, equal, less, and, or, Expr, num, bool, var, neg, bin, Cmd, assign, ifgoto, call, lookup, mutate, dispose, u_sym, i_sym, return, fail, vanish}
use Rattle.gil.specs.Names.{gather, Procedure, Program}
use Rattle.gil.specs.Layout.{bit, room}

-- their places and sizes, by name; the code has the same names in capitals
abbrev pub code_words : ℕ
code_words = 10802

abbrev pub procedures_at : ℕ
procedures_at = 2

abbrev pub procedures_room : ℕ
procedures_room = 48

abbrev pub procedure_size : ℕ
procedure_size = 3

abbrev pub commands_at : ℕ
commands_at = 50

abbrev pub commands_room : ℕ
commands_room = 2560

abbrev pub command_size : ℕ
command_size = 5

abbrev pub nodes_at : ℕ
nodes_at = 2610

abbrev pub nodes_room : ℕ
nodes_room = 8192

-- where procedure n and command n of all stand
abbrev pub procedure_at : ℕ → ℕ
procedure_at n = procedures_at + procedure_size * n

abbrev pub command_at : ℕ → ℕ
command_at n = commands_at + command_size * n

-- the store of a path: for each of 8 frames its 16 variables, and the procedure, command and variable that it returns to
abbrev pub frame_words : ℕ
frame_words = 19

abbrev pub store_words : ℕ
store_words = 152

abbrev pub returns_at : ℕ
returns_at = 16

-- a command's kind: its number in document 01's table
abbrev pub assign_kind : ℕ
assign_kind = 1

abbrev pub jump_kind : ℕ
jump_kind = 2

abbrev pub call_kind : ℕ
call_kind = 3

abbrev pub lookup_kind : ℕ
lookup_kind = 4

abbrev pub mutate_kind : ℕ
mutate_kind = 5

abbrev pub dispose_kind : ℕ
dispose_kind = 6

abbrev pub u_sym_kind : ℕ
u_sym_kind = 7

abbrev pub i_sym_kind : ℕ
i_sym_kind = 8

abbrev pub return_kind : ℕ
return_kind = 9

abbrev pub fail_kind : ℕ
fail_kind = 10

abbrev pub vanish_kind : ℕ
vanish_kind = 11

-- a node's kind: 0 number, and
abbrev pub truth_node : ℕ
truth_node = 1

abbrev pub variable_node : ℕ
variable_node = 2

abbrev pub next_word_node : ℕ
next_word_node = 3

abbrev pub not_node : ℕ
not_node = 4

abbrev pub plus_node : ℕ
plus_node = 5

abbrev pub minus_node : ℕ
minus_node = 6

abbrev pub equal_node : ℕ
equal_node = 7

abbrev pub less_node : ℕ
less_node = 8

abbrev pub and_node : ℕ
and_node = 9

abbrev pub or_node : ℕ
or_node = 10

-- a node: its kind in the upper four bits, a number in the other 28; a number of more bits stands in the next word
abbrev pub kind_range : ℕ
kind_range = 268435456

-- the first node that is a variable, a number in the next word, `not`
abbrev pub variable_from : ℕ
variable_from = 536870912

abbrev pub next_word_from : ℕ
next_word_from = 805306368

abbrev pub not_from : ℕ
not_from = 1073741824

abbrev pub node : ℕ → ℕ → ℕ
node kind w = kind_range * kind + w

unfoldable pub op_word : Op → ℕ
op_word plus = plus_node
op_word minus = minus_node
op_word equal = equal_node
op_word less = less_node
op_word and = and_node
op_word or = or_node

unfoldable pub number_words : ℕ → List ℕ
number_words n = elim (ltb n kind_range) [ true ↦ n ∷ [] | false ↦ node next_word_node 0 ∷ n ∷ [] ]

-- an expression's words: beside its kind a node has its number, its variable or, for an operator, how many words its first operand takes
unfoldable pub expr_words : Expr ℕ → List ℕ
expr_words (num n) = number_words n
expr_words (bool b) = node truth_node (bit b) ∷ []
expr_words (var x) = node variable_node x ∷ []
expr_words (neg e) = node not_node 0 ∷ expr_words e
expr_words (bin o a b) = node (op_word o) (length (expr_words a)) ∷ (expr_words a ++ expr_words b)

-- the words of a command's expressions
unfoldable pub cmd_nodes : Cmd ℕ → List ℕ
cmd_nodes (assign x e) = expr_words e
cmd_nodes (ifgoto e n) = expr_words e
cmd_nodes (call x f e) = expr_words e
cmd_nodes (lookup x e q) = expr_words e
cmd_nodes (mutate x e q d) = expr_words e ++ expr_words d
cmd_nodes (dispose x e) = expr_words e
cmd_nodes (u_sym x j) = []
cmd_nodes (i_sym x j) = []
cmd_nodes (return e) = expr_words e
cmd_nodes (fail e) = expr_words e
cmd_nodes vanish = []

-- a command's five words, its expressions standing from `at`: its number in document 01's table; its variable, or where it jumps; where
-- its expression stands; its procedure, property or site; where its second expression stands
unfoldable pub cmd_words : ℕ → Cmd ℕ → List ℕ
cmd_words at (assign x e) = assign_kind ∷ x ∷ at ∷ 0 ∷ 0 ∷ []
cmd_words at (ifgoto e n) = jump_kind ∷ n ∷ at ∷ 0 ∷ 0 ∷ []
cmd_words at (call x f e) = call_kind ∷ x ∷ at ∷ f ∷ 0 ∷ []
cmd_words at (lookup x e q) = lookup_kind ∷ x ∷ at ∷ q ∷ 0 ∷ []
cmd_words at (mutate x e q d) = mutate_kind ∷ x ∷ at ∷ q ∷ (at + length (expr_words e)) ∷ []
cmd_words at (dispose x e) = dispose_kind ∷ x ∷ at ∷ 0 ∷ 0 ∷ []
cmd_words at (u_sym x j) = u_sym_kind ∷ x ∷ 0 ∷ j ∷ 0 ∷ []
cmd_words at (i_sym x j) = i_sym_kind ∷ x ∷ 0 ∷ j ∷ 0 ∷ []
cmd_words at (return e) = return_kind ∷ 0 ∷ at ∷ 0 ∷ 0 ∷ []
cmd_words at (fail e) = fail_kind ∷ 0 ∷ at ∷ 0 ∷ 0 ∷ []
cmd_words at vanish = vanish_kind ∷ 0 ∷ 0 ∷ 0 ∷ 0 ∷ []

unfoldable pub command_words : ℕ → List (Cmd ℕ) → List ℕ
command_words at [] = []
command_words at (c ∷ cs) = cmd_words at c ++ command_words (at + length (cmd_nodes c)) cs

-- a procedure's three words: the number of its first command among all, of its variables, of its commands
unfoldable pub procedure_words : ℕ → List Procedure → List ℕ
procedure_words first [] = []
procedure_words first (q ∷ qs) = first ∷ q.variables ∷ length q.body ∷ procedure_words (first + length q.body) qs

unfoldable pub all_commands : Program → List (Cmd ℕ)
all_commands p = gather (λ q. q.body) p.procedures

unfoldable pub program_words : Program → List ℕ
program_words p =
    (length p.procedures ∷ p.main ∷ [])
    ++ room procedures_room (procedure_words 0 p.procedures)
    ++ room commands_room (command_words nodes_at (all_commands p))
    ++ room nodes_room (gather cmd_nodes (all_commands p))

-- they fit each other
pub code_fits :
    (procedures_at + procedures_room ≡ commands_at) × (commands_at + commands_room ≡ nodes_at) × (nodes_at + nodes_room ≡ code_words)
code_fits = (refl, refl, refl)

pub nodes-fit : (node variable_node 0 ≡ variable_from) × (node next_word_node 0 ≡ next_word_from) × (node not_node 0 ≡ not_from)
nodes-fit = (refl, refl, refl)

pub store-fits : most_frames * frame_words ≡ store_words
store-fits = refl
