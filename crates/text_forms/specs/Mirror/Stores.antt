-- Stores into the words of a program; past the end they do nothing. Assumes nothing.
use Rattle.std.specs.Prelude.{ℕ, ◌+◌, true, false, List, set, ltb}
use Rattle.machine_code.specs.Code.{node, code_words, kind_range, next_word_node, command_at, procedure_at}
use Rattle.gil.specs.Numbers.{most_commands, most_procedures}

unfoldable pub put : List ℕ → ℕ → ℕ → List ℕ
put ws at v = elim (ltb at code_words) [ true ↦ set ws at v | false ↦ ws ]

unfoldable pub up_from : ℕ → ℕ
up_from at = elim (ltb at code_words) [ true ↦ at + 1 | false ↦ at ]

-- a number, and the place after it
unfoldable pub put_number : List ℕ → ℕ → ℕ → List ℕ
put_number ws at n = elim (ltb n kind_range) [ true ↦ put ws at n | false ↦ put (put ws at (node next_word_node 0)) (up_from at) n ]

unfoldable pub after_number : ℕ → ℕ → ℕ
after_number at n = elim (ltb n kind_range) [ true ↦ up_from at | false ↦ up_from (up_from at) ]

unfoldable pub put_command : List ℕ → ℕ → ℕ → ℕ → ℕ → ℕ → ℕ → List ℕ
put_command ws n kind variable place other second =
    let at = command_at n in
    elim (ltb n most_commands) [ true ↦ put (put (put (put (put ws at kind) (at + 1) variable) (at + 2) place) (at + 3) other) (at + 4) second | false ↦ ws ]

unfoldable pub put_procedure : List ℕ → ℕ → ℕ → ℕ → ℕ → List ℕ
put_procedure ws n first variables commands =
    let at = procedure_at n in
    elim (ltb n most_procedures) [ true ↦ put (put (put ws at first) (at + 1) variables) (at + 2) commands | false ↦ ws ]
