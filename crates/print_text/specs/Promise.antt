-- What `print_table` promises of every text: document 01's printed table of it, as much as there is room for, with the length of all of it,
-- and all of it where there are 262,144 bytes. Assumes nothing.
use Rattle.std.specs.Prelude.{ℕ, ◌+◌, ◌≤◌, ◌≡◌, List, length, drop}
use Rattle.std.proofs.Common.{arith, ◌∙◌, ap, length-append}
use Rattle.gil.specs.Printed.{printed}
use Rattle.print_writing.specs.Laws.{Front, Whole}
use Rattle.print_laws.specs.Laws.Room.{printed_length}

pub record Prints (text b b' : List ℕ) (r : ℕ) : Type 0 where
  pub front : Front (printed text) b b' r
  pub whole : printed_length ≤ length b → Whole (printed text) b b' r

-- where there are so many, what is printed lies within the memory lent
pub prints-room : {text b b' : List ℕ} {r : ℕ} → printed_length ≤ length b → Prints text b b' r → r ≤ length b'
prints-room {text} {b} {b'} {r} h f =
    let w : Whole (printed text) b b' r = f.whole h in
    let l : length b' ≡ length (printed text) + length (drop (length (printed text)) b) =
    ap length w.bytes ∙ length-append (printed text) (drop (length (printed text)) b) in
    omega (arith, w.count)
