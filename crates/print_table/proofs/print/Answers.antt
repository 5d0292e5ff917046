-- `print` meets its contract. Assumes nothing.
use Rattle.std.proofs.Common.{ℕ, ◌≤◌, ◌≡◌, length, replicate, sym, arith, length-take-le}
use Rattle.std.proofs.lemmas.List.{length-replicate}
use Rattle.print_laws.specs.Laws.Room.{printed_length}
use Rattle.print_text.specs.Promise.{prints-room}
use Rattle.print_table.proofs.print.Goals as goal

-- the memory that is lent
room : printed_length ≤ length {A = ℕ} (replicate printed_length 0)
room = let e : length {A = ℕ} (replicate printed_length 0) ≡ printed_length = length-replicate {A = ℕ} printed_length 0 in omega arith

pub slice_bounds-out-end : goal.slice_bounds-out-end
slice_bounds-out-end g c = prints-room room c.print_table-end.ensures

pub slice_bounds-write_all-end : goal.slice_bounds-write_all-end
slice_bounds-write_all-end g c = sym (length-take-le _ _ (prints-room room c.print_table-end.ensures))
