-- `put_all` meets its contract. Assumes nothing.
use Rattle.std.proofs.Common.{take}
use Rattle.print_writing.specs.Mirror.{Wrote}
use Rattle.print_writing.proofs.put_all.Given as goal

abbrev pub invariant-loop-x : goal.invariant-loop-x
invariant-loop-x l = Wrote l.initial.out l.at (take l.x-index l.s) l.out l.place
