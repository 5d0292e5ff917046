-- The first `n` cells are those kept of the first `i`; with those kept from there on they are the result, and the cells not in use are as they
-- were.
use Rattle.std.proofs.Common.{◌≡◌, ◌≤◌, ◌++◌, length, drop}
use Rattle.gil.specs.Machine.{without_cells}
use Rattle.machine_cells.specs.Mirror.{held_in, from_in}
use Rattle.machine_cells.proofs.remove.Given as goal

abbrev pub invariant-loop-i : goal.invariant-loop-i
invariant-loop-i l = record {
  low : l.n ≤ l.i;
  whole : length l.cells ≡ length l.initial.cells;
  kept : held_in l.n l.cells ++ without_cells l.l.0 (from_in l.i l.held l.cells) ≡ without_cells l.l.0 (held_in l.held l.initial.cells);
  behind : drop l.held l.cells ≡ drop l.held l.initial.cells;
}
