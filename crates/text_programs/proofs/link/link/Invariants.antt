-- `link::link`: what is linked so far, and the rest. Assumes nothing.
use Rattle.std.proofs.Common.{◌≡◌, ◌-◌, min, length}
use Rattle.text_names.specs.Mirror.Tables.{known, most_names}
use Rattle.text_programs.specs.Mirror.Linked.{callee_in}
use Rattle.text_programs.specs.Steps.Linked.{link_from}
use Rattle.text_programs.proofs.link.link.Given as goal

abbrev pub invariant-loop-i : goal.invariant-loop-i
invariant-loop-i l = length l.calls.places ≡ most_names → length (known l.text l.procs) ≡ min l.procs.count l.procs.most → link_from (callee_in l.text l.calls l.procs) l.initial.code 0 l.commands ≡ link_from (callee_in l.text l.calls l.procs) l.code l.i (l.commands - l.i)
