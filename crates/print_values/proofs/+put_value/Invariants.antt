-- `put_value` meets its contract. Assumes nothing.
use Rattle.print_values.proofs.+put_value.Given as goal

abbrev pub decreases-put_value : goal.decreases-put_value
decreases-put_value l = l.deep
