-- The words of a row's head, where a path stopped so: what each function of this crate answers. Assumes nothing.
use Rattle.std.specs.Prelude.{ℕ, ◌+◌, ◌*◌, ◌%◌, List, Option, None, Some}
use Rattle.gil.specs.Numbers.{for_steps, for_branches}
use Rattle.gil.specs.Codes.{error_number, outcome_number}
use Rattle.gil.specs.declared.outcomes.Outcome.TheVariants as Outcomes
use Rattle.machine_code.specs.Mirror.{code_word}
use Rattle.machine_commands.specs.declared.Control.{Control}
use Rattle.machine_commands.specs.declared.Next.{Next}
use Rattle.machine_commands.specs.declared.Next.TheVariants.{On, Returned, Failed, Vanished, Error, Fork}
use Rattle.table_rows.specs.declared.Head.{Head}
use Rattle.table_head.specs.declared.Ending.{Ending}

abbrev pub cut_of : (why : ℕ) → ℕ → Ending
cut_of why n = record { outcome = Outcomes.Cut; tag = 0; word = why; steps = n }

-- a row's outcome, its value, error number or reason, and its steps
unfoldable pub end_of : Next → ℕ → Ending
end_of (On d) n = cut_of for_branches n
end_of (Returned t w) n = record { outcome = Outcomes.Returned; tag = t; word = w; steps = (n + 1) % 4294967296 }
end_of (Failed t w) n = record { outcome = Outcomes.Failed; tag = t; word = w; steps = (n + 1) % 4294967296 }
end_of Vanished n = record { outcome = Outcomes.Vanished; tag = 0; word = 0; steps = (n + 1) % 4294967296 }
end_of (Error e) n = record { outcome = Outcomes.Error; tag = 0; word = error_number e; steps = (n + 1) % 4294967296 }
end_of (Fork t a b) n = cut_of for_branches n

-- no command stopped it: its steps were used up
unfoldable pub ended_in : Option Next → ℕ → Ending
ended_in None n = cut_of for_steps n
ended_in (Some next) n = end_of next n

unfoldable pub head_in : List ℕ → Ending → Control → ℕ → Head
head_in code e c conditions =
    record {
      outcome = outcome_number e.outcome;
      tag = e.tag;
      word = e.word;
      steps = e.steps;
      procedure = c.procedure;
      command = c.command;
      inputs = c.inputs.0;
      conditions = conditions;
      variables = code_word code (3 * c.procedure + 3);
    }
