-- What reading a text promises. Assumes nothing.
use Rattle.std.specs.Prelude.{ℕ, ◌<◌, ◌≡◌, List, length, get_or, set}
use Rattle.gil.specs.Text.{bytes}
use Rattle.gil.specs.Names.{place_of, Program, accepted, check_text}
use Rattle.gil.specs.Calls.{check_call}
use Rattle.gil.specs.Machine.{procedure_at}
use Rattle.machine_code.specs.Code.{program_words}
use Rattle.text_tokens.specs.Mirror.Seen.{name_at}
use Rattle.text_names.specs.declared.Names.{Names}
use Rattle.text_names.specs.Mirror.Tables.{known}
use Rattle.text_programs.specs.Mirror.Linked.{Links, nowhere}

-- The answer is the text's refusal, or 0; the words of an accepted text are its program's, and `names` holds the places in the text of its
-- procedures' names, in order.
pub record Reads (text code : List ℕ) (names : Names) (r : ℕ) : Type 0 where
  pub answer : r ≡ check_call text
  pub words : (p : Program) → check_text text ≡ accepted p → code ≡ program_words p
  pub named : (p : Program) → check_text text ≡ accepted p → (k : ℕ) → k < length p.procedures → name_at text (get_or names.places k nowhere) ≡ (procedure_at p k).name

-- what the end of reading does: callees are linked, and words 0 and 1 stored
pub record Finishes (s : List ℕ) (calls procs : Names) (commands : ℕ) (code code' : List ℕ) : Type 0 where
  pub linked : List ℕ
  pub links : Links s calls procs commands code linked
  pub stored : code' ≡ set (set linked 0 procs.count) 1 (place_of (bytes "main") (known s procs))
