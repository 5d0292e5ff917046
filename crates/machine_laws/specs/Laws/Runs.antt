-- What the two runs of the engine need: where a path begins; that with known inputs no term is made and no fork taken; and that a command
-- makes few terms, so that counting them in 32 bits is exact while the pool is not overfull. Assumes nothing.
use Rattle.std.specs.Prelude.{ℕ, ◌+◌, ◌<◌, ◌≡◌, refl, List, [], get_or, set, replicate}
use Rattle.std.proofs.Common.{◌∙◌, ap, arith, length-set, get_or-set_other}
use Rattle.std.proofs.Math.Option.{none, some}
use Rattle.std.proofs.lemmas.List.{length-replicate, get_or-replicate}
use Rattle.gil.specs.Numbers.{most_variables}
use Rattle.gil.specs.Names.{Program}
use Rattle.gil.specs.Values.{const, number}
use Rattle.gil.specs.Machine as Machine
use Rattle.gil.specs.Machine.{Model, there, start, unused, frame, procedure_at}
use Rattle.gil.specs.Plain.{plain}
use Rattle.machine_code.specs.Code.{program_words, store_words}
use Rattle.machine_code.specs.WellFormed.{WellFormed}
use Rattle.machine_code.specs.Mirror.{code_word}
use Rattle.machine_values.specs.Laws as Values
use Rattle.machine_terms.specs.Laws.Engine.{Engine, const_as}
use Rattle.machine_terms.specs.Laws.Plain.{plain_engine}
use Rattle.machine_commands.specs.declared.Control.{Control}
use Rattle.machine_commands.specs.declared.Next.{Next}
use Rattle.machine_commands.specs.declared.Next.TheVariants.{Fork}
use Rattle.machine_commands.specs.Mirror.{start_in, start_store}
use Rattle.machine_laws.specs.Laws.State.{no_cells, main_frame}
use Rattle.machine_laws.specs.Laws.Frames.{new-slot}
use Rattle.machine_laws.specs.Laws.Moves.{StateAs, NextAs, goes_on, has_returned, has_failed, has_vanished, has_erred, has_forked}
use Rattle.machine_laws.specs.Laws.Words.{procedure-fits}

-- "`main` starts with its parameter at 0"
start_word : (z : ℕ) → 0 < z → z < most_variables → get_or start_store (0 + z) 0 ≡ 0
unfolding start_store
start_word z pos few =
    let e : 0 + z ≡ z = omega arith in
    ap (λ (i : ℕ). get_or (set (replicate store_words 0) 0 4294967296) i 0) e
    ∙ get_or-set_other (replicate store_words 0) 0 z 4294967296 0 (λ f. absurd (omega arith))
    ∙ get_or-replicate store_words z 0 0 (omega arith)

pub start_as : {M : Model} (E : Engine M) (p : Program) → WellFormed p → StateAs E p (start p) (start_in (program_words p)) start_store []
unfolding start unused frame start_in code_word program_words start_store
start_as E p well =
    record {
      procedure = refl;
      command = refl;
      whole = length-set {A = ℕ} (replicate store_words 0) 0 4294967296 ∙ length-replicate {A = ℕ} store_words 0;
      low = omega arith;
      frames =
          main_frame
          (record {
            slots = λ z few.
                new-slot E.TermAs (const_as (Values.a_number {n = 0} (omega arith))) (procedure_at p p.main).variables z start_store 0
                (procedure-fits p well p.main well.main_there).some_variable few refl start_word;
            size = length-set (replicate (procedure_at p p.main).variables none) 0 (some (const (number 0)))
                ∙ length-replicate (procedure_at p p.main).variables none;
            there = well.main_there;
          });
      memory = record { inputs = refl; locations = refl; cells = no_cells };
    }

-- with known inputs no fork is taken; that no term is made is `Untouched`, the world of `plain_engine`
pub no-fork : (inputs : List ℕ) (fits : (i : ℕ) → get_or inputs i 0 < 4294967296) (pool : List ℕ) (count : ℕ) {p : Program}
    {store store' : List ℕ} {ds ds' : List (Machine.Cell ℕ)} {n : Machine.Next (plain inputs).Term} {r : Next}
    → NextAs (plain_engine inputs fits pool count) p store ds n r store' ds'
    → (t : ℕ) (a b : Control)
    → r ≡ Fork t a b
    → ⊥
unfolding plain
no-fork inputs fits pool count (goes_on h) t a b e = let z : ◌≡◌ {A = ℕ} 0 1 = cc in omega arith
no-fork inputs fits pool count (has_returned h) t a b e = let z : ◌≡◌ {A = ℕ} 0 1 = cc in omega arith
no-fork inputs fits pool count (has_failed h) t a b e = let z : ◌≡◌ {A = ℕ} 0 1 = cc in omega arith
no-fork inputs fits pool count has_vanished t a b e = let z : ◌≡◌ {A = ℕ} 0 1 = cc in omega arith
no-fork inputs fits pool count (has_erred z) t a b e = let z : ◌≡◌ {A = ℕ} 0 1 = cc in omega arith
no-fork inputs fits pool count (has_forked {t = u} h j k) t a b e = absurd u
