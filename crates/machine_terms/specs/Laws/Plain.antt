-- The plain run's model stands in words: it has no term, and its world is nothing. So the engine, run with known inputs, makes no term: the
-- pool and the count stay what they were. Assumes nothing.
use Rattle.std.specs.Prelude.{◌≡◌, ℕ, ◌<◌, Some, List, slice_index}
use Rattle.gil.specs.Plain.{plain, no_sort, known}
use Rattle.machine_values.specs.Laws.{a_number}
use Rattle.machine_terms.specs.Laws.Engine.{Engine, const_as, fresh_in}

-- the pool and the count are still these
pub record Untouched (pool₀ : List ℕ) (count₀ : ℕ) (w : Unit {0}) (pool : List ℕ) (count : ℕ) : Type 0 where
  pub same_pool : pool ≡ pool₀
  pub same_count : count ≡ count₀

abbrev pub NoTerm : ⊥ → ℕ → Type 0
NoTerm t x = ⊥

unfoldable pub plain_engine : (inputs : List ℕ) → ((i : ℕ) → slice_index inputs i < 4294967296) → (pool : List ℕ) (count : ℕ) → Engine (plain inputs)
unfolding plain no_sort known fresh_in
plain_engine inputs fits pool count =
    record {
      TermAs = NoTerm;
      WorldAs = Untouched pool count;
      tagged = λ {t} h. absurd h;
      makes_bin = λ o t h p q. absurd t;
      makes_neg = λ {w} {pool} {count} {t} h q. absurd t;
      known = Some inputs;
      makes_input = λ i h u. record { world = u; value = const_as (a_number (fits i)) };
    }
