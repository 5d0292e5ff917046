-- Where every path begins, and the two ends of the exploration, each as one law over words. Assumes nothing.
use Rattle.std.specs.Prelude.{ℕ, ◌≡◌, List, [], ◌∷◌, length, replicate}
use Rattle.std.proofs.Common.{◌∙◌, ap, eq-eqb, ne_eqb}
use Rattle.std.proofs.Math.Nat.{sub-zero}
use Rattle.lent_words.specs.Mirror.{put_words}
use Rattle.gil.specs.Machine as Machine
use Rattle.machine_commands.specs.Mirror.{start_store}
use Rattle.table_branch.specs.declared.Branch.{Branch}
use Rattle.table_walk.specs.declared.Budgets.{Budgets}
use Rattle.table_walk.specs.Mirror.{Reached, walks_in}
use Rattle.table_explore.specs.Mirror.{begin_in, explored, explored_by, explore_in}

pub from-begin : (code : List ℕ) (budgets : Budgets) {b : Branch} {store : List ℕ} (table pool : List ℕ) {t u : List ℕ} → b ≡ begin_in code
    → store ≡ start_store
    → t ≡ replicate (length table) 0 → u ≡ replicate (length pool) 0
    → {cells : List (Machine.Cell ℕ)} → cells ≡ []
    → {r : Reached} → r ≡ walks_in code budgets b store cells 0 t u 0
    → explored_by (length table) (length pool) r ≡ explore_in code budgets.steps budgets.branches table pool
unfolding walks_in explore_in begin_in
from-begin code budgets table pool h es et eu ec e =
    ap (explored_by (length table) (length pool)) (e ∙ rw (h, es, et, eu, ec, sub-zero))

pub ends-refused : (a b : ℕ) (r : Reached) {t u : List ℕ} → (r.refusal ≡ 0 → ⊥) → t ≡ replicate a 0 → u ≡ replicate b 0
    → explored r.refusal t u ≡ explored_by a b r
unfolding explored_by
ends-refused a b r z et eu = simp (ne_eqb r.refusal 0 z) (rw (et, eu))

pub ends_well : (a b : ℕ) (r : Reached) {t : List ℕ} → r.refusal ≡ 0 → t ≡ put_words r.table 0 (r.rows ∷ r.count ∷ [])
    → explored r.refusal t r.pool ≡ explored_by a b r
unfolding explored_by
ends_well a b r z et = simp (eq-eqb r.refusal 0 z) (rw (z, et))

pub zeroed : (k n : ℕ) {t : List ℕ} → t ≡ replicate k 0 → k ≡ n → t ≡ replicate n 0
zeroed k n e h = rw h at e
