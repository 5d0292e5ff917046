-- `advance::advance` meets its contract. Assumes nothing.
use Rattle.std.proofs.Common.{◌≡◌, ℕ, false, refl, rules, tests}
use Rattle.machine_commands.specs.declared.Control.{Control}
use Rattle.machine_commands.specs.declared.Next.{Next}
use Rattle.machine_commands.specs.declared.Next.TheVariants.{On, Returned, Failed, Vanished, Error, Fork}
use Rattle.table_advance.specs.Mirror.Followed.{one_in, goes_in}
use Rattle.table_advance.proofs.advance.Goals as goal

others : (x : Next) (n : ℕ) → ((d : Control) → x ≡ On d → ⊥) → false ≡ goes_in x n
unfolding goes_in
others (On d) n h = absurd (h d refl)
others (Returned t w) n h = refl
others (Failed t w) n h = refl
others Vanished n h = refl
others (Error e) n h = refl
others (Fork t a b) n h = refl

pub returns-in_default : goal.returns-in_default
unfolding one_in
returns-in_default c = record { moved = c.step-next.ensures; goes = others _ _ c.in_default.not-On }

pub returns-then-count-gt-MOST_TERMS-clause-moved : goal.returns-then-count-gt-MOST_TERMS-clause-moved
unfolding one_in
returns-then-count-gt-MOST_TERMS-clause-moved c = c.in-On.ensures

pub returns-then-count-gt-MOST_TERMS-clause-goes : goal.returns-then-count-gt-MOST_TERMS-clause-goes
unfolding goes_in
returns-then-count-gt-MOST_TERMS-clause-goes c = search (rules, tests)

pub returns-clause-moved : goal.returns-clause-moved
unfolding one_in
returns-clause-moved c = c.in-On.ensures

pub returns-clause-goes : goal.returns-clause-goes
unfolding goes_in
returns-clause-goes c = search (rules, tests)
