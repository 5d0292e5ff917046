-- `branch::Branch::split` meets its contract. Assumes nothing.
use Rattle.std.proofs.Common.{◌≡◌, ℕ, refl, rules, Some, None}
use Rattle.std.proofs.lemmas.Bool.{lt-leb, le-leb}
use Rattle.machine_commands.specs.declared.Control.{Control}
use Rattle.machine_commands.specs.declared.Next.{Next}
use Rattle.machine_commands.specs.declared.Next.TheVariants.{On, Returned, Failed, Vanished, Error, Fork}
use Rattle.table_branch.specs.declared.Branch.{Branch}
use Rattle.table_branch.specs.Mirror.{split_in}
use Rattle.table_branch.proofs.Branch.split.Goals as goal

others : (b : Branch) (x : Next) (n most : ℕ) → ((t : ℕ) (y z : Control) → x ≡ Fork t y z → ⊥) → None ≡ split_in b (Some x) n most
unfolding split_in
others b (On d) n most h = refl
others b (Returned t w) n most h = refl
others b (Failed t w) n most h = refl
others b Vanished n most h = refl
others b (Error e) n most h = refl
others b (Fork t y z) n most h = absurd (h t y z refl)

pub returns-in_err-next : goal.returns-in_err-next
unfolding split_in
returns-in_err-next c = search rules

pub returns-in_default : goal.returns-in_default
returns-in_default c = rw c.in_ok-next.was (others _ _ _ _ c.in_default.not-Fork)

pub returns-then-most-self : goal.returns-then-most-self
unfolding split_in
returns-then-most-self c = rw (c.in_ok-next.was, c.in-Fork.is) (simp (le-leb _ _ c.if-most-self.true))

pub returns : goal.returns
unfolding split_in
returns c = rw (c.in_ok-next.was, c.in-Fork.is, c.with.ensures, c.with-2.ensures, c.condition.ensures, c.condition-2.ensures, c.from.ensures, c.from-2.ensures) (simp (lt-leb _ _ c.if-most-self.false))
