-- `op_text` meets its contract. Assumes nothing.
use Rattle.std.proofs.Common.{◌≡◌, ◌⊎◌, inl, inr, refl}
use Rattle.gil.specs.Text.{bytes}
use Rattle.gil.specs.Codes.{kind_number}
use Rattle.gil.specs.declared.kinds.TermKind.{TermKind}
use Rattle.gil.specs.declared.kinds.TermKind.TheVariants.{Input, Not, Or}
use Rattle.print_values.specs.Mirror.{op_form}
use Rattle.print_values.proofs.op_text.Goals as goal

or_else : (k : TermKind) → (k ≡ Or) ⊎ ((k ≡ Input) ⊎ (k ≡ Not)) → bytes " or " ≡ op_form (kind_number k)
unfolding op_form bytes
or_else k (inl e) = rw e refl
or_else k (inr (inl e)) = rw e refl
or_else k (inr (inr e)) = rw e refl

pub returns-in-Plus : goal.returns-in-Plus
unfolding op_form bytes
returns-in-Plus c = rw c.in-Plus.is refl

pub returns-in-Minus : goal.returns-in-Minus
unfolding op_form bytes
returns-in-Minus c = rw c.in-Minus.is refl

pub returns-in-Equal : goal.returns-in-Equal
unfolding op_form bytes
returns-in-Equal c = rw c.in-Equal.is refl

pub returns-in-Less : goal.returns-in-Less
unfolding op_form bytes
returns-in-Less c = rw c.in-Less.is refl

pub returns-in-And : goal.returns-in-And
unfolding op_form bytes
returns-in-And c = rw c.in-And.is refl

pub returns-in-Or : goal.returns-in-Or
unfolding op_form bytes
returns-in-Or c = or_else c.args.kind c.in-Or.is
