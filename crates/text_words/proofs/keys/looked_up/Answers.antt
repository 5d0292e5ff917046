-- `keys::looked_up` meets its contract: each arm takes its entry of the table. Assumes nothing.
use Rattle.std.specs.Prelude.{refl, length, get_or}
use Rattle.std.proofs.Common.{sym, ◌∙◌, eqb-true, arith}
use Rattle.gil.specs.Text.{bytes}
use Rattle.text_words.specs.declared.keys.Key.TheVariants.{Ifgoto, Return, Fail, Vanish, True, False, Not, And, Or, Lookup, Mutate, Dispose}
use Rattle.text_words.specs.Mirror.Keys.{reserved, started_by}
use Rattle.text_words.specs.Steps.Keys.{only, none, key-by, key-none, started_none, started_empty, started_false, started_fail}
use Rattle.text_words.proofs.keys.looked_up.Goals as goal

pub returns-in-105 : goal.returns-in-105
unfolding reserved bytes started_by
returns-in-105 c = key-by c.args.run.now Ifgoto _ (refl, only c.args.run.now Ifgoto (rw c.in-105.is)) c.taken.ensures

pub returns-in-114 : goal.returns-in-114
unfolding reserved bytes started_by
returns-in-114 c = key-by c.args.run.now Return _ (refl, only c.args.run.now Return (rw c.in-114.is)) c.taken-in-114.ensures

pub returns-in-118 : goal.returns-in-118
unfolding reserved bytes started_by
returns-in-118 c = key-by c.args.run.now Vanish _ (refl, only c.args.run.now Vanish (rw c.in-118.is)) c.taken-in-118.ensures

pub returns-in-116 : goal.returns-in-116
unfolding reserved bytes started_by
returns-in-116 c = key-by c.args.run.now True _ (refl, only c.args.run.now True (rw c.in-116.is)) c.taken-in-116.ensures

pub returns-in-110 : goal.returns-in-110
unfolding reserved bytes started_by
returns-in-110 c = key-by c.args.run.now Not _ (refl, only c.args.run.now Not (rw c.in-110.is)) c.taken-in-110.ensures

pub returns-in-97 : goal.returns-in-97
unfolding reserved bytes started_by
returns-in-97 c = key-by c.args.run.now And _ (refl, only c.args.run.now And (rw c.in-97.is)) c.taken-in-97.ensures

pub returns-in-111 : goal.returns-in-111
unfolding reserved bytes started_by
returns-in-111 c = key-by c.args.run.now Or _ (refl, only c.args.run.now Or (rw c.in-111.is)) c.taken-in-111.ensures

pub returns-in-108 : goal.returns-in-108
unfolding reserved bytes started_by
returns-in-108 c = key-by c.args.run.now Lookup _ (refl, only c.args.run.now Lookup (rw c.in-108.is)) c.taken-in-108.ensures

pub returns-in-109 : goal.returns-in-109
unfolding reserved bytes started_by
returns-in-109 c = key-by c.args.run.now Mutate _ (refl, only c.args.run.now Mutate (rw c.in-109.is)) c.taken-in-109.ensures

pub returns-in-100 : goal.returns-in-100
unfolding reserved bytes started_by
returns-in-100 c = key-by c.args.run.now Dispose _ (refl, only c.args.run.now Dispose (rw c.in-100.is)) c.taken-in-100.ensures

pub returns-then-is_empty : goal.returns-then-is_empty
returns-then-is_empty c = key-none c.args.run.now (none c.args.run.now (started_empty c.args.run.now (eqb-true (length c.args.run.now) 0 (sym c.is_empty.ensures ∙ c.if-is_empty.true))))

pub returns-then-run-eq5 : goal.returns-then-run-eq5
unfolding reserved bytes
returns-then-run-eq5 c = key-by c.args.run.now False _ (refl, only c.args.run.now False (started_false c.args.run.now c.in-102.is c.if-run-eq5.true)) c.taken-then-run-eq5.ensures

pub returns-else-run-eq5 : goal.returns-else-run-eq5
unfolding reserved bytes
returns-else-run-eq5 c = key-by c.args.run.now Fail _ (refl, only c.args.run.now Fail (started_fail c.args.run.now c.in-102.is c.if-run-eq5.false)) c.taken-else-run-eq5.ensures

pub returns-in_default : goal.returns-in_default
returns-in_default c = key-none c.args.run.now (none c.args.run.now (started_none (get_or c.args.run.now 0 0) (length c.args.run.now) (λ e. omega arith) (λ e. omega arith) (λ e. omega arith) (λ e. omega arith) (λ e. omega arith) (λ e. omega arith) (λ e. omega arith) (λ e. omega arith) (λ e. omega arith) (λ e. omega arith) (λ e. omega arith)))
