-- `lexemes::run` meets its contract. Assumes nothing.
use Rattle.std.proofs.Common.{rules}
use Rattle.gil.specs.Text.{in_run}
use Rattle.text_tokens.specs.Steps.Runs.{run_short, run_name, run_number, run_key, run_u_site, run_i_site, run_fault}
use Rattle.text_tokens.proofs.lexemes.run.Goals as goal

pub between-requires-clause-short : goal.between-requires-clause-short
between-requires-clause-short c = run_short c.args.text.now c.args.i c.requires.0 c.requires.1 c.past-end.result (rw c.bytes-bytes.ensures.0 at c.past-end.ensures.ends in_run (λ b r l h. search rules)) (rw (c.bytes-bytes.ensures.0, c.in-Some-Name.field-0-is) at c.in-Some-Name.ensures)

pub returns-in-Some-Name : goal.returns-in-Some-Name
returns-in-Some-Name c = run_name c.args.text.now c.args.i c.requires.0 c.requires.1 c.past-end.result (rw c.bytes-bytes.ensures.0 at c.past-end.ensures.ends in_run (λ b r l h. search rules)) c.between.result c.between.ensures.0 c.between.ensures.1 (rw (c.bytes-bytes.ensures.0, c.in-Some-Name.field-0-is) at c.in-Some-Name.ensures)

pub returns-in-Some-Number : goal.returns-in-Some-Number
returns-in-Some-Number c = run_number c.args.text.now c.args.i c.requires.0 c.requires.1 c.past-end.result (rw c.bytes-bytes.ensures.0 at c.past-end.ensures.ends in_run (λ b r l h. search rules)) c.in-Some-Number.n (rw (c.bytes-bytes.ensures.0, c.in-Some-Number.field-0-is) at c.in-Some-Number.ensures)

pub returns-in-Some-Reserved : goal.returns-in-Some-Reserved
returns-in-Some-Reserved c = run_key c.args.text.now c.args.i c.requires.0 c.requires.1 c.past-end.result (rw c.bytes-bytes.ensures.0 at c.past-end.ensures.ends in_run (λ b r l h. search rules)) c.in-Some-Reserved.key (rw (c.bytes-bytes.ensures.0, c.in-Some-Reserved.field-0-is) at c.in-Some-Reserved.ensures)

pub returns-in-Some-USite : goal.returns-in-Some-USite
returns-in-Some-USite c = run_u_site c.args.text.now c.args.i c.requires.0 c.requires.1 c.past-end.result (rw c.bytes-bytes.ensures.0 at c.past-end.ensures.ends in_run (λ b r l h. search rules)) c.in-Some-USite.n (rw (c.bytes-bytes.ensures.0, c.in-Some-USite.field-0-is) at c.in-Some-USite.ensures)

pub returns-in-Some-ISite : goal.returns-in-Some-ISite
returns-in-Some-ISite c = run_i_site c.args.text.now c.args.i c.requires.0 c.requires.1 c.past-end.result (rw c.bytes-bytes.ensures.0 at c.past-end.ensures.ends in_run (λ b r l h. search rules)) c.in-Some-ISite.n (rw (c.bytes-bytes.ensures.0, c.in-Some-ISite.field-0-is) at c.in-Some-ISite.ensures)

pub returns-in-None : goal.returns-in-None
returns-in-None c = run_fault c.args.text.now c.args.i c.requires.0 c.requires.1 c.past-end.result (rw c.bytes-bytes.ensures.0 at c.past-end.ensures.ends in_run (λ b r l h. search rules)) (rw c.bytes-bytes.ensures.0 at c.in-None.ensures)
