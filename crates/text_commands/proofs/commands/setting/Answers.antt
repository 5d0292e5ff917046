-- `commands::setting` meets its contract. Assumes nothing.
use Rattle.std.proofs.Common.{refl}
use Rattle.gil.specs.Reading.{◌>>◌, setting_of}
use Rattle.text_tokens.specs.Mirror.Seen.{name_at}
use Rattle.text_forms.specs.Laws.Wrote.{taken}
use Rattle.text_forms.specs.Laws.Goes.{stops, onto, fault}
use Rattle.text_commands.specs.Steps.Commands.{setting-first}
use Rattle.text_commands.specs.Steps.Effects.{does_setting, does_out}
use Rattle.text_commands.proofs.commands.setting.Goals as goal

pub returns-in_err-at-clause-read : goal.returns-in_err-at-clause-read
unfolding setting_of ◌>>◌
returns-in_err-at-clause-read c = rw c.from_residual.ensures (stops _ c.in_err-at.ensures)

pub returns-in_err-form-clause-read : goal.returns-in_err-form-clause-read
returns-in_err-form-clause-read c = rw c.from_residual-in_err-form.ensures (setting-first (name_at c.args.text.now c.args.target) c.in_ok-at.ensures (fault (c.in_err-form.ensures.read (name_at c.args.text.now c.args.target))))

pub returns-clause-read : goal.returns-clause-read
returns-clause-read c = setting-first (name_at c.args.text.now c.args.target) c.in_ok-at.ensures (onto refl (λ d q. does_out c.command.ensures.next (does_setting (taken c.intern.ensures.interned c.unwrap_or-x.ensures refl) q c.command.ensures.words)) (c.in_ok-form.ensures.read (name_at c.args.text.now c.args.target)))
