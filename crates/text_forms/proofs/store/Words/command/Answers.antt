-- `Words::command` meets its contract. Assumes nothing.
use Rattle.std.proofs.Common.{refl, ap, ◌∙◌, ◌+◌, ◌*◌, lt-ltb, le-ltb}
use Rattle.text_forms.specs.Mirror.Stores.{put, put_command}
use Rattle.text_forms.specs.Steps.Stores.{five}
use Rattle.machine_code.specs.Code.{command_size, commands_at}
use Rattle.machine_code.specs.Kinds.{command_number}
use Rattle.gil.specs.Numbers.{most_commands}
use Rattle.text_forms.proofs.store.Words.command.Goals as goal

pub returns-then-n-lt-MOST_COMMANDS-clause-words : goal.returns-then-n-lt-MOST_COMMANDS-clause-words
unfolding put_command
returns-then-n-lt-MOST_COMMANDS-clause-words c = rw (lt-ltb c.args.n most_commands c.if-n-lt-MOST_COMMANDS.true, put_command) (five c.args.self.now.code.now (commands_at + command_size * c.args.n) (command_number c.args.c.kind) c.args.c.variable c.args.c.place c.args.c.other c.args.c.second (c.store.ensures.words ∙ ap (put c.args.self.now.code.now (commands_at + command_size * c.args.n)) c.kind_word.ensures) c.store-then-n-lt-MOST_COMMANDS.ensures.words c.store-then-n-lt-MOST_COMMANDS-2.ensures.words c.store-then-n-lt-MOST_COMMANDS-3.ensures.words c.store-then-n-lt-MOST_COMMANDS-4.ensures.words)

pub returns-else-n-lt-MOST_COMMANDS-clause-words : goal.returns-else-n-lt-MOST_COMMANDS-clause-words
unfolding put_command
returns-else-n-lt-MOST_COMMANDS-clause-words c = rw (le-ltb c.args.n most_commands c.if-n-lt-MOST_COMMANDS.false, put_command) refl
