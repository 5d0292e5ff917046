-- What the functions of this crate answer and leave, on words. Assumes nothing.
use Rattle.std.specs.Prelude.{ℕ, zero, suc, ◌+◌, ◌-◌, ◌*◌, ◌/◌, ◌%◌, List, Option, Result, replicate, ◌==◌, nat_le, nat_lt, slice_index, slice_set}
use Rattle.gil.specs.Numbers.{most_variables, most_inputs, most_locations, boolean_tag, boolean_term_tag}
use Rattle.gil.specs.declared.errors.Error as Errors
use Rattle.gil.specs.declared.errors.Error.TheVariants.{WrongSort, NinthFrame, SeventeenthInput, SeventeenthLocation}
use Rattle.machine_code.specs.Code.{frame_words, store_words, returns_at, assign_kind, jump_kind, call_kind, lookup_kind, mutate_kind, dispose_kind, u_sym_kind, i_sym_kind, return_kind, vanish_kind}
use Rattle.machine_code.specs.declared.kinds.CommandKind.{CommandKind}
use Rattle.machine_code.specs.declared.kinds.CommandKind.TheVariants.{Assign, Jump, Call, Lookup, Mutate, Dispose, USym, ISym, Return, Fail, Vanish}
use Rattle.machine_code.specs.Mirror.{if?, code_word}
use Rattle.machine_values.specs.declared.Input.{Input}
use Rattle.machine_values.specs.declared.Location.{Location}
use Rattle.machine_terms.specs.Mirror.{Did}
use Rattle.machine_terms.specs.Laws.Engine.{fresh_in}
use Rattle.machine_evaluate.specs.Mirror.{by_result, evaluate_in}
use Rattle.machine_commands.specs.declared.Control.{Control}
use Rattle.machine_commands.specs.declared.Command.{Command}
use Rattle.machine_commands.specs.declared.Next.{Next}
use Rattle.machine_commands.specs.declared.Next.TheVariants.{On, Returned, Failed, Vanished, Error, Fork}

abbrev pub moved_in : Control → ℕ → ℕ → ℕ → Control
moved_in c frame procedure command =
    record { frame = frame; procedure = procedure; command = command; inputs = c.inputs; locations = c.locations }

unfoldable pub goto_in : ℕ → Control → Control
goto_in n c = moved_in c c.frame c.procedure n

unfoldable pub onward_in : Control → Control
onward_in c = goto_in ((c.command + 1) % 4294967296) c

-- the store's words
unfoldable pub put_in : ℕ → ℕ → List ℕ → List ℕ
put_in at v store = if? (nat_lt at store_words) (slice_set store at v) store

unfoldable pub word_in : ℕ → List ℕ → ℕ
word_in at store = if? (nat_lt at store_words) (slice_index store at % 4294967296) 0

unfoldable pub zeros_in : ℕ → ℕ → List ℕ → List ℕ
zeros_in zero at store = store
zeros_in (suc k) at store = zeros_in k (at + 1) (put_in at 0 store)

-- where a path begins
unfoldable pub start_in : List ℕ → Control
start_in code =
    record { frame = 0; procedure = code_word code 1; command = 0; inputs = record { 0 = 0 }; locations = record { 0 = 0 } }

unfoldable pub start_store : List ℕ
start_store = slice_set (replicate store_words 0) 0 4294967296

abbrev pub vanish_command : Command
vanish_command = record { kind = Vanish; target = 0; first = 0; other = 0; second = 0 }

-- a word that is no command's kind is read as that of `fail`
unfoldable pub kind_of : ℕ → CommandKind
kind_of w =
    if? (w == assign_kind) Assign
    (if? (w == jump_kind) Jump
    (if? (w == call_kind) Call
    (if? (w == lookup_kind) Lookup
    (if? (w == mutate_kind) Mutate
    (if? (w == dispose_kind) Dispose
    (if? (w == u_sym_kind) USym (if? (w == i_sym_kind) ISym (if? (w == return_kind) Return (if? (w == vanish_kind) Vanish Fail)))))))))

unfoldable pub command_in : List ℕ → ℕ → Command
command_in code at =
    if? (nat_lt at 10798)
    (record {
      kind = kind_of (slice_index code at);
      target = slice_index code (at + 1);
      first = slice_index code (at + 2);
      other = slice_index code (at + 3);
      second = slice_index code (at + 4);
    })
    vanish_command

unfoldable pub fetch_in : List ℕ → ℕ → ℕ → Command
fetch_in code procedure command =
    if? (nat_lt command (code_word code (3 * procedure + 4)))
    (command_in code (50 + 5 * (code_word code (3 * procedure + 2) + command)))
    vanish_command

-- what a command comes to, and the store after it
pub record Acted : Type 0 where
  pub next : Next
  pub store : List ℕ

abbrev pub acted : Next → List ℕ → Acted
acted n s = record { next = n; store = s }

unfoldable pub assign_in : Control → ℕ → ℕ → List ℕ → Acted
assign_in c x v store = acted (On (onward_in c)) (put_in (frame_words * c.frame + x) v store)

unfoldable pub jump_in : Control → ℕ → ℕ → Next
jump_in c n v =
    if? (v / 4294967296 == boolean_tag)
    (if? (v % 4294967296 == 0) (On (onward_in c)) (On (goto_in n c)))
    (if? (v / 4294967296 == boolean_term_tag) (Fork (v % 4294967296) (goto_in n c) (onward_in c)) (Error WrongSort))

-- a frame's words, opened for a call
unfoldable pub frame_in : ℕ → ℕ → ℕ → ℕ → ℕ → List ℕ → List ℕ
frame_in base v procedure next x store =
    put_in (base + returns_at + 2) x (put_in (base + returns_at + 1) next (put_in (base + returns_at) procedure (put_in base v (zeros_in most_variables base store))))

unfoldable pub enter_in : Control → ℕ → ℕ → ℕ → List ℕ → Acted
enter_in c x f v store =
    if? (nat_le 7 c.frame) (acted (Error NinthFrame) store)
    (acted
    (On (moved_in c (c.frame + 1) f 0))
    (frame_in (frame_words * (c.frame + 1)) v c.procedure (c.command + 1) x store))

unfoldable pub leave_in : Control → ℕ → List ℕ → Acted
leave_in c v store =
    if? (c.frame == 0) (acted (Returned (v / 4294967296) (v % 4294967296)) store)
    (acted
    (On (moved_in c (c.frame - 1) (word_in (frame_words * c.frame + returns_at) store) (word_in (frame_words * c.frame + returns_at + 1) store)))
    (put_in (frame_words * c.frame - frame_words + word_in (frame_words * c.frame + returns_at + 2) store) v store))

-- fresh symbols
abbrev pub counted_in : Control → Input → Location → Control
counted_in c i l = record { frame = c.frame; procedure = c.procedure; command = c.command; inputs = i; locations = l }

abbrev pub with_location_in : Control → Control
with_location_in c = counted_in c c.inputs (record { 0 = c.locations.0 + 1 })

abbrev pub with_input_in : Control → Control
with_input_in c = counted_in c (record { 0 = c.inputs.0 + 1 }) c.locations

unfoldable pub locate_in : Control → ℕ → List ℕ → Acted
locate_in c x store =
    if? (nat_le most_locations c.locations.0) (acted (Error SeventeenthLocation) store) (assign_in (with_location_in c) x (12884901888 + c.locations.0) store)

-- what a command comes to, and the lent memory after it
pub record After : Type 0 where
  pub next : Next
  pub store : List ℕ
  pub pool : List ℕ
  pub count : ℕ

abbrev pub after : Next → List ℕ → List ℕ → ℕ → After
after n s p k = record { next = n; store = s; pool = p; count = k }

abbrev pub after_acted : Acted → List ℕ → ℕ → After
after_acted a p k = after a.next a.store p k

unfoldable pub receive_in : Control → ℕ → Option (List ℕ) → List ℕ → List ℕ → ℕ → After
receive_in c x known store pool count =
    if? (nat_le most_inputs c.inputs.0) (after (Error SeventeenthInput) store pool count)
    (let d = fresh_in known c.inputs.0 pool count in
    after_acted (assign_in (with_input_in c) x d.out store) d.pool d.count)

-- a command whose expression has the value v
abbrev pub act_by : CommandKind → Control → Command → ℕ → List ℕ → Acted
act_by Assign c m v store = assign_in c m.target v store
act_by Jump c m v store = acted (jump_in c m.target v) store
act_by Call c m v store = enter_in c m.target m.other v store
act_by Return c m v store = leave_in c v store
act_by _ c m v store = acted (Failed (v / 4294967296) (v % 4294967296)) store

unfoldable pub act_in : Control → Command → ℕ → List ℕ → Acted
act_in c m v store = act_by m.kind c m v store

-- an evaluation, and what is done with its value
unfoldable pub on_value : Did (Result ℕ Errors.Error) → List ℕ → (ℕ → Acted) → After
on_value d store f = by_result d.out (λ v. after_acted (f v) d.pool d.count) (λ e. after (Error e) store d.pool d.count)

-- a command by its kind, where those that have a value come to d
abbrev pub step_by : CommandKind → Control → Command → Option (List ℕ) → List ℕ → List ℕ → ℕ → After → After
step_by USym c m known store pool count d = after_acted (locate_in c m.target store) pool count
step_by ISym c m known store pool count d = receive_in c m.target known store pool count
step_by Vanish c m known store pool count d = after Vanished store pool count
step_by _ c m known store pool count d = d

unfoldable pub step_in : List ℕ → Control → Command → Option (List ℕ) → List ℕ → List ℕ → ℕ → After
step_in code c m known store pool count =
    step_by m.kind c m known store pool count (on_value (evaluate_in code store c.frame m.first pool count) store (λ v. act_in c m v store))
