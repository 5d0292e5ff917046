-- Document 01's starred cases 1 to 8, and cases of our own where those leave a hole, by a single table and a single statement: text as
-- bytes to refusal, rows and terms, plain run, place. Every expected answer was worked out on paper. Assumes nothing.
use Rattle.std.specs.Prelude.{ℕ, ◌≡◌, refl, Bool, true, false, List, [], ◌∷◌, ◌++◌, map, replicate}
use Prim.Native.String.{String, ◌++◌ as ◌+++◌}
use Rattle.std.proofs.Math.Option.{Option, none, some}
use Rattle.gil.specs.Text
use Rattle.gil.specs.Text.{bytes}
use Rattle.gil.specs.Reading
use Rattle.gil.specs.Tree.{plus, minus, equal, less}
use Rattle.gil.specs.Names
use Rattle.gil.specs.Names.{Program, check_text, accepted, gather}
use Rattle.gil.specs.Values
use Rattle.gil.specs.Values.{Constant, number, boolean, location, Value, const, term, Node, input, neg, bin}
use Rattle.gil.specs.Machine
use Rattle.gil.specs.Machine.{Cell, Store, End, returned, failed, vanished, error}
use Rattle.gil.specs.Rows
use Rattle.gil.specs.Rows.{Condition, Reason, steps, branches, Outcome, ended, cut, Row}
use Rattle.gil.specs.Plain
use Rattle.gil.specs.Plain.{plain_run}
use Rattle.gil.specs.Explore
use Rattle.gil.specs.Explore.{Explored, explored}
use Rattle.gil.specs.Pool
use Rattle.gil.specs.Printed
use Rattle.gil.specs.Printed.{explored_text}
use Rattle.gil.specs.Pool.{Ref, number_term, boolean_term, Pool, table, placed}

-- what is asked of a text, and what it answers
pub data Ask : Type 0 where
  explores : (budget most : ℕ) → Ask
  runs : (inputs : List ℕ) (budget : ℕ) → Ask
  places : (inputs : List ℕ) → Ask
  prints : Ask

pub data Answer : Type 0 where
  refusal : ℕ → Answer
  table_of : Pool → List (Row Ref) → Answer
  ran_to : Row ⊥ → Answer
  row : ℕ → Answer
  lines : List ℕ → Answer

pub record Case : Type 0 where
  pub text : String
  pub ask : Ask
  pub answer : Answer

table_answer : Explored Pool Ref → Answer
table_answer (Explore.refused n) = refusal n
table_answer (explored w rows) = table_of w rows

place_answer : List ℕ → Explored Pool Ref → Answer
place_answer inputs (Explore.refused n) = refusal n
place_answer inputs (explored w rows) = row (placed inputs w rows)

ask_of : Program → Ask → Answer
ask_of p (explores budget most) = table_answer (table p budget most)
ask_of p (runs inputs budget) = ran_to (plain_run p inputs budget)
ask_of p (places inputs) = place_answer inputs (table p 1024 16)
ask_of p prints = lines (explored_text p (table p 1024 16))

answer_of : Names.Checked → Ask → Answer
answer_of (Names.refused n) ask = refusal n
answer_of (accepted p) ask = ask_of p ask

pub answer_to : String → Ask → Answer
answer_to text ask = answer_of (check_text (bytes text)) ask

-- short names for the table below
main : String → String
main body = "main(x){ " +++ (body +++ " }")

full : Ask
full = explores 1024 16

module _ {T : Type 0} where
  is : Constant → Option (Value T)
  is c = some (const c)

  n : ℕ → Option (Value T)
  n k = is (number k)

  unbound : Option (Value T)
  unbound = none

  -- outcome; steps, procedure, command, inputs read; conditions; variables; cells
  line : Outcome T → (s p c i : ℕ) → List (Condition T) → Store T → List (Cell T) → Row T
  line o s p c i cs vs ms =
      record { outcome = o; steps = s; procedure = p; command = c; inputs = i; conditions = cs; variables = vs; cells = ms }

  when : T → Bool → Condition T
  when t b = record { term = t; truth = b }

  cell : (l q : ℕ) → Constant → Cell T
  cell l q c = record { location = l; property = q; value = const c }

  -- a path that ended in main with no condition and no cell
  ends : End T → (s c i : ℕ) → Store T → Row T
  ends e s c i vs = line (ended e) s 0 c i [] vs []

-- a number term as a value, and in a variable
t : ℕ → Value Ref
t k = term (number_term k)

vt : ℕ → Option (Value Ref)
vt k = some (t k)

one : Row Ref → Answer
one r = table_of [] (r ∷ [])

text_a : String
text_a = main "s := iSym_0; w := iSym_1; ifgoto (s < w) 5; r := 1; return r; fail w;"

-- sixteen inputs that begin so
from : ℕ → ℕ → List ℕ
from a b = a ∷ b ∷ replicate 14 0

receives : String
receives = main "a := iSym_0; ifgoto (a < 5) 0; return a;"

three_cells : ℕ → List (Cell Ref)
three_cells l = cell l 0 (number 1) ∷ cell l 1 (number 2) ∷ cell l 2 (number 3) ∷ []

starred : List Case
starred =
    -- 1. Text A
    record {
      text = text_a;
      ask = full;
      answer =
          table_of (input 0 ∷ input 1 ∷ bin less (t 0) (t 1) ∷ [])
          (line (ended (failed (t 1))) 4 0 5 2 (when (boolean_term 2) true ∷ []) (n 0 ∷ vt 0 ∷ vt 1 ∷ unbound ∷ []) []
          ∷ line (ended (returned (const (number 1)))) 5 0 4 2 (when (boolean_term 2) false ∷ []) (n 0 ∷ vt 0 ∷ vt 1 ∷ n 1 ∷ []) []
          ∷ []);
    }
    ∷ record {
      text = text_a;
      ask = runs (from 3 8) 1024;
      answer = ran_to (ends (failed (const (number 8))) 4 5 2 (n 0 ∷ n 3 ∷ n 8 ∷ unbound ∷ []));
    }
    ∷ record {
      text = text_a;
      ask = runs (from 5 5) 1024;
      answer = ran_to (ends (returned (const (number 1))) 5 4 2 (n 0 ∷ n 5 ∷ n 5 ∷ n 1 ∷ []));
    }
    ∷ record { text = text_a; ask = places (from 3 8); answer = row 0 }
    ∷ record { text = text_a; ask = places (from 5 5); answer = row 1 }
    ∷ record {
      text = text_a;
      ask = prints;
      answer =
          lines
          (bytes
          "row,outcome,value,steps,procedure,command,conditions\r\n0,failed,#1,4,main,5,(#0 < #1)\r\n1,returned,1,5,main,4,not (#0 < #1)\r\n");
    }
    -- 2. sums wrap
    ∷ record {
      text = main "a := iSym_0; return (a + 1);";
      ask = runs (from 4294967295 0) 1024;
      answer = ran_to (ends (returned (const (number 0))) 2 1 1 (n 0 ∷ n 4294967295 ∷ []));
    }
    -- 3. `=` on two sorts is the constant false, with terms too
    ∷ record {
      text = main "a := iSym_0; ifgoto (a = true) 3; return a; fail a;";
      ask = full;
      answer = table_of (input 0 ∷ []) (ends (returned (t 0)) 3 2 1 (n 0 ∷ vt 0 ∷ []) ∷ []);
    }
    -- 4. cut for steps
    ∷ record {
      text = main "x := (x + 1); ifgoto true 0; vanish;";
      ask = full;
      answer = one (line (cut steps) 1024 0 0 0 [] (n 512 ∷ []) []);
    }
    -- 5. a disposed location may be written again
    ∷ record {
      text = main "o := uSym_0; a := mutate([o, \"mac\", 7]); a := dispose(o); a := mutate([o, \"mac\", 9]); b := lookup([o, \"mac\"]); return b;";
      ask = full;
      answer =
          one
          (line (ended (returned (const (number 9)))) 6 0 5 0 []
          (n 0 ∷ is (location 0) ∷ is (boolean true) ∷ n 9 ∷ [])
          (cell 0 0 (number 9) ∷ []));
    }
    -- 6. no such cell
    ∷ record {
      text = main "o := uSym_0; b := lookup([o, \"mac\"]); return b;";
      ask = full;
      answer = one (ends (error 3) 2 1 0 (n 0 ∷ is (location 0) ∷ unbound ∷ []));
    }
    -- 7. not bound; wrong sort
    ∷ record { text = main "a := b; vanish;"; ask = full; answer = one (ends (error 1) 1 0 0 (n 0 ∷ unbound ∷ unbound ∷ [])) }
    ∷ record { text = main "a := (1 + true); vanish;"; ask = full; answer = one (ends (error 2) 1 0 0 (n 0 ∷ unbound ∷ [])) }
    -- 8. vanished keeps a row; a plain run of no steps is cut
    ∷ record { text = main "vanish;"; ask = full; answer = one (ends vanished 1 0 0 (n 0 ∷ [])) }
    ∷ record { text = main "vanish;"; ask = runs (from 0 0) 0; answer = ran_to (line (cut steps) 0 0 0 0 [] (n 0 ∷ []) []) }
    ∷ []

ours : List Case
ours =
    -- a call and its return; differences wrap; `main` need not come first
    record {
      text = "f(n){ m := (n - 1); return m; }" +++ main "y := f(x); return (x < y);";
      ask = full;
      answer = one (line (ended (returned (const (boolean true)))) 4 1 1 0 [] (n 0 ∷ n 4294967295 ∷ []) []);
    }
    -- a called frame's fail shows the callee; `or` needs booleans and gives one
    ∷ record {
      text = "f(n){ fail (n or true); } " +++ main "y := f(false); vanish;";
      ask = full;
      answer = one (line (ended (failed (const (boolean true)))) 2 0 0 0 [] (is (boolean false) ∷ []) []);
    }
    -- a cut just after a call stands at the callee's command 0
    ∷ record {
      text = "f(n){ m := n; vanish; } " +++ main "y := f(7); vanish;";
      ask = explores 1 0;
      answer = one (line (cut steps) 1 0 0 0 [] (n 7 ∷ unbound ∷ []) []);
    }
    -- 4: the eighth call would open a ninth frame
    ∷ record {
      text = main "y := main((x + 1)); return y;";
      ask = full;
      answer = one (ends (error 4) 8 0 0 (n 7 ∷ unbound ∷ []));
    }
    -- 5: a seventeenth input
    ∷ record {
      text = main "a := iSym_255; ifgoto true 0; vanish;";
      ask = runs (replicate 15 1 ++ (6 ∷ [])) 1024;
      answer = ran_to (ends (error 5) 33 0 16 (n 0 ∷ n 6 ∷ []));
    }
    -- 6: a seventeenth location
    ∷ record {
      text = main "o := uSym_0; ifgoto true 0; vanish;";
      ask = full;
      answer = one (ends (error 6) 33 0 0 (n 0 ∷ is (location 15) ∷ []));
    }
    -- 7: a thirty-third cell
    ∷ record {
      text = main "o := uSym_0; a := mutate([o, \"p\", 1]); a := mutate([o, \"q\", 2]); a := mutate([o, \"r\", 3]); ifgoto true 0; vanish;";
      ask = full;
      answer =
          one
          (line (ended (error 7)) 54 0 3 0 [] (n 0 ∷ is (location 10) ∷ is (boolean true) ∷ [])
          (gather three_cells (0 ∷ 1 ∷ 2 ∷ 3 ∷ 4 ∷ 5 ∷ 6 ∷ 7 ∷ 8 ∷ 9 ∷ []) ++ (cell 10 0 (number 1) ∷ cell 10 1 (number 2) ∷ [])));
    }
    -- a removed cell is gone
    ∷ record {
      text = main "o := uSym_0; a := mutate([o, \"mac\", 7]); a := dispose(o); b := lookup([o, \"mac\"]); return b;";
      ask = full;
      answer = one (ends (error 3) 4 3 0 (n 0 ∷ is (location 0) ∷ is (boolean true) ∷ unbound ∷ []));
    }
    -- cells stand in order of location, then of property; disposing one location leaves the others
    ∷ record {
      text = main "o := uSym_0; p := uSym_0; a := mutate([p, \"m\", 1]); a := mutate([o, \"n\", 2]); a := mutate([o, \"m\", p]); q := uSym_0; a := mutate([q, \"m\", 4]); a := dispose(q); vanish;";
      ask = full;
      answer =
          one
          (line (ended vanished) 9 0 8 0 []
          (n 0 ∷ is (location 0) ∷ is (location 1) ∷ is (boolean true) ∷ is (location 2) ∷ [])
          (cell 0 0 (location 1) ∷ cell 0 1 (number 2) ∷ cell 1 0 (number 1) ∷ []));
    }
    -- cut for branches: the jump is no step, and its terms are made
    ∷ record {
      text = receives;
      ask = explores 1024 1;
      answer =
          table_of (input 0 ∷ bin less (t 0) (const (number 5)) ∷ input 1 ∷ bin less (t 2) (const (number 5)) ∷ [])
          (line (cut branches) 3 0 1 2 (when (boolean_term 1) true ∷ []) (n 0 ∷ vt 2 ∷ []) []
          ∷ line (ended (returned (t 0))) 3 0 2 1 (when (boolean_term 1) false ∷ []) (n 0 ∷ vt 0 ∷ []) []
          ∷ []);
    }
    -- steps are tested before branches, and then nothing is evaluated
    ∷ record {
      text = receives;
      ask = explores 1 0;
      answer = table_of (input 0 ∷ []) (line (cut steps) 1 0 1 1 [] (n 0 ∷ vt 0 ∷ []) [] ∷ []);
    }
    -- inputs are numbered on each path; a jump to the very next command still branches
    ∷ record {
      text = main "a := iSym_0; ifgoto not (a = 5) 2; b := iSym_1; return b;";
      ask = full;
      answer =
          table_of (input 0 ∷ bin equal (t 0) (const (number 5)) ∷ neg (term (boolean_term 1)) ∷ input 1 ∷ input 1 ∷ [])
          (line (ended (returned (t 3))) 4 0 3 2 (when (boolean_term 2) true ∷ []) (n 0 ∷ vt 0 ∷ vt 3 ∷ []) []
          ∷ line (ended (returned (t 4))) 4 0 3 2 (when (boolean_term 2) false ∷ []) (n 0 ∷ vt 0 ∷ vt 4 ∷ []) []
          ∷ []);
    }
    -- a number term as a jump's condition is error 2 and a step, also where the branches are used up
    ∷ record {
      text = main "a := iSym_0; ifgoto (a - 1) 0; vanish;";
      ask = explores 9 0;
      answer =
          table_of (input 0 ∷ bin minus (t 0) (const (number 1)) ∷ []) (ends (error 2) 2 1 1 (n 0 ∷ vt 0 ∷ []) ∷ []);
    }
    -- both operands are evaluated, then sorts are tested, inside out
    ∷ record { text = main "a := (false and b); vanish;"; ask = full; answer = one (ends (error 1) 1 0 0 (n 0 ∷ unbound ∷ unbound ∷ [])) }
    ∷ record { text = main "a := ((1 + true) + b); vanish;"; ask = full; answer = one (ends (error 2) 1 0 0 (n 0 ∷ unbound ∷ unbound ∷ [])) }
    ∷ record { text = main "a := (b + (1 + true)); vanish;"; ask = full; answer = one (ends (error 1) 1 0 0 (n 0 ∷ unbound ∷ unbound ∷ [])) }
    ∷ record { text = main "a := mutate([1, \"p\", b]); vanish;"; ask = full; answer = one (ends (error 1) 1 0 0 (n 0 ∷ unbound ∷ unbound ∷ [])) }
    -- the terms that an erring command made before it erred stay made
    ∷ record {
      text = main "a := iSym_0; a := ((a + a) and true); vanish;";
      ask = full;
      answer = table_of (input 0 ∷ bin plus (t 0) (t 0) ∷ []) (ends (error 2) 2 1 1 (n 0 ∷ vt 0 ∷ []) ∷ []);
    }
    -- refusals 4 to 8; where several hold, the first
    ∷ record { text = ""; ask = full; answer = refusal 4 }
    ∷ record { text = main "return (x);"; ask = full; answer = refusal 4 }
    ∷ record { text = main "return not not not not not not not not x;"; ask = full; answer = refusal 4 }
    ∷ record { text = main "return not not not not not not not x;"; ask = runs [] 0; answer = ran_to (line (cut steps) 0 0 0 0 [] (n 0 ∷ []) []) }
    ∷ record { text = main "a := (((b + c) + (d + e)) + ((f + g) + (h + i))); a := (((j + k) + (l + m)) + (n + (o + p))); ifgoto true 9;"; ask = full; answer = refusal 5 }
    ∷ record { text = main "a := g(1); ifgoto true 9;"; ask = full; answer = refusal 6 }
    ∷ record { text = "f(x){ vanish; }"; ask = full; answer = refusal 6 }
    ∷ record { text = main "vanish;" +++ main "vanish;"; ask = full; answer = refusal 6 }
    ∷ record { text = "main(x){ ifgoto true 1; }"; ask = full; answer = refusal 7 }
    ∷ record { text = "main(x){ ifgoto true 0; }"; ask = full; answer = refusal 8 }
    ∷ []

pub cases : List Case
cases = starred ++ ours

-- every case of the table is answered as it says
pub all-answered : map (λ c. answer_to c.text c.ask) cases ≡ map (λ c. c.answer) cases
unfolding answer_to answer_of ask_of table_answer place_answer main full is n unbound line when cell ends t vt one text_a from receives three_cells starred ours cases Text.bytes Text.letter Text.digit Text.in_run Text.white Text.span Text.part Text.quoted Text.coloned Text.marked Text.token_from Text.skip_white Text.lexeme Text.reserved_words Text.u_sym_prefix Text.i_sym_prefix Text.same Text.find Text.all_digits Text.plain_zero Text.decimal_from Text.numeral Text.numbered Text.symbol Text.identified Text.identifier Text.word_of Reading.after Reading.◌>>=◌ Reading.◌>>◌ Reading.done Reading.nothing Reading.token Reading.ahead Reading.is_mark Reading.is_ended Reading.is_becomes Reading.so Reading.the_mark Reading.the_becomes Reading.name_of Reading.as_word Reading.the_name Reading.number_of Reading.the_number Reading.property_of Reading.the_property Reading.op_mark Reading.op_key Reading.op_word Reading.op_of Reading.the_op Reading.negation Reading.bracketed Reading.expr_key Reading.expr_word Reading.expr_from Reading.expr_deep Reading.expr Reading.assignment Reading.call_of Reading.call_or_var Reading.named Reading.lookup_of Reading.mutate_of Reading.dispose_of Reading.value_key Reading.value_word Reading.value_from Reading.setting_of Reading.jump_of Reading.ending_of Reading.command_key Reading.command_word Reading.command Reading.or_more Reading.one_or_more Reading.commands_of Reading.commands Reading.procedure Reading.procedures_of Reading.procedures Names.any Names.gather Names.has Names.place_of Names.with_name Names.with_names Names.distinct Names.expr_vars Names.cmd_vars Names.cmd_properties Names.cmd_calls Names.proc_vars Names.properties Names.proc_names Names.over_limits Names.repeated Names.wrong_names Names.jumps_past Names.wrong_jump Names.is_end Names.ends_open Names.wrong_end Names.rename_expr Names.rename_cmd Names.number_proc Names.number_program Names.refused_if Names.tested Names.check_text Values.sort_of Values.same_sort Values.number_in Values.truth_in Values.same_truth Values.same_constant Values.right_if Values.alike_if Values.both Values.fit Values.work Values.work_not Values.op_gives_number Values.gives_number Machine.goto Machine.onward Machine.entered Machine.back_to Machine.frames Machine.procedure_at Machine.command_at Machine.unused Machine.with_input Machine.with_location Machine.counting Machine.with_cells Machine.steer Machine.assigned Machine.with_memory Machine.answered Machine.frame Machine.top_store Machine.below_top Machine.opened Machine.closed Machine.returns_to Machine.is_at Machine.is_before Machine.cell_at Machine.put_cell Machine.without_cells Machine.start Machine.and_then Machine.◌>>=◌ Machine.◌>>◌ Machine.give Machine.stop Machine.must Machine.there Machine.sort_in Machine.making Machine.combine Machine.fitted Machine.operate Machine.negated Machine.negate Machine.eval Machine.the_location Machine.jump Machine.looked_up Machine.written Machine.dropped Machine.fresh_location Machine.fresh_input Machine.exec Machine.settled Machine.move Rows.row_of Rows.cut_for Plain.no_sort Plain.known Plain.plain Plain.ran Plain.ran_to Plain.run_for Plain.plain_run Explore.stepped Explore.branched Explore.turned Explore.finish Explore.waiting_on Explore.on_turn Explore.walk_turn Explore.overfull Explore.turn_in Explore.after_move Explore.advance Explore.begin Explore.after_commands Explore.walk_move Explore.walk Explore.explore Pool.ref_sort Pool.place_in Pool.ref_to Pool.added Pool.pooled Pool.table Pool.value_of Pool.node_value Pool.values_from Pool.pool_values Pool.meets Pool.place_among Pool.placed Printed.digits Printed.decimal Printed.truth_text Printed.constant_text Printed.op_text Printed.at_most200 Printed.not_text Printed.op_texts Printed.value_text Printed.node_text Printed.texts_from Printed.pool_texts Printed.or_large Printed.value_field Printed.end_fields Printed.outcome_fields Printed.unless_true Printed.condition_text Printed.conditions_after Printed.conditions_field Printed.line_end Printed.row_line Printed.row_lines Printed.heading Printed.refusal_line Printed.explored_text Printed.checked_text Printed.printed
all-answered = refl
