-- The texts of document 01's examples 1 and 8, and one of our own: the programs that they are read as, and those programs' tables and runs,
-- by computation. What wrong versions are held against. Assumes nothing.
use Rattle.std.specs.Prelude.{ℕ, ◌≡◌, refl, true, false, List, [], ◌∷◌, replicate}
use Prim.Native.String.{String, ◌++◌ as ◌+++◌}
use Rattle.std.proofs.Math.Option.{none, some}
use Rattle.gil.specs.Text
use Rattle.gil.specs.Text.{bytes}
use Rattle.gil.specs.Tree.{less}
use Rattle.gil.specs.Tree as Tree
use Rattle.gil.specs.Reading
use Rattle.gil.specs.Names
use Rattle.gil.specs.Names.{Program, Checked, refused, accepted, check_text}
use Rattle.gil.specs.Values
use Rattle.gil.specs.Values.{number, const, term, input, bin}
use Rattle.gil.specs.Machine
use Rattle.gil.specs.Machine.{returned, failed, vanished}
use Rattle.gil.specs.Rows
use Rattle.gil.specs.Rows.{ended, cut, steps, Row}
use Rattle.gil.specs.Plain
use Rattle.gil.specs.Plain.{plain_run}
use Rattle.gil.specs.Explore
use Rattle.gil.specs.Explore.{explored}
use Rattle.gil.specs.Pool
use Rattle.gil.specs.Pool.{Ref, number_term, boolean_term, Pool, table, pool_values, meets}
use Rattle.gil.specs.Layout as Layout
use Rattle.gil.specs.Layout.{input_words}

-- 8: one row, vanished, one step
pub text8 : List ℕ
text8 = bytes "main(x){ vanish; }"

pub program8 : Program
program8 = record { procedures = record { name = bytes "main"; variables = 1; body = Tree.vanish ∷ [] } ∷ []; main = 0 }

-- its row, but for outcome and steps
unfoldable pub row8 : {T : Type 0} → Rows.Outcome T → ℕ → Row T
row8 o n =
    record {
      outcome = o;
      steps = n;
      procedure = 0;
      command = 0;
      inputs = 0;
      conditions = [];
      variables = some (const (number 0)) ∷ [];
      cells = [];
    }

-- 1: text A, two rows and three terms
pub text_a : List ℕ
text_a = bytes "main(x){ s := iSym_0; w := iSym_1; ifgoto (s < w) 5; r := 1; return r; fail w; }"

pub program_a : Program
program_a =
    record {
      procedures =
          record {
            name = bytes "main";
            variables = 4;
            body =
                Tree.i_sym 1 0
                ∷ Tree.i_sym 2 1
                ∷ Tree.ifgoto (Tree.bin less (Tree.var 1) (Tree.var 2)) 5
                ∷ Tree.assign 3 (Tree.num 1)
                ∷ Tree.return (Tree.var 3)
                ∷ Tree.fail (Tree.var 2)
                ∷ [];
          }
          ∷ [];
      main = 0;
    }

unfoldable pub terms_a : Pool
terms_a = input 0 ∷ input 1 ∷ bin less (term (number_term 0)) (term (number_term 1)) ∷ []

-- its first row and its second
unfoldable pub row_a : Row Ref
row_a =
    record {
      outcome = ended (failed (term (number_term 1)));
      steps = 4;
      procedure = 0;
      command = 5;
      inputs = 2;
      conditions = record { term = boolean_term 2; truth = true } ∷ [];
      variables = some (const (number 0)) ∷ some (term (number_term 0)) ∷ some (term (number_term 1)) ∷ none ∷ [];
      cells = [];
    }

unfoldable pub row_a' : Row Ref
row_a' =
    record {
      outcome = ended (returned (const (number 1)));
      steps = 5;
      procedure = 0;
      command = 4;
      inputs = 2;
      conditions = record { term = boolean_term 2; truth = false } ∷ [];
      variables = some (const (number 0)) ∷ some (term (number_term 0)) ∷ some (term (number_term 1)) ∷ some (const (number 1)) ∷ [];
      cells = [];
    }

-- the inputs 3, 8 and fourteen zeros
unfoldable pub inputs38 : List ℕ
inputs38 = 3 ∷ 0 ∷ 0 ∷ 0 ∷ 8 ∷ 0 ∷ 0 ∷ 0 ∷ replicate 56 0

-- one of our own: each turn of its loop makes 127 terms, so that the seventeenth would make the 2,049th
twice : String → String
twice e = "(" +++ (e +++ ("+" +++ (e +++ ")")))

pub text_many : List ℕ
text_many =
    bytes ("main(x){ a := iSym_0; a := " +++ (twice (twice (twice (twice (twice (twice (twice "a")))))) +++ "; ifgoto true 1; vanish; }"))

program_in : Checked → Program
program_in (refused n) = record { procedures = []; main = 0 }
program_in (accepted p) = p

pub program_many : Program
program_many = program_in (check_text text_many)

pub record Computed : Type 0 where
  pub reads8 : check_text text8 ≡ accepted program8
  pub table8 : table program8 1024 16 ≡ explored [] (row8 (ended vanished) 1 ∷ [])
  pub run8 : (inputs : List ℕ) → plain_run program8 inputs 7 ≡ row8 (ended vanished) 1
  pub cut8 : (inputs : List ℕ) → plain_run program8 inputs 0 ≡ row8 (cut steps) 0
  pub reads_a : check_text text_a ≡ accepted program_a
  pub table_a : table program_a 1024 16 ≡ explored terms_a (row_a ∷ row_a' ∷ [])
  pub meets_a : meets (pool_values (input_words inputs38) terms_a) row_a.conditions ≡ true
  pub reads_many : check_text text_many ≡ accepted program_many
  pub table_many : table program_many 1024 16 ≡ Explore.refused 10

pub computed : Computed
unfolding twice text_many program_in program_many text8 program8 row8 text_a program_a terms_a row_a row_a' inputs38 Layout.input_words Text.bytes Text.letter Text.digit Text.in_run Text.white Text.span Text.part Text.quoted Text.coloned Text.marked Text.token_from Text.skip_white Text.lexeme Text.reserved_words Text.u_sym_prefix Text.i_sym_prefix Text.same Text.find Text.all_digits Text.plain_zero Text.decimal_from Text.numeral Text.numbered Text.symbol Text.identified Text.identifier Text.word_of Reading.after Reading.◌>>=◌ Reading.◌>>◌ Reading.done Reading.nothing Reading.token Reading.ahead Reading.is_mark Reading.is_ended Reading.is_becomes Reading.so Reading.the_mark Reading.the_becomes Reading.name_of Reading.as_word Reading.the_name Reading.number_of Reading.the_number Reading.property_of Reading.the_property Reading.op_mark Reading.op_key Reading.op_word Reading.op_of Reading.the_op Reading.negation Reading.bracketed Reading.expr_key Reading.expr_word Reading.expr_from Reading.expr_deep Reading.expr Reading.assignment Reading.call_of Reading.call_or_var Reading.named Reading.lookup_of Reading.mutate_of Reading.dispose_of Reading.value_key Reading.value_word Reading.value_from Reading.setting_of Reading.jump_of Reading.ending_of Reading.command_key Reading.command_word Reading.command Reading.or_more Reading.one_or_more Reading.commands_of Reading.commands Reading.procedure Reading.procedures_of Reading.procedures Names.any Names.gather Names.has Names.place_of Names.with_name Names.with_names Names.distinct Names.expr_vars Names.cmd_vars Names.cmd_properties Names.cmd_calls Names.proc_vars Names.properties Names.proc_names Names.over_limits Names.repeated Names.wrong_names Names.jumps_past Names.wrong_jump Names.is_end Names.ends_open Names.wrong_end Names.rename_expr Names.rename_cmd Names.number_proc Names.number_program Names.refused_if Names.tested Names.check_text Values.sort_of Values.same_sort Values.number_in Values.truth_in Values.same_truth Values.same_constant Values.right_if Values.alike_if Values.both Values.fit Values.work Values.work_not Values.op_gives_number Values.gives_number Machine.goto Machine.onward Machine.entered Machine.back_to Machine.frames Machine.procedure_at Machine.command_at Machine.unused Machine.with_input Machine.with_location Machine.counting Machine.with_cells Machine.steer Machine.assigned Machine.with_memory Machine.answered Machine.frame Machine.top_store Machine.below_top Machine.opened Machine.closed Machine.returns_to Machine.is_at Machine.is_before Machine.cell_at Machine.put_cell Machine.without_cells Machine.start Machine.and_then Machine.◌>>=◌ Machine.◌>>◌ Machine.give Machine.stop Machine.must Machine.there Machine.sort_in Machine.making Machine.combine Machine.fitted Machine.operate Machine.negated Machine.negate Machine.eval Machine.the_location Machine.jump Machine.looked_up Machine.written Machine.dropped Machine.fresh_location Machine.fresh_input Machine.exec Machine.settled Machine.move Rows.row_of Rows.cut_for Plain.no_sort Plain.known Plain.plain Plain.ran Plain.ran_to Plain.run_for Plain.plain_run Explore.stepped Explore.branched Explore.turned Explore.finish Explore.waiting_on Explore.on_turn Explore.walk_turn Explore.overfull Explore.turn_in Explore.after_move Explore.advance Explore.begin Explore.after_commands Explore.walk_move Explore.walk Explore.explore Pool.ref_sort Pool.place_in Pool.ref_to Pool.added Pool.pooled Pool.table Pool.value_of Pool.node_value Pool.values_from Pool.pool_values Pool.meets Pool.place_among Pool.placed
computed =
    record {
      reads8 = refl;
      table8 = refl;
      run8 = λ inputs. refl;
      cut8 = λ inputs. refl;
      reads_a = refl;
      table_a = refl;
      meets_a = refl;
      reads_many = refl;
      table_many = refl;
    }
