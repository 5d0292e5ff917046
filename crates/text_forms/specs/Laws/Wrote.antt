-- The words of a variable, and how many an expression has. Assumes nothing.
use Rattle.std.specs.Prelude.{ℕ, ◌≡◌, Option, unwrap_or}
use Rattle.std.proofs.Math.Path.{refl, sym, ap, subst}
use Rattle.std.proofs.Common.{◌∙◌}
use mathlib.Core.List.{List, [], ◌∷◌}
use Rattle.std.proofs.Math.ListN.{length, set}
use Rattle.std.proofs.lemmas.List.Edits.{sets}
use Rattle.gil.specs.Tree.{Expr, var, Name}
use Rattle.gil.specs.Names.{expr_vars, rename_expr, with_name, with_names}
use Rattle.machine_code.specs.Code.{node, expr_words, variable_node}
use Rattle.machine_code.proofs.Accepted.Sizes.{expr_size}
use Rattle.machine_code.proofs.Accepted.Numbered.{expr_words-size, rename_expr-size}
use Rattle.gil.specs.Numbers.{most_variables}
use Rattle.text_names.specs.declared.Names.{Names}
use Rattle.text_names.specs.Mirror.Tables.{Kept, number_in, Interned, Grows}
use Rattle.text_names.specs.Laws.Tables.{number-stays}
use Rattle.text_forms.specs.Mirror.Stores.{put, up_from}
use Rattle.text_forms.specs.Mirror.Wrote.{nodes_of, Takes, Wrote}
use Rattle.text_forms.specs.Laws.Stores.{put-long, put-set, up_room}

pub nodes-size : (all : List Name) (e : Expr Name) → length (nodes_of all e) ≡ expr_size e
unfolding nodes_of
nodes-size all e = expr_words-size (rename_expr (number_in most_variables all) e) ∙ rename_expr-size (number_in most_variables all) e

-- what a table answers, with its limit for a name that found no room
pub taken : {s : List ℕ} {cap : ℕ} {t t' : Names} {w v : Name} {r : Option ℕ} {n : ℕ} → Interned s t.most t t' w r → n ≡ unwrap_or r cap → w ≡ v → Takes s cap t t' v n
taken {s} {cap} {t} {t'} {w} {v} {r} {n} i e z = subst (λ (x : Name). Takes s cap t t' x n) z (record { kept = λ all k. subst (λ (m : ℕ). Kept s m t' (with_name all w)) k.most (i.kept all (own all k)); number = λ all k. e ∙ ap (unwrap_or r) (sym k.most) ∙ i.number all (own all k) ∙ ap (λ (m : ℕ). number_in m (with_name all w) w) k.most })
  where
    own : (all : List Name) → Kept s cap t all → Kept s t.most t all
    own all k = subst (λ (m : ℕ). Kept s m t all) (sym k.most) k

pub grows_takes : {s : List ℕ} {cap : ℕ} {t t' : Names} {w : Name} {r : ℕ} → Takes s cap t t' w r → Grows s cap t t' (w ∷ [])
unfolding with_names
grows_takes i = record { kept = λ all k. i.kept all k }

module _ {s code code' : List ℕ} {t t' : Names} {out out' : ℕ} where
  pub wrote_var : {w : Name} {r : ℕ} → Takes s most_variables t t' w r → out' ≡ up_from out → code' ≡ put code out (node variable_node r) → Wrote s t t' code code' out out' (var w)
  unfolding expr_vars expr_size
  wrote_var {w} {r} i o c =
      record {
        vars = grows_takes i;
        long = ap length c ∙ put-long code out (node variable_node r);
        size = λ h. o ∙ up_room out h;
        words = λ all more k l h. c ∙ put-set code out (node variable_node r) l ∙ ap (λ (n : ℕ). set code out (node variable_node n)) (i.number all k ∙ stays all more) ∙ is all more;
      }
    where
      stays : (all more : List Name) → number_in most_variables (with_name all w) w ≡ number_in most_variables (with_names all (w ∷ more)) w
      stays all more = sym (number-stays most_variables all w more)

      is : (all more : List Name) → set code out (node variable_node (number_in most_variables (with_names all (w ∷ more)) w)) ≡ sets code out (nodes_of (with_names all (w ∷ more)) (var w))
      is all more = unfold nodes_of expr_words rename_expr in refl
