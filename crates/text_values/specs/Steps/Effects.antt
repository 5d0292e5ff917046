-- What each form does to the tables and the words. Assumes nothing.
use Rattle.std.specs.Prelude.{ℕ, ◌+◌, ◌≤◌, ◌≡◌, refl, List, [], ◌∷◌, ◌++◌, length}
use Rattle.std.proofs.Common.{sym, ap, ◌∙◌, append_assoc, arith, add-zero}
use Rattle.std.proofs.lemmas.List.Edits.{sets}
use Rattle.gil.specs.Tree.{Expr, assign, call, lookup, mutate, dispose, u_sym, i_sym, Name}
use Rattle.gil.specs.Names.{expr_vars, cmd_vars, cmd_properties, cmd_calls, is_end, rename_cmd, with_names}
use Rattle.machine_code.specs.Code.{cmd_nodes, cmd_words, assign_kind, call_kind, code_words, dispose_kind, i_sym_kind, lookup_kind, mutate_kind, u_sym_kind}
use Rattle.machine_code.proofs.Accepted.Sizes.{expr_size, cmd_size}
use Rattle.gil.specs.Numbers.{most_procedures, most_properties, most_variables}
use Rattle.text_names.specs.declared.Names.{Names}
use Rattle.text_names.specs.Mirror.Tables.{Kept, number_in}
use Rattle.text_names.specs.Laws.Lists.{with_names-append}
use Rattle.text_names.specs.Laws.Tables.{number-stays, grows_none, grows_then}
use Rattle.text_forms.specs.Mirror.Wrote.{nodes_of, Takes, Wrote}
use Rattle.text_forms.specs.Laws.Stores.{sets-append}
use Rattle.text_forms.specs.Laws.Wrote.{nodes-size, grows_takes}
use Rattle.text_values.specs.Mirror.{Sets, jump_at, numbered}

pub sets-plain : {s code code' : List ℕ} {t t' p k : Names} {out out' place : ℕ} {v : Name} {e : Expr Name} → Wrote s t t' code code' out out' e → place ≡ out → Sets s v t t' p p k k code code' out out' assign_kind place 0 0 (assign v e)
unfolding nodes_of cmd_vars cmd_properties cmd_calls jump_at is_end cmd_size numbered rename_cmd cmd_nodes cmd_words
sets-plain {out = out} {v = v} {e = e} w z =
    record {
      reads = expr_vars e;
      variables = refl;
      vars = w.vars;
      props = grows_none;
      calls = grows_none;
      on = refl;
      stays = refl;
      long = w.long;
      size = w.size;
      words = λ vs vm qs qm fs fm kv kq kf l h. (w.words vs vm kv l h, ap (λ (x : ℕ). assign_kind ∷ number_in most_variables (with_names vs (expr_vars e ++ vm)) v ∷ x ∷ 0 ∷ 0 ∷ []) z);
    }

pub sets-dispose : {s code code' : List ℕ} {t t' p k : Names} {out out' place : ℕ} {v : Name} {e : Expr Name} → Wrote s t t' code code' out out' e → place ≡ out → Sets s v t t' p p k k code code' out out' dispose_kind place 0 0 (dispose v e)
unfolding nodes_of cmd_vars cmd_properties cmd_calls jump_at is_end cmd_size numbered rename_cmd cmd_nodes cmd_words
sets-dispose {out = out} {v = v} {e = e} w z =
    record {
      reads = expr_vars e;
      variables = refl;
      vars = w.vars;
      props = grows_none;
      calls = grows_none;
      on = refl;
      stays = refl;
      long = w.long;
      size = w.size;
      words = λ vs vm qs qm fs fm kv kq kf l h. (w.words vs vm kv l h, ap (λ (x : ℕ). dispose_kind ∷ number_in most_variables (with_names vs (expr_vars e ++ vm)) v ∷ x ∷ 0 ∷ 0 ∷ []) z);
    }

pub sets-call : {s code code' : List ℕ} {t t' p k k' : Names} {out out' place other : ℕ} {v : Name} {e : Expr Name} {f : Name} → Takes s most_procedures k k' f other → Wrote s t t' code code' out out' e → place ≡ out → Sets s v t t' p p k k' code code' out out' call_kind place other 0 (call v f e)
unfolding nodes_of cmd_vars cmd_properties cmd_calls jump_at is_end cmd_size numbered rename_cmd cmd_nodes cmd_words
sets-call {out = out} {place = place} {other = other} {v = v} {e = e} {f = f} i w z =
    record {
      reads = expr_vars e;
      variables = refl;
      vars = w.vars;
      props = grows_none;
      calls = grows_takes i;
      on = refl;
      stays = refl;
      long = w.long;
      size = w.size;
      words = λ vs vm qs qm fs fm kv kq kf l h. (w.words vs vm kv l h, ap (λ (x : ℕ). call_kind ∷ number_in most_variables (with_names vs (expr_vars e ++ vm)) v ∷ x ∷ other ∷ 0 ∷ []) z ∙ ap (λ (x : ℕ). call_kind ∷ number_in most_variables (with_names vs (expr_vars e ++ vm)) v ∷ out ∷ x ∷ 0 ∷ []) (i.number fs kf ∙ sym (number-stays most_procedures fs f fm)));
    }

pub sets-lookup : {s code code' : List ℕ} {t t' p p' k : Names} {out out' place other : ℕ} {v : Name} {e : Expr Name} {q : Name} → Takes s most_properties p p' q other → Wrote s t t' code code' out out' e → place ≡ out → Sets s v t t' p p' k k code code' out out' lookup_kind place other 0 (lookup v e q)
unfolding nodes_of cmd_vars cmd_properties cmd_calls jump_at is_end cmd_size numbered rename_cmd cmd_nodes cmd_words
sets-lookup {out = out} {place = place} {other = other} {v = v} {e = e} {q = q} i w z =
    record {
      reads = expr_vars e;
      variables = refl;
      vars = w.vars;
      props = grows_takes i;
      calls = grows_none;
      on = refl;
      stays = refl;
      long = w.long;
      size = w.size;
      words = λ vs vm qs qm fs fm kv kq kf l h. (w.words vs vm kv l h, ap (λ (x : ℕ). lookup_kind ∷ number_in most_variables (with_names vs (expr_vars e ++ vm)) v ∷ x ∷ other ∷ 0 ∷ []) z ∙ ap (λ (x : ℕ). lookup_kind ∷ number_in most_variables (with_names vs (expr_vars e ++ vm)) v ∷ out ∷ x ∷ 0 ∷ []) (i.number qs kq ∙ sym (number-stays most_properties qs q qm)));
    }

pub sets_u : {s code : List ℕ} {t p k : Names} {out : ℕ} {v : Name} {j : ℕ} → Sets s v t t p p k k code code out out u_sym_kind 0 j 0 (u_sym v j)
unfolding nodes_of cmd_vars cmd_properties cmd_calls jump_at is_end cmd_size numbered rename_cmd cmd_nodes cmd_words
sets_u {out = out} =
    record {
      reads = [];
      variables = refl;
      vars = grows_none;
      props = grows_none;
      calls = grows_none;
      on = refl;
      stays = refl;
      long = refl;
      size = λ h. sym (add-zero out);
      words = λ vs vm qs qm fs fm kv kq kf l h. (refl, refl);
    }

pub sets_i : {s code : List ℕ} {t p k : Names} {out : ℕ} {v : Name} {j : ℕ} → Sets s v t t p p k k code code out out i_sym_kind 0 j 0 (i_sym v j)
unfolding nodes_of cmd_vars cmd_properties cmd_calls jump_at is_end cmd_size numbered rename_cmd cmd_nodes cmd_words
sets_i {out = out} =
    record {
      reads = [];
      variables = refl;
      vars = grows_none;
      props = grows_none;
      calls = grows_none;
      on = refl;
      stays = refl;
      long = refl;
      size = λ h. sym (add-zero out);
      words = λ vs vm qs qm fs fm kv kq kf l h. (refl, refl);
    }

-- two expressions in a row
module _ {s code code₁ code' : List ℕ} {t t₁ t' : Names} {out out₁ out' : ℕ} {e d : Expr Name} (w : Wrote s t t₁ code code₁ out out₁ e) (x : Wrote s t₁ t' code₁ code' out₁ out' d) where
  row_first : out + (expr_size e + expr_size d) ≤ code_words → out₁ ≡ out + expr_size e
  row_first h = w.size (omega arith)

  row-size : out + (expr_size e + expr_size d) ≤ code_words → out' ≡ out + (expr_size e + expr_size d)
  row-size h = let z = row_first h in x.size (omega arith) ∙ omega arith

  row_words_lem : (vs vm : List Name) → Kept s most_variables t vs → length code ≡ code_words → out + (expr_size e + expr_size d) ≤ code_words → code' ≡ sets code out (nodes_of (with_names vs ((expr_vars e ++ expr_vars d) ++ vm)) e ++ nodes_of (with_names vs ((expr_vars e ++ expr_vars d) ++ vm)) d)
  row_words_lem vs vm kv l h =
      let z = row_first h in
      let ns = with_names vs (expr_vars e ++ (expr_vars d ++ vm)) in
      let y : out + expr_size e ≡ out + length (nodes_of ns e) = omega (arith, nodes-size ns e) in
      x.words (with_names vs (expr_vars e)) vm (w.vars.kept vs kv) (w.long ∙ l) (omega arith)
      ∙ ap (λ (us : List Name). sets code₁ out₁ (nodes_of us d)) (sym (with_names-append vs (expr_vars e) (expr_vars d ++ vm)))
      ∙ ap (λ (c : List ℕ). sets c out₁ (nodes_of ns d)) (w.words vs (expr_vars d ++ vm) kv l (omega arith))
      ∙ ap (λ (n : ℕ). sets (sets code out (nodes_of ns e)) n (nodes_of ns d)) (z ∙ y)
      ∙ sym (sets-append code out (nodes_of ns e) (nodes_of ns d))
      ∙ ap (λ (us : List Name). sets code out (nodes_of (with_names vs us) e ++ nodes_of (with_names vs us) d)) (sym (append_assoc (expr_vars e) (expr_vars d) vm))

pub sets-mutate : {s code code₁ code' : List ℕ} {t t₁ t' p p' k : Names} {out out₁ out' place second other : ℕ} {v : Name} {e d : Expr Name} {q : Name} → Takes s most_properties p p' q other → Wrote s t t₁ code code₁ out out₁ e → Wrote s t₁ t' code₁ code' out₁ out' d → place ≡ out → second ≡ out₁ → Sets s v t t' p p' k k code code' out out' mutate_kind place other second (mutate v e q d)
unfolding nodes_of cmd_vars cmd_properties cmd_calls jump_at is_end cmd_size numbered rename_cmd cmd_nodes cmd_words
sets-mutate {out = out} {place = place} {second = second} {other = other} {v = v} {e = e} {d = d} {q = q} i w x z y =
    record {
      reads = expr_vars e ++ expr_vars d;
      variables = refl;
      vars = grows_then w.vars x.vars;
      props = grows_takes i;
      calls = grows_none;
      on = refl;
      stays = refl;
      long = x.long ∙ w.long;
      size = row-size w x;
      words = λ vs vm qs qm fs fm kv kq kf l h. (
        row_words_lem w x vs vm kv l h,
        ap (λ (a : ℕ). mutate_kind ∷ number_in most_variables (with_names vs ((expr_vars e ++ expr_vars d) ++ vm)) v ∷ a ∷ other ∷ second ∷ []) z
            ∙ ap (λ (a : ℕ). mutate_kind ∷ number_in most_variables (with_names vs ((expr_vars e ++ expr_vars d) ++ vm)) v ∷ out ∷ a ∷ second ∷ []) (i.number qs kq ∙ sym (number-stays most_properties qs q qm))
            ∙ ap (λ (a : ℕ). mutate_kind ∷ number_in most_variables (with_names vs ((expr_vars e ++ expr_vars d) ++ vm)) v ∷ out ∷ number_in most_properties (with_names qs (q ∷ qm)) q ∷ a ∷ []) (y ∙ row_first w x h ∙ ap (λ (a : ℕ). out + a) (sym (nodes-size (with_names vs ((expr_vars e ++ expr_vars d) ++ vm)) e))),
      );
    }
