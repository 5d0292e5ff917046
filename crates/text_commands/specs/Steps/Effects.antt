-- What each command does to the tables and the words. Assumes nothing.
use Rattle.std.specs.Prelude.{ℕ, suc, ◌+◌, ◌≤◌, ◌<◌, ◌≡◌, Bool, true, false, List, [], ◌∷◌, ◌++◌, length}
use Rattle.std.proofs.Math.Path.{refl}
use Rattle.std.proofs.Common.{sym, ap, ◌∙◌, subst, add-zero}
use Rattle.std.proofs.lemmas.List.Edits.{sets}
use Rattle.gil.specs.Tree.{Expr, Cmd, ifgoto, vanish, Name}
use Rattle.gil.specs.Names.{expr_vars, cmd_vars, cmd_properties, cmd_calls, is_end, rename_cmd, with_name, with_names}
use Rattle.machine_code.specs.Code.{cmd_nodes, cmd_words, code_words, jump_kind, vanish_kind, command_at}
use Rattle.machine_code.proofs.Accepted.Sizes.{expr_size, cmd_size}
use Rattle.gil.specs.Numbers.{most_commands, most_procedures, most_properties, most_variables}
use Rattle.text_names.specs.declared.Names.{Names}
use Rattle.text_names.specs.Mirror.Tables.{Kept, number_in, Grows}
use Rattle.text_names.specs.Laws.Tables.{number-stays, grows_none, grows_then}
use Rattle.text_forms.specs.Mirror.Stores.{put_command}
use Rattle.text_forms.specs.Mirror.Wrote.{nodes_of, Takes, Wrote}
use Rattle.text_forms.specs.Laws.Wrote.{grows_takes}
use Rattle.text_forms.specs.Laws.Stores.{command-long, command-sets}
use Rattle.text_values.specs.Mirror.{Sets, numbered, jump_at}
use Rattle.text_commands.specs.Mirror.{Does, Ending, failing, returning}

pub does_setting : {s code code₁ code' : List ℕ} {t t₁ t' p p' k k' : Names} {n out out' kind place other second x : ℕ} {v : Name} {c : Cmd Name} → Takes s most_variables t t₁ v x → Sets s v t₁ t' p p' k k' code code₁ out out' kind place other second c → code' ≡ put_command code₁ n kind x place other second → Does s t t' p p' k k' code code' n out out' 0 false c
does_setting {s} {code = code} {code₁ = code₁} {code' = code'} {t} {t₁} {t'} {p} {k = k} {n = n} {out = out} {kind = kind} {place = place} {other = other} {second = second} {x = x} {v = v} {c = c} i w e =
    record {
      vars = subst (λ (ws : List Name). Grows s most_variables t t' ws) (sym w.variables) (grows_then (grows_takes i) w.vars);
      props = w.props;
      calls = w.calls;
      jumps = sym w.on;
      ending = sym w.stays;
      long = ap length e ∙ command-long code₁ n kind x place other second ∙ w.long;
      size = w.size;
      words = all;
    }
  where
    all : (vs vm qs qm fs fm : List Name) → Kept s most_variables t vs → Kept s most_properties p qs → Kept s most_procedures k fs → length code ≡ code_words → out + cmd_size c ≤ code_words → n < most_commands → code' ≡ sets (sets code out (cmd_nodes (numbered (with_names vs (cmd_vars c ++ vm)) (with_names qs (cmd_properties c ++ qm)) (with_names fs (cmd_calls c ++ fm)) c))) (command_at n) (cmd_words out (numbered (with_names vs (cmd_vars c ++ vm)) (with_names qs (cmd_properties c ++ qm)) (with_names fs (cmd_calls c ++ fm)) c))
    all vs vm qs qm fs fm kv kq kf l h m =
        let both = w.words (with_name vs v) vm qs qm fs fm (i.kept vs kv) kq kf l h in
        e
        ∙ command-sets code₁ n kind x place other second (w.long ∙ l) m
        ∙ ap (λ (a : ℕ). sets code₁ (command_at n) (kind ∷ a ∷ place ∷ other ∷ second ∷ [])) (i.number vs kv ∙ sym (number-stays most_variables vs v (w.reads ++ vm)) ∙ same_names vs (w.reads ++ vm))
        ∙ ap (sets code₁ (command_at n)) both.1
        ∙ ap (λ (b : List ℕ). sets b (command_at n) (cmd_words out (numbered (with_names (with_name vs v) (w.reads ++ vm)) (with_names qs (cmd_properties c ++ qm)) (with_names fs (cmd_calls c ++ fm)) c))) both.0
        ∙ ap (λ (ns : List Name). sets (sets code out (cmd_nodes (numbered ns (with_names qs (cmd_properties c ++ qm)) (with_names fs (cmd_calls c ++ fm)) c))) (command_at n) (cmd_words out (numbered ns (with_names qs (cmd_properties c ++ qm)) (with_names fs (cmd_calls c ++ fm)) c))) (whole-names vs vm)
      where
        same_names : (vs ws : List Name) → number_in most_variables (with_names vs (v ∷ ws)) v ≡ number_in most_variables (with_names (with_name vs v) ws) v
        same_names vs ws = unfold with_names in refl

        taken : (vs ws : List Name) → with_names (with_name vs v) ws ≡ with_names vs (v ∷ ws)
        taken vs ws = unfold with_names in refl

        whole-names : (vs vm : List Name) → with_names (with_name vs v) (w.reads ++ vm) ≡ with_names vs (cmd_vars c ++ vm)
        whole-names vs vm = taken vs (w.reads ++ vm) ∙ ap (λ (ws : List Name). with_names vs (ws ++ vm)) (sym w.variables)

-- a command whose words follow from those of its expression
does_one : {s code code₁ code' : List ℕ} {t t' p k : Names} {n out out' place kind a : ℕ} {e : Expr Name} {c : Cmd Name} → Wrote s t t' code code₁ out out' e → code' ≡ put_command code₁ n kind a place 0 0 → place ≡ out → cmd_vars c ≡ expr_vars e → cmd_properties c ≡ [] → cmd_calls c ≡ [] → cmd_size c ≡ expr_size e → ((vs qs fs : List Name) → cmd_nodes (numbered vs qs fs c) ≡ nodes_of vs e) → ((vs qs fs : List Name) → cmd_words out (numbered vs qs fs c) ≡ kind ∷ a ∷ out ∷ 0 ∷ 0 ∷ []) → {j : ℕ} {b : Bool} → j ≡ jump_at c → b ≡ is_end c → Does s t t' p p k k code code' n out out' j b c
does_one {s} {code} {code₁} {code'} {t} {t'} {p} {k} {n} {out} {place = place} {kind = kind} {a = a} {e = e} {c = c} w f z ev ep ek es en ew ej eb =
    record {
      vars = subst (λ (ws : List Name). Grows s most_variables t t' ws) (sym ev) w.vars;
      props = subst (λ (ws : List Name). Grows s most_properties p p ws) (sym ep) grows_none;
      calls = subst (λ (ws : List Name). Grows s most_procedures k k ws) (sym ek) grows_none;
      jumps = ej;
      ending = eb;
      long = ap length f ∙ command-long code₁ n kind a place 0 0 ∙ w.long;
      size = λ h. w.size (subst (λ (m : ℕ). out + m ≤ code_words) es h) ∙ ap (λ (m : ℕ). out + m) (sym es);
      words = λ vs vm qs qm fs fm kv kq kf l h m.
          f
          ∙ command-sets code₁ n kind a place 0 0 (w.long ∙ l) m
          ∙ ap (λ (x : ℕ). sets code₁ (command_at n) (kind ∷ a ∷ x ∷ 0 ∷ 0 ∷ [])) z
          ∙ ap (λ (b : List ℕ). sets b (command_at n) (kind ∷ a ∷ out ∷ 0 ∷ 0 ∷ [])) (w.words vs vm kv l (subst (λ (m : ℕ). out + m ≤ code_words) es h) ∙ ap (λ (ws : List Name). sets code out (nodes_of (with_names vs (ws ++ vm)) e)) (sym ev) ∙ ap (sets code out) (sym (en (with_names vs (cmd_vars c ++ vm)) (with_names qs (cmd_properties c ++ qm)) (with_names fs (cmd_calls c ++ fm)))))
          ∙ ap (sets (sets code out (cmd_nodes (numbered (with_names vs (cmd_vars c ++ vm)) (with_names qs (cmd_properties c ++ qm)) (with_names fs (cmd_calls c ++ fm)) c))) (command_at n)) (sym (ew (with_names vs (cmd_vars c ++ vm)) (with_names qs (cmd_properties c ++ qm)) (with_names fs (cmd_calls c ++ fm))));
    }

pub does_jump : {s code code₁ code' : List ℕ} {t t' p k : Names} {n out out' place to m : ℕ} {e : Expr Name} → Wrote s t t' code code₁ out out' e → code' ≡ put_command code₁ n jump_kind to place 0 0 → place ≡ out → to ≡ m → Does s t t' p p k k code code' n out out' (suc to) false (ifgoto e m)
unfolding nodes_of cmd_vars cmd_properties cmd_calls jump_at is_end cmd_size numbered rename_cmd cmd_nodes cmd_words
does_jump {code₁ = code₁} {n = n} {place = place} w e z h = does_one w (e ∙ ap (λ (x : ℕ). put_command code₁ n jump_kind x place 0 0) h) z refl refl refl refl (λ vs qs fs. refl) (λ vs qs fs. refl) (ap suc h) refl

pub does_ending : {s code code₁ code' : List ℕ} {t t' p k : Names} {n out out' place kind : ℕ} {h : Expr Name → Cmd Name} {e : Expr Name} → Ending kind h → Wrote s t t' code code₁ out out' e → code' ≡ put_command code₁ n kind 0 place 0 0 → place ≡ out → Does s t t' p p k k code code' n out out' 0 true (h e)
unfolding nodes_of cmd_vars cmd_properties cmd_calls jump_at is_end cmd_size numbered rename_cmd cmd_nodes cmd_words
does_ending returning w e z = does_one w e z refl refl refl refl (λ vs qs fs. refl) (λ vs qs fs. refl) refl refl
does_ending failing w e z = does_one w e z refl refl refl refl (λ vs qs fs. refl) (λ vs qs fs. refl) refl refl

pub does_vanish : {s code code' : List ℕ} {t p k : Names} {n out : ℕ} → code' ≡ put_command code n vanish_kind 0 0 0 0 → Does s t t p p k k code code' n out out 0 true vanish
unfolding cmd_vars cmd_properties cmd_calls jump_at is_end cmd_size numbered rename_cmd cmd_nodes cmd_words
does_vanish {code = code} {n = n} {out = out} e =
    record {
      vars = grows_none;
      props = grows_none;
      calls = grows_none;
      jumps = refl;
      ending = refl;
      long = ap length e ∙ command-long code n vanish_kind 0 0 0 0;
      size = λ h. sym (add-zero out);
      words = λ vs vm qs qm fs fm kv kq kf l h m. e ∙ command-sets code n vanish_kind 0 0 0 0 l m;
    }

-- where the place after the words is known by another name
pub does_out : {s code code' : List ℕ} {t t' p p' k k' : Names} {n out out₁ out' j : ℕ} {b : Bool} {c : Cmd Name} → out' ≡ out₁ → Does s t t' p p' k k' code code' n out out₁ j b c → Does s t t' p p' k k' code code' n out out' j b c
does_out {s} {code} {code'} {t} {t'} {p} {p'} {k} {k'} {n} {out} {j = j} {b} {c} e d = subst (λ (i : ℕ). Does s t t' p p' k k' code code' n out i j b c) (sym e) d
