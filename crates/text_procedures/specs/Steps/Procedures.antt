-- A procedure from its parts; a turn of the loop over procedures. Assumes nothing.
use Rattle.std.specs.Prelude.{ℕ, suc, ◌+◌, ◌-◌, ◌≤◌, ◌<◌, max, min}
use Rattle.std.specs.Prelude.{◌≡◌, Bool, true, false, not, ◌||◌, ltb, Option, None, Some}
use Rattle.std.proofs.Math.Path.{refl, ap, subst}
use Rattle.std.proofs.Common.{sym, ◌∙◌, arith, lt-ltb, le-ltb, ltb-true, ltb-false, length-append}
use mathlib.Core.List.{List, [], ◌∷◌, ◌++◌, map, map-append, append-nil}
use Rattle.std.proofs.Math.ListN.{length}
use Rattle.std.proofs.lemmas.List.{length-map}
use Rattle.std.proofs.lemmas.List.Edits.{sets}
use Rattle.std.proofs.Math.Dec.{leb-suc-suc}
use Rattle.gil.specs.Text.{lexeme}
use Rattle.gil.specs.Tree.{Cmd, assign, ifgoto, call, lookup, mutate, dispose, u_sym, i_sym, return, fail, vanish, Proc, Name}
use Rattle.gil.specs.Reading.{Read, ◌>>=◌, ◌>>◌, is_ended, the_mark, the_name, one_or_more, commands, procedure, procedures_of, procedures}
use Rattle.gil.specs.Names.{any, gather, cmd_vars, cmd_properties, cmd_calls, jumps_past, with_name, with_names, distinct, proc_vars, Procedure}
use Rattle.machine_code.specs.Code.{procedure_words, code_words, nodes_at, procedure_at}
use Rattle.gil.specs.Numbers.{most_commands, most_procedures, most_properties, most_variables}
use Rattle.gil.proofs.Theory.Gathered.{gather-last}
use Rattle.text_names.specs.declared.Names.{Names}
use Rattle.text_names.specs.Mirror.Tables.{Kept}
use Rattle.text_names.specs.Laws.Lists.{with_names-append}
use Rattle.text_names.specs.Laws.Tables.{cut-tells, grows_none}
use Rattle.text_forms.specs.Mirror.Goes.{Goes, fails, goes, Passes, anything, following}
use Rattle.text_forms.specs.Mirror.Wrote.{Takes}
use Rattle.text_forms.specs.Laws.Wrote.{grows_takes}
use Rattle.text_forms.specs.Mirror.Stores.{put_procedure}
use Rattle.text_forms.specs.Laws.Goes.{was_fault, Item, closes, row, next}
use Rattle.text_forms.specs.Laws.Stores.{procedure-long, procedure-sets}
use Rattle.text_values.specs.Mirror.{jump_at, numbered}
use Rattle.text_procedures.specs.Mirror.Lists.{highest, body_size, body_stored, Lists}
use Rattle.text_procedures.specs.Mirror.Words.{proc_of, proc_stored, program_stored}
use Rattle.text_procedures.specs.Mirror.Procedures.{Declares, wide_of, past_of, open_of, props_of, calls_of, all_of, Tells}
use Rattle.text_procedures.specs.Laws.Lists.{size-append}
use Rattle.text_procedures.specs.Laws.Words.{commands-kept, nodes-kept}
use Rattle.text_procedures.specs.Steps.Items.{join, join-join, join-none, list_fault, list_last, list_more}
use Rattle.text_procedures.specs.Steps.Lists.{grows-more, names_more}
use Rattle.text_procedures.specs.Steps.Words.{program-more}

-- a jump passes the count exactly if the highest jump does
or_ltb : (n a b : ℕ) → ltb n a || ltb n b ≡ ltb n (max a b)
or_ltb n a b = at (ltb n a) refl (ltb n b) refl
  where
    at : (x : Bool) → ltb n a ≡ x → (y : Bool) → ltb n b ≡ y → x || y ≡ ltb n (max a b)
    at true e y f = sym (lt-ltb n (max a b) (omega (arith, ltb-true n a e)))
    at false e true f = sym (lt-ltb n (max a b) (omega (arith, ltb-true n b f)))
    at false e false f = sym (le-ltb n (max a b) (omega (arith, ltb-false n a e, ltb-false n b f)))

none-past : (n : ℕ) → false ≡ ltb n 0
none-past n = sym (le-ltb n 0 (omega arith))

past_one : (n : ℕ) (c : Cmd Name) → jumps_past n c ≡ ltb n (jump_at c)
unfolding jumps_past jump_at
past_one n (assign v e) = none-past n
past_one n (ifgoto e m) = sym (leb-suc-suc n m)
past_one n (call v f e) = none-past n
past_one n (lookup v e p) = none-past n
past_one n (mutate v e p d) = none-past n
past_one n (dispose v e) = none-past n
past_one n (u_sym v j) = none-past n
past_one n (i_sym v j) = none-past n
past_one n (return e) = none-past n
past_one n (fail e) = none-past n
past_one n vanish = none-past n

past-any : (n : ℕ) (cs : List (Cmd Name)) → any (jumps_past n) cs ≡ ltb n (highest cs)
unfolding any highest
past-any n [] = none-past n
past-any n (c ∷ cs) = ap (λ (b : Bool). b || any (jumps_past n) cs) (past_one n c) ∙ ap (λ (b : Bool). ltb n (jump_at c) || b) (past-any n cs) ∙ or_ltb n (jump_at c) (highest cs)

pub declares : {s code code₁ code' : List ℕ} {v₀ v₁ v₂ p p' k k' q q' : Names} {number from out out₁ out' count jump g x : ℕ} {ends wide past : Bool} {f y : Name} {cs : List (Cmd Name)} → Takes s most_procedures q q' f g → Kept s most_variables v₀ [] → Takes s most_variables v₀ v₁ y x → Lists s v₁ v₂ p p' k k' code code₁ from out out₁ count jump ends cs → code' ≡ put_procedure code₁ number from v₂.count count → out' ≡ out₁ → wide ≡ ltb v₂.most v₂.count → past ≡ ltb count jump → Declares s p p' k k' q q' code code' number from out out' count wide past (not ends) (record { name = f; parameter = y; body = cs })
declares {s} {code = code} {code₁ = code₁} {code' = code'} {v₀} {v₁} {v₂} {p} {k = k} {q = q} {q' = q'} {number = number} {from = from} {out = out} {count = count} {jump = jump} {g = g} {x = x} {f = f} {y = y} {cs = cs} i none j l e o hw hp =
    record {
      props = l.props;
      calls = l.calls;
      procs = grows_takes i;
      counted = l.counted;
      wider = hw ∙ ap (λ (m : ℕ). ltb m v₂.count) kept.most ∙ ap (ltb most_variables) kept.counted ∙ cut-tells most_variables (length (with_names (with_name [] y) (gather cmd_vars cs))) ∙ named;
      passes = hp ∙ ap (λ (n : ℕ). ltb n jump) l.counted ∙ ap (ltb (length cs)) l.jumps ∙ sym (past-any (length cs) cs);
      stays = sym l.ending;
      long = ap length e ∙ procedure-long code₁ number from v₂.count count ∙ l.long;
      size = λ h. o ∙ l.size h;
      words = stored;
    }
  where
    -- the table of variables starts with the parameter, and takes in no names later
    start : Kept s most_variables v₁ (with_name [] y)
    start = j.kept [] none

    kept : Kept s most_variables v₂ (with_names (with_name [] y) (gather cmd_vars cs))
    kept = l.vars.kept (with_name [] y) start

    named : ltb most_variables (length (with_names (with_name [] y) (gather cmd_vars cs))) ≡ ltb most_variables (length (proc_vars (record { name = f; parameter = y; body = cs })))
    named = unfold proc_vars distinct with_names in refl

    r : Proc Name
    r = record { name = f; parameter = y; body = cs }

    variables : with_names (with_name [] y) (gather cmd_vars cs ++ []) ≡ proc_vars r
    variables = ap (with_names (with_name [] y)) (append-nil (gather cmd_vars cs)) ∙ (unfold proc_vars distinct with_names in refl)

    many : v₂.count ≡ min (most_variables + 1) (length (proc_vars r))
    many = kept.counted ∙ (unfold proc_vars distinct with_names in refl)

    stored : (ns nm fs fm : List Name) → Kept s most_properties p ns → Kept s most_procedures k fs → length code ≡ code_words → nodes_at ≤ out → out + body_size cs ≤ code_words → from + length cs ≤ most_commands → number < most_procedures → code' ≡ proc_stored code number from out (proc_of (with_names ns (gather cmd_properties cs ++ nm)) (with_names fs (gather cmd_calls cs ++ fm)) r)
    stored ns nm fs fm kn kf lc low room few less =
        e
        ∙ procedure-sets code₁ number from (v₂.count) count (l.long ∙ lc) less
        ∙ ap (λ (n : ℕ). sets code₁ (procedure_at number) (from ∷ n ∷ count ∷ [])) many
        ∙ ap (λ (n : ℕ). sets code₁ (procedure_at number) (from ∷ min (most_variables + 1) (length (proc_vars r)) ∷ n ∷ [])) (l.counted ∙ sym (length-map cs (numbered (proc_vars r) N F)))
        ∙ ap (λ (c : List ℕ). sets c (procedure_at number) own) (l.words (with_name [] y) [] ns nm fs fm start kn kf lc low room few ∙ ap (λ (vs : List Name). body_stored code from out (map (numbered vs N F) cs)) variables)
        ∙ (unfold proc_stored proc_of in refl)
      where
        N : List Name
        N = with_names ns (gather cmd_properties cs ++ nm)

        F : List Name
        F = with_names fs (gather cmd_calls cs ++ fm)

        own : List ℕ
        own = from ∷ min (most_variables + 1) (length (proc_vars r)) ∷ length (map (numbered (proc_vars r) N F) cs) ∷ []

-- a procedure of any parts, where what follows a part is asked only where that was read
pub procedure-goes :
    {s : List ℕ} {at : ℕ} {o₁ o₂ o₃ o₄ o₅ o₆ o₇ : Option ℕ} {F X : Name → Type 0} {L : List (Cmd Name) → Type 0} {P : Proc Name → Type 0}
    → ((f x : Name) (cs : List (Cmd Name)) → F f → X x → L cs → P (record { name = f; parameter = x; body = cs }))
    → Passes s (suc at) F (the_name s at) o₁
    → ((n : ℕ) → o₁ ≡ Some n → Passes s (suc n) anything (the_mark 40 s n) o₂)
    → ((n : ℕ) → o₂ ≡ Some n → Passes s (suc n) X (the_name s n) o₃)
    → ((n : ℕ) → o₃ ≡ Some n → Passes s (suc n) anything (the_mark 41 s n) o₄)
    → ((n : ℕ) → o₄ ≡ Some n → Passes s (suc n) anything (the_mark 123 s n) o₅)
    → ((n : ℕ) → o₅ ≡ Some n → Passes s (suc n) L (commands s n) o₆)
    → ((n : ℕ) → o₆ ≡ Some n → Passes s (suc n) anything (the_mark 125 s n) o₇)
    → Passes s (suc at) P (procedure s at) (following o₁ (following o₂ (following o₃ (following o₄ (following o₅ (following o₆ o₇))))))
unfolding procedure ◌>>=◌ ◌>>◌
procedure-goes h gf ga gx gb gc gd ge =
    row _ gf (λ f n₁ e₁ qf.
    next _ (ga n₁ e₁) (λ u₂ n₂ e₂ q₂.
    next _ (gx n₂ e₂) (λ x n₃ e₃ qx.
    next _ (gb n₃ e₃) (λ u₄ n₄ e₄ q₄.
    next _ (gc n₄ e₄) (λ u₅ n₅ e₅ q₅.
    next _ (gd n₅ e₅) (λ cs n₆ e₆ qc.
    closes (record { name = f; parameter = x; body = cs }) (ge n₆ e₆) (h f x cs qf qx qc)))))))

any-more : {A : Type 0} (f : A → Bool) (l : List A) (a : A) → any f (l ++ (a ∷ [])) ≡ any f l || f a
unfolding any
any-more f [] a = or_false (f a)
  where
    or_false : (b : Bool) → b || false ≡ b
    or_false true = refl
    or_false false = refl
any-more f (b ∷ l) a = at (f b) (any-more f l a)
  where
    at : (x : Bool) → any f (l ++ (a ∷ [])) ≡ any f l || f a → x || any f (l ++ (a ∷ [])) ≡ x || any f l || f a
    at true e = refl
    at false e = e

-- in the middle of them
pub record Round (s : List ℕ) (p p' k k' q q' : Names) (code code' : List ℕ) (out i procs commands : ℕ) (wide past unended : Bool) : Type 0 where
  pub so : List (Proc Name)
  pub rest : procedures s ≡ join so (procedures_of (suc (length s) - procs) s i)
  pub tells : Tells s p p' k k' q q' code code' procs commands wide past unended so
  pub room : procs ≤ length s
  pub behind : procs ≤ i
  pub size : nodes_at + body_size (all_of so) ≤ code_words → out ≡ nodes_at + body_size (all_of so)

pub round_none : {s code : List ℕ} {p k q : Names} → Round s p p k k q q code code nodes_at 0 0 0 false false false
unfolding procedures gather any body_size program_stored body_stored procedure_words Rattle.machine_code.specs.Code.command_words
round_none {s} =
    record {
      so = [];
      rest = join-none (procedures_of (suc (length s)) s 0) ∙ (let e : suc (length s) ≡ suc (length s) - 0 = omega arith in ap (λ (n : ℕ). join [] (procedures_of n s 0)) e);
      tells = record { props = grows_none; calls = grows_none; names = grows_none; counted = refl; summed = refl; wider = refl; passes = refl; stays = refl; long = refl; words = λ ns nm fs fm kn kf l h m few. refl };
      room = omega arith;
      behind = omega arith;
      size = λ h. refl;
    }

-- the words of one procedure more, all names in the tables
one-procedure : (code₀ : List ℕ) (so : List (Proc Name)) (r : Proc Name) (ns nm fs fm : List Name) {code code' : List ℕ} {out commands procs : ℕ} → code ≡ program_stored code₀ (map (proc_of (with_names ns (gather props_of so ++ (props_of r ++ nm))) (with_names fs (gather calls_of so ++ (calls_of r ++ fm)))) so) → out ≡ nodes_at + body_size (all_of so) → commands ≡ length (all_of so) → procs ≡ length so → length so ≤ most_procedures → length (all_of so) ≤ most_commands → code' ≡ proc_stored code procs commands out (proc_of (with_names (with_names ns (gather props_of so)) (props_of r ++ nm)) (with_names (with_names fs (gather calls_of so)) (calls_of r ++ fm)) r) → code' ≡ program_stored code₀ (map (proc_of (with_names ns (gather props_of (so ++ (r ∷ [])) ++ nm)) (with_names fs (gather calls_of (so ++ (r ∷ [])) ++ fm))) (so ++ (r ∷ [])))
one-procedure code₀ so r ns nm fs fm {code} {code'} {out} {commands} {procs} c o m n few low e =
    e
    ∙ ap (λ (a : List Name). proc_stored code procs commands out (proc_of a (with_names (with_names fs (gather calls_of so)) (calls_of r ++ fm)) r)) (sym (with_names-append ns (gather props_of so) (props_of r ++ nm)))
    ∙ ap (λ (a : List Name). proc_stored code procs commands out (proc_of N a r)) (sym (with_names-append fs (gather calls_of so) (calls_of r ++ fm)))
    ∙ ap (λ (x : List ℕ). proc_stored x procs commands out (proc_of N F r)) c
    ∙ ap (λ (i : ℕ). proc_stored (program_stored code₀ before) i commands out (proc_of N F r)) (n ∙ sym (length-map so (proc_of N F)))
    ∙ ap (λ (i : ℕ). proc_stored (program_stored code₀ before) (length before) i out (proc_of N F r)) (m ∙ sym (commands-kept N F so))
    ∙ ap (proc_at (length (gather (λ q. q.body) before))) (o ∙ ap (λ (i : ℕ). nodes_at + i) (sym (nodes-kept N F so)))
    ∙ program-more code₀ before (proc_of N F r) (omega (arith, length-map so (proc_of N F))) (omega (arith, commands-kept N F so))
    ∙ ap (program_stored code₀) (sym (map-append (proc_of N F) so (r ∷ [])))
    ∙ ap (λ (a : List Name). program_stored code₀ (map (proc_of a F) (so ++ (r ∷ [])))) (names_more props_of so r ns nm)
    ∙ ap (λ (a : List Name). program_stored code₀ (map (proc_of (with_names ns (gather props_of (so ++ (r ∷ [])) ++ nm)) a) (so ++ (r ∷ [])))) (names_more calls_of so r fs fm)
  where
    N : List Name
    N = with_names ns (gather props_of so ++ (props_of r ++ nm))

    F : List Name
    F = with_names fs (gather calls_of so ++ (calls_of r ++ fm))

    before : List Procedure
    before = map (proc_of N F) so

    proc_at : ℕ → ℕ → List ℕ
    proc_at first i = proc_stored (program_stored code₀ before) (length before) first i (proc_of N F r)

module _ {s code₀ code : List ℕ} {p₀ p k₀ k q₀ q : Names} {out i procs commands : ℕ} {wide past unended : Bool} (u : Round s p₀ p k₀ k q₀ q code₀ code out i procs commands wide past unended) where
  here : procedures_of (suc (length s) - procs) s i ≡ one_or_more procedure is_ended (procedures_of (length s - procs)) s i
  unfolding procedures_of
  here = let e : suc (length s) - procs ≡ suc (length s - procs) = omega (arith, u.room) in ap (λ (m : ℕ). procedures_of m s i) e

  pub round_fault : {B C : Type 0} {low lower : ℕ} {next : B → ℕ} {next' : C → ℕ} {Q : B → Proc Name → Type 0} {P : C → List (Proc Name) → Type 0} → Goes s low next Q (procedure s i) None → Goes s lower next' P (procedures s) None
  unfolding join
  round_fault {lower = lower} {next' = next'} {P = P} g = subst (λ (r : Read (List (Proc Name))). Goes s lower next' P r None) (sym (u.rest ∙ ap (join u.so) (here ∙ list_fault s procedure is_ended (procedures_of (length s - procs)) i (was_fault g)))) fails

module _ {s code₀ code code' : List ℕ} {p₀ p p' k₀ k k' q₀ q q' : Names} {out out' i procs commands n count : ℕ} {wide past unended w x y : Bool} (u : Round s p₀ p k₀ k q₀ q code₀ code out i procs commands wide past unended) (it : Item s (suc i) (Declares s p p' k k' q q' code code' procs commands out out' count w x y) (procedure s i) n) {procs' commands' : ℕ} {wide' past' unended' : Bool} (hn : procs' ≡ procs + 1) (hc : commands' ≡ commands + count) (hw : wide' ≡ wide || w) (hp : past' ≡ past || x) (hu : unended' ≡ unended || y) where
  now_long : length code' ≡ length code₀
  now_long = it.has.long ∙ u.tells.long

  all_more : body_size (all_of (u.so ++ (it.item ∷ []))) ≡ body_size (all_of u.so) + body_size it.item.body
  all_more = ap body_size (gather-last (λ r. r.body) u.so it.item) ∙ size-append (all_of u.so) it.item.body

  count-more : length (all_of (u.so ++ (it.item ∷ []))) ≡ length (all_of u.so) + length it.item.body
  count-more = ap length (gather-last (λ r. r.body) u.so it.item) ∙ length-append (all_of u.so) it.item.body

  placed : nodes_at + body_size (all_of (u.so ++ (it.item ∷ []))) ≤ code_words → out ≡ nodes_at + body_size (all_of u.so)
  placed r = u.size (omega (arith, all_more))

  now_size : nodes_at + body_size (all_of (u.so ++ (it.item ∷ []))) ≤ code_words → out' ≡ nodes_at + body_size (all_of (u.so ++ (it.item ∷ [])))
  now_size r = let z = placed r in let y = all_more in it.has.size (omega arith) ∙ omega arith

  now_words : (ns nm fs fm : List Name) → Kept s most_properties p₀ ns → Kept s most_procedures k₀ fs → length code₀ ≡ code_words → nodes_at + body_size (all_of (u.so ++ (it.item ∷ []))) ≤ code_words → length (all_of (u.so ++ (it.item ∷ []))) ≤ most_commands → length (u.so ++ (it.item ∷ [])) ≤ most_procedures → code' ≡ program_stored code₀ (map (proc_of (with_names ns (gather props_of (u.so ++ (it.item ∷ [])) ++ nm)) (with_names fs (gather calls_of (u.so ++ (it.item ∷ [])) ++ fm))) (u.so ++ (it.item ∷ [])))
  now_words ns nm fs fm kn kf l r m few =
      let z = placed r in
      let y = all_more in
      let d = count-more in
      let a = length-append u.so (it.item ∷ []) in
      let b = u.tells.counted in
      let e = u.tells.summed in
      one-procedure code₀ u.so it.item ns nm fs fm
      (u.tells.words ns (props_of it.item ++ nm) fs (calls_of it.item ++ fm) kn kf l (omega arith) (omega arith) (omega arith))
      z e b (omega arith) (omega arith)
      (it.has.words (with_names ns (gather props_of u.so)) nm (with_names fs (gather calls_of u.so)) fm (u.tells.props.kept ns kn) (u.tells.calls.kept fs kf) (u.tells.long ∙ l) (omega arith) (omega arith) (omega arith) (omega arith))

  told : Tells s p₀ p' k₀ k' q₀ q' code₀ code' procs' commands' wide' past' unended' (u.so ++ (it.item ∷ []))
  told =
      record {
        props = grows-more props_of u.so it.item u.tells.props it.has.props;
        calls = grows-more calls_of u.so it.item u.tells.calls it.has.calls;
        names = grows-more (λ r. r.name ∷ []) u.so it.item u.tells.names it.has.procs;
        counted = hn ∙ sym (length-append u.so (it.item ∷ []) ∙ (let e = u.tells.counted in omega arith));
        summed = hc ∙ sym (ap length (gather-last (λ r. r.body) u.so it.item) ∙ length-append (gather (λ r. r.body) u.so) it.item.body ∙ (let e = u.tells.summed in let d = it.has.counted in omega arith));
        wider = hw ∙ ap (λ (b : Bool). b || w) u.tells.wider ∙ ap (λ (b : Bool). any wide_of u.so || b) it.has.wider ∙ sym (any-more wide_of u.so it.item);
        passes = hp ∙ ap (λ (b : Bool). b || x) u.tells.passes ∙ ap (λ (b : Bool). any past_of u.so || b) it.has.passes ∙ sym (any-more past_of u.so it.item);
        stays = hu ∙ ap (λ (b : Bool). b || y) u.tells.stays ∙ ap (λ (b : Bool). any open_of u.so || b) it.has.stays ∙ sym (any-more open_of u.so it.item);
        long = now_long;
        words = now_words;
      }

  pub round_last : {B : Type 0} {next : B → ℕ} {P : B → List (Proc Name) → Type 0} (b : B) → next b ≡ n → ((ps : List (Proc Name)) → Tells s p₀ p' k₀ k' q₀ q' code₀ code' procs' commands' wide' past' unended' ps → P b ps) → is_ended (lexeme s n).token ≡ true → Goes s 1 next P (procedures s) (Some b)
  round_last {next = next} {P = P} b z g e =
      subst (λ (r : Read (List (Proc Name))). Goes s 1 next P r (Some b))
      (sym (u.rest ∙ ap (join u.so) (here u ∙ list_last s procedure is_ended (procedures_of (length s - procs)) i it.item it.is e)))
      (unfold join in goes z (omega (arith, it.on)) it.within (g (u.so ++ (it.item ∷ [])) told))

  pub round_more : is_ended (lexeme s n).token ≡ false → Round s p₀ p' k₀ k' q₀ q' code₀ code' out' n procs' commands' wide' past' unended'
  round_more e =
      record {
        so = u.so ++ (it.item ∷ []);
        rest = u.rest ∙ ap (join u.so) (here u ∙ list_more s procedure is_ended (procedures_of (length s - procs)) i it.item it.is e) ∙ join-join u.so (it.item ∷ []) (procedures_of (length s - procs) s n) ∙ fuel;
        tells = told;
        room = omega (arith, it.on, u.behind);
        behind = omega (arith, it.on, u.behind);
        size = now_size;
      }
    where
      fuel : join (u.so ++ (it.item ∷ [])) (procedures_of (length s - procs) s n) ≡ join (u.so ++ (it.item ∷ [])) (procedures_of (suc (length s) - procs') s n)
      fuel = let z : length s - procs ≡ suc (length s) - procs' = omega arith in ap (λ (m : ℕ). join (u.so ++ (it.item ∷ [])) (procedures_of m s n)) z
