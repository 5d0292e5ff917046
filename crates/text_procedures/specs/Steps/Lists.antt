-- A turn of the loop over commands: what is kept is that of the commands so far. Assumes nothing.
use Rattle.std.specs.Prelude.{ℕ, suc, ◌+◌, ◌-◌, ◌≤◌, max}
use Rattle.std.specs.Prelude.{◌≡◌, Bool, true, false, not, List, [], ◌∷◌, ◌++◌, map, None, Some}
use Rattle.std.proofs.Math.Path.{refl, ap, subst}
use Rattle.std.proofs.Common.{sym, ◌∙◌, append_assoc, append-nil, arith, length-append, add-zero}
use Rattle.std.proofs.lemmas.List.{map-append, length-map}
use Rattle.std.proofs.Math.ListN.{length}
use Rattle.std.proofs.lemmas.List.Edits.{sets}
use Rattle.gil.specs.Text.{lexeme}
use Rattle.gil.specs.Tree.{Cmd, Name}
use Rattle.gil.specs.Reading.{Read, is_mark, one_or_more, command, commands_of, commands}
use Rattle.gil.specs.Names.{gather, cmd_vars, cmd_properties, cmd_calls, is_end, ends_open, with_names}
use Rattle.machine_code.specs.Code.{cmd_nodes, cmd_words, command_words, code_words, nodes_at, command_at}
use Rattle.machine_code.proofs.Accepted.Sizes.{cmd_size}
use Rattle.gil.specs.Numbers.{most_commands, most_procedures, most_properties, most_variables}
use Rattle.gil.proofs.Theory.Gathered.{gather_append, gather-last}
use Rattle.text_names.specs.declared.Names.{Names}
use Rattle.text_names.specs.Mirror.Tables.{Kept, Grows}
use Rattle.text_names.specs.Laws.Lists.{with_names-append}
use Rattle.text_names.specs.Laws.Tables.{grows_none, grows_then}
use Rattle.text_forms.specs.Mirror.Goes.{Goes, fails, goes}
use Rattle.text_forms.specs.Laws.Goes.{was_fault, Item}
use Rattle.text_forms.specs.Laws.Stores.{sets-append, sets_swap}
use Rattle.text_values.specs.Mirror.{jump_at, numbered}
use Rattle.text_commands.specs.Mirror.{Does}
use Rattle.text_procedures.specs.Mirror.Lists.{highest, body_size, body_stored, Lists}
use Rattle.text_procedures.specs.Laws.Lists.{size-append, body-nodes-size, words-length}
use Rattle.text_procedures.specs.Steps.Items.{join, join-join, join-none, list_fault, list_last, list_more}

pub highest-more : (cs : List (Cmd Name)) (c : Cmd Name) → highest (cs ++ (c ∷ [])) ≡ max (highest cs) (jump_at c)
unfolding highest
highest-more [] c = omega arith
highest-more (d ∷ cs) c = omega (arith, highest-more cs c)

pub open_more : (cs : List (Cmd Name)) (c : Cmd Name) → ends_open (cs ++ (c ∷ [])) ≡ not (is_end c)
unfolding ends_open
open_more [] c = refl
open_more (d ∷ []) c = refl
open_more (d ∷ e ∷ cs) c = open_more (e ∷ cs) c

pub grows-more : {A : Type 0} {s : List ℕ} {cap : ℕ} {t t₁ t' : Names} (f : A → List Name) (so : List A) (a : A) → Grows s cap t t₁ (gather f so) → Grows s cap t₁ t' (f a) → Grows s cap t t' (gather f (so ++ (a ∷ [])))
grows-more {s = s} {cap} {t} {t' = t'} f so a g h = subst (λ (ws : List Name). Grows s cap t t' ws) (sym (gather-last f so a)) (grows_then g h)

pub size-more : (cs : List (Cmd Name)) (c : Cmd Name) → body_size (cs ++ (c ∷ [])) ≡ body_size cs + cmd_size c
unfolding body_size
size-more cs c = omega (arith, size-append cs (c ∷ []))

pub words_append : (at : ℕ) (rs us : List (Cmd ℕ)) → command_words at (rs ++ us) ≡ command_words at rs ++ command_words (at + length (gather cmd_nodes rs)) us
unfolding command_words gather
words_append at [] us = ap (λ (n : ℕ). command_words n us) (sym (add-zero at))
words_append at (q ∷ rs) us =
    ap (λ (l : List ℕ). cmd_words at q ++ l) (words_append (at + length (cmd_nodes q)) rs us)
    ∙ sym (append_assoc (cmd_words at q) (command_words (at + length (cmd_nodes q)) rs) (command_words (at + length (cmd_nodes q) + length (gather cmd_nodes rs)) us))
    ∙ (let e : at + length (cmd_nodes q) + length (gather cmd_nodes rs) ≡ at + length (cmd_nodes q ++ gather cmd_nodes rs) = omega (arith, length-append (cmd_nodes q) (gather cmd_nodes rs)) in ap (λ (n : ℕ). (cmd_words at q ++ command_words (at + length (cmd_nodes q)) rs) ++ command_words n us) e)

-- more commands
pub stored-append : (code : List ℕ) (first out : ℕ) (rs us : List (Cmd ℕ)) → nodes_at ≤ out → first + length rs ≤ most_commands → body_stored (body_stored code first out rs) (first + length rs) (out + length (gather cmd_nodes rs)) us ≡ body_stored code first out (rs ++ us)
unfolding body_stored
stored-append code first out rs us low h =
    let n = out + length (gather cmd_nodes rs) in
    let z : command_at (first + length rs) ≡ command_at first + length (command_words out rs) = omega (arith, words-length out rs) in
    ap (λ (x : List ℕ). sets x (command_at (first + length rs)) (command_words n us)) (sets_swap (sets code out (gather cmd_nodes rs)) (command_at first) (command_words out rs) n (gather cmd_nodes us) (omega (arith, words-length out rs)))
    ∙ ap (λ (x : List ℕ). sets (sets x (command_at first) (command_words out rs)) (command_at (first + length rs)) (command_words n us)) (sym (sets-append code out (gather cmd_nodes rs) (gather cmd_nodes us)) ∙ ap (sets code out) (sym (gather_append cmd_nodes rs us)))
    ∙ ap (λ (m : ℕ). sets (sets (sets code out (gather cmd_nodes (rs ++ us))) (command_at first) (command_words out rs)) m (command_words n us)) z
    ∙ sym (sets-append (sets code out (gather cmd_nodes (rs ++ us))) (command_at first) (command_words out rs) (command_words n us))
    ∙ ap (sets (sets code out (gather cmd_nodes (rs ++ us))) (command_at first)) (sym (words_append out rs us))

-- one command more
stored_more : (code : List ℕ) (first out : ℕ) (rs : List (Cmd ℕ)) (r : Cmd ℕ) → nodes_at ≤ out → first + length rs ≤ most_commands → sets (sets (body_stored code first out rs) (out + length (gather cmd_nodes rs)) (cmd_nodes r)) (command_at (first + length rs)) (cmd_words (out + length (gather cmd_nodes rs)) r) ≡ body_stored code first out (rs ++ (r ∷ []))
stored_more code first out rs r low h =
    let n = out + length (gather cmd_nodes rs) in
    let m = command_at (first + length rs) in
    ap (λ (x : List ℕ). sets (sets (body_stored code first out rs) n x) m (cmd_words n r)) (sym (append-nil (cmd_nodes r)))
    ∙ ap (sets (sets (body_stored code first out rs) n (cmd_nodes r ++ [])) m) (sym (append-nil (cmd_words n r)))
    ∙ one
    ∙ stored-append code first out rs (r ∷ []) low h
  where
    one : sets (sets (body_stored code first out rs) (out + length (gather cmd_nodes rs)) (cmd_nodes r ++ [])) (command_at (first + length rs)) (cmd_words (out + length (gather cmd_nodes rs)) r ++ []) ≡ body_stored (body_stored code first out rs) (first + length rs) (out + length (gather cmd_nodes rs)) (r ∷ [])
    one = unfold body_stored gather command_words in refl

-- the names of one item more, before those that come later
pub names_more : {A : Type 0} (f : A → List Name) (so : List A) (c : A) (ns later : List Name) → with_names ns (gather f so ++ (f c ++ later)) ≡ with_names ns (gather f (so ++ (c ∷ [])) ++ later)
names_more f so c ns later = ap (with_names ns) (sym (append_assoc (gather f so) (f c) later) ∙ ap (λ (l : List Name). l ++ later) (sym (gather-last f so c)))

-- the words of one command more, all names in the tables
one_more : (code₀ : List ℕ) (first out₀ : ℕ) (so : List (Cmd Name)) (c : Cmd Name) (vs vm qs qm fs fm : List Name) {code code' : List ℕ} {out count : ℕ} → nodes_at ≤ out₀ → code ≡ body_stored code₀ first out₀ (map (numbered (with_names vs (gather cmd_vars so ++ (cmd_vars c ++ vm))) (with_names qs (gather cmd_properties so ++ (cmd_properties c ++ qm))) (with_names fs (gather cmd_calls so ++ (cmd_calls c ++ fm)))) so) → out ≡ out₀ + body_size so → count ≡ length so → first + length so ≤ most_commands → code' ≡ sets (sets code out (cmd_nodes (numbered (with_names (with_names vs (gather cmd_vars so)) (cmd_vars c ++ vm)) (with_names (with_names qs (gather cmd_properties so)) (cmd_properties c ++ qm)) (with_names (with_names fs (gather cmd_calls so)) (cmd_calls c ++ fm)) c))) (command_at (first + count)) (cmd_words out (numbered (with_names (with_names vs (gather cmd_vars so)) (cmd_vars c ++ vm)) (with_names (with_names qs (gather cmd_properties so)) (cmd_properties c ++ qm)) (with_names (with_names fs (gather cmd_calls so)) (cmd_calls c ++ fm)) c)) → code' ≡ body_stored code₀ first out₀ (map (numbered (with_names vs (gather cmd_vars (so ++ (c ∷ [])) ++ vm)) (with_names qs (gather cmd_properties (so ++ (c ∷ [])) ++ qm)) (with_names fs (gather cmd_calls (so ++ (c ∷ [])) ++ fm))) (so ++ (c ∷ [])))
one_more code₀ first out₀ so c vs vm qs qm fs fm {code} {code'} {out} {count} low e z d room f =
    f
    ∙ ap (λ (a : List Name). stored a (with_names (with_names qs (gather cmd_properties so)) (cmd_properties c ++ qm)) (with_names (with_names fs (gather cmd_calls so)) (cmd_calls c ++ fm)) code out count) (sym (with_names-append vs (gather cmd_vars so) (cmd_vars c ++ vm)))
    ∙ ap (λ (a : List Name). stored Vs a (with_names (with_names fs (gather cmd_calls so)) (cmd_calls c ++ fm)) code out count) (sym (with_names-append qs (gather cmd_properties so) (cmd_properties c ++ qm)))
    ∙ ap (λ (a : List Name). stored Vs Q a code out count) (sym (with_names-append fs (gather cmd_calls so) (cmd_calls c ++ fm)))
    ∙ ap (λ (x : List ℕ). stored Vs Q F x out count) e
    ∙ ap (λ (n : ℕ). stored Vs Q F (body_stored code₀ first out₀ (map (numbered Vs Q F) so)) n count) (z ∙ ap (λ (n : ℕ). out₀ + n) (sym (body-nodes-size Vs Q F so)))
    ∙ ap (λ (n : ℕ). stored Vs Q F (body_stored code₀ first out₀ (map (numbered Vs Q F) so)) (out₀ + length (gather cmd_nodes (map (numbered Vs Q F) so))) n) (d ∙ sym (length-map so (numbered Vs Q F)))
    ∙ stored_more code₀ first out₀ (map (numbered Vs Q F) so) (numbered Vs Q F c) low (omega (arith, length-map so (numbered Vs Q F)))
    ∙ ap (body_stored code₀ first out₀) (sym (map-append (numbered Vs Q F) so (c ∷ [])))
    ∙ ap (λ (a : List Name). body_stored code₀ first out₀ (map (numbered a Q F) (so ++ (c ∷ [])))) (names_more cmd_vars so c vs vm)
    ∙ ap (λ (a : List Name). body_stored code₀ first out₀ (map (numbered (with_names vs (gather cmd_vars (so ++ (c ∷ [])) ++ vm)) a F) (so ++ (c ∷ [])))) (names_more cmd_properties so c qs qm)
    ∙ ap (λ (a : List Name). body_stored code₀ first out₀ (map (numbered (with_names vs (gather cmd_vars (so ++ (c ∷ [])) ++ vm)) (with_names qs (gather cmd_properties (so ++ (c ∷ [])) ++ qm)) a) (so ++ (c ∷ [])))) (names_more cmd_calls so c fs fm)
  where
    Vs : List Name
    Vs = with_names vs (gather cmd_vars so ++ (cmd_vars c ++ vm))

    Q : List Name
    Q = with_names qs (gather cmd_properties so ++ (cmd_properties c ++ qm))

    F : List Name
    F = with_names fs (gather cmd_calls so ++ (cmd_calls c ++ fm))

    stored : List Name → List Name → List Name → List ℕ → ℕ → ℕ → List ℕ
    stored a b g x n m = sets (sets x n (cmd_nodes (numbered a b g c))) (command_at (first + m)) (cmd_words n (numbered a b g c))

-- in the middle of them
pub record Turn (s : List ℕ) (t t' p p' k k' : Names) (code code' : List ℕ) (at first out out' i count jump : ℕ) : Type 0 where
  pub so : List (Cmd Name)
  pub rest : commands s at ≡ join so (commands_of (suc (length s) - count) s i)
  pub vars : Grows s most_variables t t' (gather cmd_vars so)
  pub props : Grows s most_properties p p' (gather cmd_properties so)
  pub calls : Grows s most_procedures k k' (gather cmd_calls so)
  pub counted : count ≡ length so
  pub jumps : jump ≡ highest so
  pub room : count ≤ length s
  pub behind : at + count ≤ i
  pub long : length code' ≡ length code
  pub size : out + body_size so ≤ code_words → out' ≡ out + body_size so
  pub words : (vs vm qs qm fs fm : List Name) → Kept s most_variables t vs → Kept s most_properties p qs → Kept s most_procedures k fs → length code ≡ code_words → nodes_at ≤ out → out + body_size so ≤ code_words → first + length so ≤ most_commands → code' ≡ body_stored code first out (map (numbered (with_names vs (gather cmd_vars so ++ vm)) (with_names qs (gather cmd_properties so ++ qm)) (with_names fs (gather cmd_calls so ++ fm))) so)

pub turn-none : {s code : List ℕ} {t p k : Names} (at : ℕ) {first out : ℕ} → Turn s t t p p k k code code at first out out at 0 0
unfolding commands gather highest body_size body_stored command_words
turn-none {s} at {out = out} =
    record {
      so = [];
      rest = join-none (commands_of (suc (length s)) s at) ∙ (let e : suc (length s) ≡ suc (length s) - 0 = omega arith in ap (λ (n : ℕ). join [] (commands_of n s at)) e);
      vars = grows_none;
      props = grows_none;
      calls = grows_none;
      counted = refl;
      jumps = refl;
      room = omega arith;
      behind = omega arith;
      long = refl;
      size = λ h. omega arith;
      words = λ vs vm qs qm fs fm kv kq kf l low h m. refl;
    }

module _ {s code₀ code : List ℕ} {t₀ t p₀ p k₀ k : Names} {at first out₀ out i count jump : ℕ} (u : Turn s t₀ t p₀ p k₀ k code₀ code at first out₀ out i count jump) where
  here : commands_of (suc (length s) - count) s i ≡ one_or_more command (is_mark 125) (commands_of (length s - count)) s i
  unfolding commands_of
  here = let e : suc (length s) - count ≡ suc (length s - count) = omega (arith, u.room) in ap (λ (m : ℕ). commands_of m s i) e

  pub turn-fault : {B C : Type 0} {low low' : ℕ} {next : B → ℕ} {next' : C → ℕ} {Q : B → Cmd Name → Type 0} {P : C → List (Cmd Name) → Type 0} → Goes s low' next Q (command s i) None → Goes s low next' P (commands s at) None
  unfolding join
  turn-fault {low = low} {next' = next'} {P = P} g = subst (λ (r : Read (List (Cmd Name))). Goes s low next' P r None) (sym (u.rest ∙ ap (join u.so) (here ∙ list_fault s command (is_mark 125) (commands_of (length s - count)) i (was_fault g)))) fails

module _ {s code₀ code code' : List ℕ} {t₀ t t' p₀ p p' k₀ k k' : Names} {at first out₀ out out' i count jump n j : ℕ} {ends : Bool} (u : Turn s t₀ t p₀ p k₀ k code₀ code at first out₀ out i count jump) (it : Item s (suc i) (Does s t t' p p' k k' code code' (first + count) out out' j ends) (command s i) n) {jump' : ℕ} (hj : jump' ≡ max jump j) where
  one : length (u.so ++ (it.item ∷ [])) ≡ count + 1
  one = length-append u.so (it.item ∷ []) ∙ (let e = u.counted in omega arith)

  high : jump' ≡ highest (u.so ++ (it.item ∷ []))
  high = hj ∙ ap (λ (m : ℕ). max m j) u.jumps ∙ ap (max (highest u.so)) it.has.jumps ∙ sym (highest-more u.so it.item)

  more-long : length code' ≡ length code₀
  more-long = it.has.long ∙ u.long

  room-so : out₀ + body_size (u.so ++ (it.item ∷ [])) ≤ code_words → out₀ + body_size u.so ≤ code_words
  room-so r = omega (arith, size-more u.so it.item)

  placed : out₀ + body_size (u.so ++ (it.item ∷ [])) ≤ code_words → out ≡ out₀ + body_size u.so
  placed r = u.size (room-so r)

  more-size : out₀ + body_size (u.so ++ (it.item ∷ [])) ≤ code_words → out' ≡ out₀ + body_size (u.so ++ (it.item ∷ []))
  more-size r = let z = placed r in let y = size-more u.so it.item in it.has.size (omega arith) ∙ omega arith

  more-words : (vs vm qs qm fs fm : List Name) → Kept s most_variables t₀ vs → Kept s most_properties p₀ qs → Kept s most_procedures k₀ fs → length code₀ ≡ code_words → nodes_at ≤ out₀ → out₀ + body_size (u.so ++ (it.item ∷ [])) ≤ code_words → first + length (u.so ++ (it.item ∷ [])) ≤ most_commands → code' ≡ body_stored code₀ first out₀ (map (numbered (with_names vs (gather cmd_vars (u.so ++ (it.item ∷ [])) ++ vm)) (with_names qs (gather cmd_properties (u.so ++ (it.item ∷ [])) ++ qm)) (with_names fs (gather cmd_calls (u.so ++ (it.item ∷ [])) ++ fm))) (u.so ++ (it.item ∷ [])))
  more-words vs vm qs qm fs fm kv kq kf l low r m =
      let z = placed r in
      let y = size-more u.so it.item in
      let n = length-append u.so (it.item ∷ []) in
      let e = u.counted in
      one_more code₀ first out₀ u.so it.item vs vm qs qm fs fm low
      (u.words vs (cmd_vars it.item ++ vm) qs (cmd_properties it.item ++ qm) fs (cmd_calls it.item ++ fm) kv kq kf l low (room-so r) (omega arith))
      z e (omega arith)
      (it.has.words (with_names vs (gather cmd_vars u.so)) vm (with_names qs (gather cmd_properties u.so)) qm (with_names fs (gather cmd_calls u.so)) fm (u.vars.kept vs kv) (u.props.kept qs kq) (u.calls.kept fs kf) (u.long ∙ l) (omega arith) (omega arith))

  lists_last : Lists s t₀ t' p₀ p' k₀ k' code₀ code' first out₀ out' (count + 1) jump' ends (u.so ++ (it.item ∷ []))
  lists_last =
      record {
        vars = grows-more cmd_vars u.so it.item u.vars it.has.vars;
        props = grows-more cmd_properties u.so it.item u.props it.has.props;
        calls = grows-more cmd_calls u.so it.item u.calls it.has.calls;
        counted = sym one;
        jumps = high;
        ending = open_more u.so it.item ∙ ap not (sym it.has.ending);
        long = more-long;
        size = more-size;
        words = more-words;
      }

  pub turn_last : {B : Type 0} {next : B → ℕ} {P : B → List (Cmd Name) → Type 0} (b : B) → next b ≡ n → ((cs : List (Cmd Name)) → Lists s t₀ t' p₀ p' k₀ k' code₀ code' first out₀ out' (count + 1) jump' ends cs → P b cs) → is_mark 125 (lexeme s n).token ≡ true → Goes s (suc at) next P (commands s at) (Some b)
  turn_last {next = next} {P} b z g e =
      subst (λ (r : Read (List (Cmd Name))). Goes s (suc at) next P r (Some b))
      (sym (u.rest ∙ ap (join u.so) (here u ∙ list_last s command (is_mark 125) (commands_of (length s - count)) i it.item it.is e)))
      (unfold join in goes z (omega (arith, it.on, u.behind)) it.within (g (u.so ++ (it.item ∷ [])) lists_last))

  pub turn_more : is_mark 125 (lexeme s n).token ≡ false → Turn s t₀ t' p₀ p' k₀ k' code₀ code' at first out₀ out' n (count + 1) jump'
  turn_more e =
      record {
        so = u.so ++ (it.item ∷ []);
        rest = u.rest ∙ ap (join u.so) (here u ∙ list_more s command (is_mark 125) (commands_of (length s - count)) i it.item it.is e) ∙ join-join u.so (it.item ∷ []) (commands_of (length s - count) s n) ∙ fuel;
        vars = lists_last.vars;
        props = lists_last.props;
        calls = lists_last.calls;
        counted = sym one;
        jumps = high;
        room = omega (arith, it.on, u.behind);
        behind = omega (arith, it.on, u.behind);
        long = more-long;
        size = more-size;
        words = more-words;
      }
    where
      fuel : join (u.so ++ (it.item ∷ [])) (commands_of (length s - count) s n) ≡ join (u.so ++ (it.item ∷ [])) (commands_of (suc (length s) - (count + 1)) s n)
      fuel = let z : length s - count ≡ suc (length s) - (count + 1) = omega arith in ap (λ (m : ℕ). join (u.so ++ (it.item ∷ [])) (commands_of m s n)) z
