-- Reading a command, form by form: what its parts give, it gives. Assumes nothing.
use Rattle.std.specs.Prelude.{ℕ, suc, ◌≢◌, ◌≡◌, List, Option, None, Some}
use Rattle.std.proofs.Math.Path.{refl, ap}
use Rattle.std.proofs.Common.{sym, ◌∙◌, subst, arith}
use Rattle.gil.specs.Text as Text
use Rattle.gil.specs.Text.{lexeme}
use Rattle.gil.specs.Tree.{Expr, Cmd, ifgoto, return, fail, vanish, Name}
use Rattle.gil.specs.Numbers.{most_depth}
use Rattle.gil.specs.Reading.{Read, Reader, after, ◌>>=◌, ◌>>◌, done, nothing, token, ahead, the_mark, the_becomes, the_number, as_word, expr_deep, expr, value_from, setting_of, jump_of, ending_of, command_key, command_word, command}
use Rattle.text_words.specs.declared.keys.Key.{Key}
use Rattle.text_words.specs.Mirror.Keys.{key_is}
use Rattle.text_tokens.specs.declared.tokens.Place.{Place}
use Rattle.text_tokens.specs.declared.tokens.Token.{Token}
use Rattle.text_tokens.specs.Mirror.Seen.{name_at, Seen, a_name, a_number, a_key, a_u_site, an_i_site, a_fault, a_property, becoming, a_mark, the_end, Found}
use Rattle.text_forms.specs.Mirror.Goes.{Goes, Passes, Gives, anything, following}
use Rattle.text_forms.specs.Laws.Goes.{weaken, implied, stops, first, closes, closes-with, row}
use Rattle.text_forms.specs.Laws.Seeing.{seen-as, reads, faults, carries}
use Rattle.text_values.specs.Laws.{ahead_step}
use Rattle.text_commands.specs.Mirror.{bare_command}

-- past `:=`
pub setting-first : {s : List ℕ} {at a : ℕ} {B : Type 0} {next : B → ℕ} {P : B → Cmd Name → Type 0} {o : Option B} (v : Name) → Passes s (suc at) anything (the_becomes s at) (Some a) → Goes s (suc a) next P (value_from v (lexeme s a).token s a) o → Goes s (suc at) next P (setting_of v s at) o
unfolding setting_of ◌>>◌
setting-first {s} {a = a} {next = next} {P} {o} v gb gv = first (λ u. ahead >>= value_from v) gb (λ u w q. subst (λ (r : Read (Cmd Name)). Goes s a next P r o) (sym (ahead_step s a (value_from v))) (weaken (omega arith) gv))

-- a command by its first token
command-name : {s : List ℕ} {t : Text.Token} {p : Place} → Seen s t (Token.Name p) → command_word (as_word t) ≡ setting_of (name_at s p)
unfolding command_word as_word
command-name (a_name e) = ap command_word e

command-reserved : {s : List ℕ} {t : Text.Token} {k : Key} → Seen s t (Token.Reserved k) → command_word (as_word t) ≡ command_key (key_is k)
unfolding command_word as_word
command-reserved (a_key e) = ap command_word e

command-other : {s : List ℕ} {t : Text.Token} {k : Token} → Seen s t k → ((p : Place) → k ≢ Token.Name p) → ((w : Key) → k ≢ Token.Reserved w) → command_word (as_word t) ≡ nothing
unfolding command_word as_word
command-other (a_name e) a b = absurd (a _ refl)
command-other (a_number e) a b = ap command_word e
command-other (a_key e) a b = absurd (b _ refl)
command-other (a_u_site e) a b = ap command_word e
command-other (an_i_site e) a b = ap command_word e
command-other (a_fault e) a b = ap command_word e
command-other (a_property e) a b = refl
command-other becoming a b = refl
command-other (a_mark l) a b = refl
command-other the_end a b = refl

command-key-other : (k : Key) → (k ≢ Key.Ifgoto) → (k ≢ Key.Return) → (k ≢ Key.Fail) → (k ≢ Key.Vanish) → command_key (key_is k) ≡ nothing
unfolding command_key key_is
command-key-other Key.Ifgoto a b c d = absurd (a refl)
command-key-other Key.Return a b c d = absurd (b refl)
command-key-other Key.Fail a b c d = absurd (c refl)
command-key-other Key.Vanish a b c d = absurd (d refl)
command-key-other Key.True a b c d = refl
command-key-other Key.False a b c d = refl
command-key-other Key.Not a b c d = refl
command-key-other Key.And a b c d = refl
command-key-other Key.Or a b c d = refl
command-key-other Key.Lookup a b c d = refl
command-key-other Key.Mutate a b c d = refl
command-key-other Key.Dispose a b c d = refl

module _ {s : List ℕ} {at : ℕ} {t : Token} {n : ℕ} (f : Found s at (lexeme s at) t n) where
  form : {B : Type 0} {next : B → ℕ} {P : B → Cmd Name → Type 0} {o : Option B} (p : Reader (Cmd Name)) → (t ≢ Token.Ended) → command_word (as_word (lexeme s at).token) ≡ p → Goes s (suc n) next P (p s n) o → Goes s (suc at) next P (bare_command s at) o
  unfolding bare_command
  form p h b g = carries f (λ t. command_word (as_word t)) p h b g

  none : {B : Type 0} {low : ℕ} {next : B → ℕ} {P : B → Cmd Name → Type 0} → command_word (as_word (lexeme s at).token) ≡ nothing → Goes s low next P (bare_command s at) None
  unfolding bare_command
  none b = faults f (λ t. command_word (as_word t)) b

  pub bare-setting : {B : Type 0} {next : B → ℕ} {P : B → Cmd Name → Type 0} {o : Option B} (p : Place) → t ≡ Token.Name p → Goes s (suc n) next P (setting_of (name_at s p) s n) o → Goes s (suc at) next P (bare_command s at) o
  bare-setting p e g = form (setting_of (name_at s p)) (λ z. cc) (command-name (seen-as f e)) g

  pub bare-jump : {B : Type 0} {next : B → ℕ} {P : B → Cmd Name → Type 0} {o : Option B} (k : Key) → t ≡ Token.Reserved k → k ≡ Key.Ifgoto → Goes s (suc n) next P (jump_of s n) o → Goes s (suc at) next P (bare_command s at) o
  bare-jump k e z g = form jump_of (λ q. cc) (command-reserved (seen-as f e) ∙ (unfold command_key key_is in rw z)) g

  pub bare-return : {B : Type 0} {next : B → ℕ} {P : B → Cmd Name → Type 0} {o : Option B} (k : Key) → t ≡ Token.Reserved k → k ≡ Key.Return → Goes s (suc n) next P (ending_of return s n) o → Goes s (suc at) next P (bare_command s at) o
  bare-return k e z g = form (ending_of return) (λ q. cc) (command-reserved (seen-as f e) ∙ (unfold command_key key_is in rw z)) g

  pub bare-fail : {B : Type 0} {next : B → ℕ} {P : B → Cmd Name → Type 0} {o : Option B} (k : Key) → t ≡ Token.Reserved k → k ≡ Key.Fail → Goes s (suc n) next P (ending_of fail s n) o → Goes s (suc at) next P (bare_command s at) o
  bare-fail k e z g = form (ending_of fail) (λ q. cc) (command-reserved (seen-as f e) ∙ (unfold command_key key_is in rw z)) g

  pub bare-vanish : {B : Type 0} (P : B → Cmd Name → Type 0) {b : B} (k : Key) → t ≡ Token.Reserved k → k ≡ Key.Vanish → P b vanish → Gives s (suc at) P (bare_command s at) (Some (b, n))
  unfolding bare_command
  bare-vanish P {b} k e z q = reads f (λ t. command_word (as_word t)) vanish (b, n) refl (λ q. cc) (command-reserved (seen-as f e) ∙ (unfold command_key key_is in rw z)) q

  pub bare-key-none : {B : Type 0} {low : ℕ} {next : B → ℕ} {P : B → Cmd Name → Type 0} (k : Key) → t ≡ Token.Reserved k → (k ≢ Key.Ifgoto) → (k ≢ Key.Return) → (k ≢ Key.Fail) → (k ≢ Key.Vanish) → Goes s low next P (bare_command s at) None
  bare-key-none k e a b c d = none (command-reserved (seen-as f e) ∙ command-key-other k a b c d)

  pub bare-none : {B : Type 0} {low : ℕ} {next : B → ℕ} {P : B → Cmd Name → Type 0} → ((p : Place) → t ≢ Token.Name p) → ((w : Key) → t ≢ Token.Reserved w) → Goes s low next P (bare_command s at) None
  bare-none a b = none (command-other f.seen a b)

-- the token comes first, so a command is what is left of it, and a semicolon
pub apart : (s : List ℕ) (at : ℕ) → command s at ≡ after s (bare_command s at) (λ c. the_mark 59 >> done c)
unfolding command bare_command ◌>>=◌ after token
apart s at = refl

-- each form of any parts, where what follows a part is asked only where that was read
pub setting_goes :
    {s : List ℕ} {P Q : Cmd Name → Type 0} {at : ℕ} {o₁ o₂ : Option ℕ} (v : Name)
    → ((c : Cmd Name) → Q c → P c)
    → Passes s (suc at) anything (the_becomes s at) o₁
    → ((a : ℕ) → o₁ ≡ Some a → Passes s (suc a) Q (value_from v (lexeme s a).token s a) o₂)
    → Passes s (suc at) P (setting_of v s at) (following o₁ o₂)
unfolding setting_of ◌>>◌ following
setting_goes {o₁ = None} v h gb gv = stops _ gb
setting_goes {o₁ = Some a} v h gb gv = setting-first v gb (implied h (gv a refl))

pub jump_goes :
    {s : List ℕ} {E : Expr Name → Type 0} {N : ℕ → Type 0} {P : Cmd Name → Type 0} {at : ℕ} {o₁ o₂ : Option ℕ}
    → ((e : Expr Name) (n : ℕ) → E e → N n → P (ifgoto e n))
    → Passes s (suc at) E (expr_deep most_depth s at) o₁
    → ((a : ℕ) → o₁ ≡ Some a → Passes s (suc a) N (the_number s a) o₂)
    → Passes s (suc at) P (jump_of s at) (following o₁ o₂)
unfolding jump_of ◌>>=◌ expr
jump_goes h ge gn = row _ ge (λ e a i qe. weaken (omega arith) (closes-with (ifgoto e) (λ n qn. h e n qe qn) (gn a i)))

pub ending-goes :
    {s : List ℕ} {E : Expr Name → Type 0} {P : Cmd Name → Type 0} {at : ℕ} {o : Option ℕ} (c : Expr Name → Cmd Name)
    → ((e : Expr Name) → E e → P (c e))
    → Passes s (suc at) E (expr_deep most_depth s at) o
    → Passes s (suc at) P (ending_of c s at) o
unfolding ending_of ◌>>=◌ expr
ending-goes c h ge = closes-with c h ge

pub command-goes :
    {s : List ℕ} {P : Cmd Name → Type 0} {at : ℕ} {o₁ o₂ : Option ℕ}
    → Passes s (suc at) P (bare_command s at) o₁
    → ((a : ℕ) → o₁ ≡ Some a → Passes s (suc a) anything (the_mark 59 s a) o₂)
    → Passes s (suc at) P (command s at) (following o₁ o₂)
unfolding ◌>>◌
command-goes {s} {at = at} gc gm = rw (apart s at) (row _ gc (λ c a e q. closes c (gm a e) q))
