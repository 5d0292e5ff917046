-- Reading what follows `v :=`, form by form: what its parts give, it gives. Assumes nothing.
use Rattle.std.specs.Prelude.{ℕ, suc, ◌≢◌, ◌≡◌, Bool, List, Option, None, Some}
use Rattle.std.proofs.Math.Path.{refl, sym, ap, subst}
use Rattle.std.proofs.Common.{◌∙◌, arith}
use Rattle.std.proofs.Math.Bool.{true, false}
use Rattle.gil.specs.Text as Text
use Rattle.gil.specs.Text.{Word, lexeme}
use Rattle.gil.specs.Tree.{Expr, var, Cmd, assign, call, lookup, mutate, dispose, u_sym, i_sym, Name}
use Rattle.gil.specs.Numbers.{most_depth}
use Rattle.gil.specs.Reading.{Read, faulty, Reader, after, ◌>>=◌, ◌>>◌, done, nothing, token, ahead, is_mark, the_mark, the_name, expr_key, expr_word, expr_from, expr_deep, expr, assignment, call_of, call_or_var, named, lookup_of, mutate_of, dispose_of, value_key, value_word, value_from}
use Rattle.text_words.specs.declared.keys.Key.{Key}
use Rattle.text_words.specs.Mirror.Keys.{key_is}
use Rattle.text_tokens.specs.declared.tokens.Place.{Place}
use Rattle.text_tokens.specs.declared.tokens.Token.{Token}
use Rattle.text_tokens.specs.Mirror.Seen.{name_at, Seen, a_name, a_number, a_key, a_u_site, an_i_site, a_fault, a_property, becoming, a_mark, the_end, Found}
use Rattle.text_forms.specs.Mirror.Goes.{Goes, fails, Passes, Gives, anything, following}
use Rattle.text_forms.specs.Laws.Goes.{weaken, first, ended, closes, closes-with, row, next}
use Rattle.text_forms.specs.Laws.Seeing.{seen-as, reads, carries}
use Rattle.text_forms.specs.Steps.Exprs.{expr-reserved}
use Rattle.text_values.specs.Mirror.{opening, Opens, broken, opened}
use Rattle.text_values.specs.Laws.{ahead_step}

-- past the beginning of `lookup` and `mutate`
pub opens-stops : {s : List ℕ} {at low : ℕ} {B : Type 0} {E : Expr Name → Type 0} {R : ℕ → Name → Type 0} {next : B → ℕ} {P : B → Cmd Name → Type 0} (f : Expr Name → Name → Reader (Cmd Name)) → Opens s at E R None → Goes s low next P (opening f s at) None
opens-stops {s} {low = low} {next = next} {P} f (broken h) = subst (λ (r : Read (Cmd Name)). Goes s low next P r None) (sym (h f)) fails

pub opens-first : {s : List ℕ} {at q n : ℕ} {B : Type 0} {E : Expr Name → Type 0} {R : ℕ → Name → Type 0} {next : B → ℕ} {P : B → Cmd Name → Type 0} {o : Option B} (f : Expr Name → Name → Reader (Cmd Name)) → Opens s at E R (Some (q, n)) → ((e : Expr Name) (p : Name) → E e → R q p → Goes s n next P (f e p s n) o) → Goes s (suc at) next P (opening f s at) o
opens-first {s} {at} {next = next} {P} {o} f (opened {e} {p} h l w x y) k = subst (λ (r : Read (Cmd Name)). Goes s (suc at) next P r o) (sym (h f)) (weaken l (k e p x y))

-- each form of any parts, where what follows a part is asked only where that was read
module _ {s : List ℕ} {P : Cmd Name → Type 0} (v : Name) {E : Expr Name → Type 0} where
  pub plain-goes : {at : ℕ} {o : Option ℕ} → ((e : Expr Name) → E e → P (assign v e)) → Passes s (suc at) E (expr_deep most_depth s at) o → Passes s (suc at) P (assignment v s at) o
  unfolding assignment ◌>>=◌ expr
  plain-goes h g = closes-with (assign v) h g

  pub call-goes :
      {at : ℕ} {o₁ o₂ o₃ : Option ℕ} (f : Name)
      → ((e : Expr Name) → E e → P (call v f e))
      → Passes s (suc at) anything (the_mark 40 s at) o₁
      → ((n : ℕ) → o₁ ≡ Some n → Passes s (suc n) E (expr_deep most_depth s n) o₂)
      → ((n : ℕ) → o₂ ≡ Some n → Passes s (suc n) anything (the_mark 41 s n) o₃)
      → Passes s (suc at) P (call_of v f s at) (following o₁ (following o₂ o₃))
  unfolding call_of ◌>>=◌ ◌>>◌ expr
  call-goes f h ga ge gm = row _ ga (λ u n₁ e₁ q. next _ (ge n₁ e₁) (λ e n₂ e₂ qe. closes (call v f e) (gm n₂ e₂) (h e qe)))

  pub dispose-goes :
      {at : ℕ} {o₁ o₂ o₃ : Option ℕ}
      → ((e : Expr Name) → E e → P (dispose v e))
      → Passes s (suc at) anything (the_mark 40 s at) o₁
      → ((n : ℕ) → o₁ ≡ Some n → Passes s (suc n) E (expr_deep most_depth s n) o₂)
      → ((n : ℕ) → o₂ ≡ Some n → Passes s (suc n) anything (the_mark 41 s n) o₃)
      → Passes s (suc at) P (dispose_of v s at) (following o₁ (following o₂ o₃))
  unfolding dispose_of ◌>>=◌ ◌>>◌ expr
  dispose-goes h ga ge gm = row _ ga (λ u n₁ e₁ q. next _ (ge n₁ e₁) (λ e n₂ e₂ qe. closes (dispose v e) (gm n₂ e₂) (h e qe)))

  pub lookup-goes :
      {at : ℕ} {c : Option (ℕ × ℕ)} {o₁ o₂ : Option ℕ} {R : ℕ → Name → Type 0}
      → ((e : Expr Name) (p : Name) (q : ℕ) → E e → R q p → P (lookup v e p))
      → Opens s at E R c
      → ((q n : ℕ) → c ≡ Some (q, n) → Passes s (suc n) anything (the_mark 93 s n) o₁)
      → ((n : ℕ) → o₁ ≡ Some n → Passes s (suc n) anything (the_mark 41 s n) o₂)
      → Passes s (suc at) P (lookup_of v s at) (following c (following o₁ o₂))
  unfolding lookup_of opening ◌>>=◌ ◌>>◌ following
  lookup-goes {c = None} h g gd gm = opens-stops (λ e p. the_mark 93 >> (the_mark 41 >> done (lookup v e p))) g
  lookup-goes {c = Some (q, n)} h g gd gm =
      opens-first (λ e p. the_mark 93 >> (the_mark 41 >> done (lookup v e p))) g
      (λ e p x y. next _ (gd q n refl) (λ u n₁ e₁ z. closes (lookup v e p) (gm n₁ e₁) (h e p q x y)))

  pub mutate-goes :
      {at : ℕ} {c : Option (ℕ × ℕ)} {o₁ o₂ o₃ o₄ : Option ℕ} {R : ℕ → Name → Type 0} {D : Expr Name → Type 0}
      → ((e d : Expr Name) (p : Name) (q : ℕ) → E e → R q p → D d → P (mutate v e p d))
      → Opens s at E R c
      → ((q n : ℕ) → c ≡ Some (q, n) → Passes s (suc n) anything (the_mark 44 s n) o₁)
      → ((n : ℕ) → o₁ ≡ Some n → Passes s (suc n) D (expr_deep most_depth s n) o₂)
      → ((n : ℕ) → o₂ ≡ Some n → Passes s (suc n) anything (the_mark 93 s n) o₃)
      → ((n : ℕ) → o₃ ≡ Some n → Passes s (suc n) anything (the_mark 41 s n) o₄)
      → Passes s (suc at) P (mutate_of v s at) (following c (following o₁ (following o₂ (following o₃ o₄))))
  unfolding mutate_of opening ◌>>=◌ ◌>>◌ expr following
  mutate-goes {c = None} h g gd gw gf gm = opens-stops (λ e p. the_mark 44 >> (expr >>= λ d. the_mark 93 >> (the_mark 41 >> done (mutate v e p d)))) g
  mutate-goes {c = Some (q, n)} h g gd gw gf gm =
      opens-first (λ e p. the_mark 44 >> (expr >>= λ d. the_mark 93 >> (the_mark 41 >> done (mutate v e p d)))) g
      (λ e p x y. next _ (gd q n refl) (λ u₁ n₁ e₁ z₁. next _ (gw n₁ e₁) (λ d n₂ e₂ qd. next _ (gf n₂ e₂) (λ u₃ n₃ e₃ z₃. closes (mutate v e p d) (gm n₃ e₃) (h e d p q x y qd)))))

-- a name after `v :=`
module _ {s : List ℕ} (v : Name) {at n : ℕ} {place : Place} (gn : Gives s (suc at) (λ (p : Place) (w : Name). name_at s p ≡ w) (the_name s at) (Some (place, n))) where
  next-is : (w : Name) (b : Bool) → is_mark 40 (lexeme s n).token ≡ b → (ahead >>= λ t. call_or_var v w (is_mark 40 t)) s n ≡ call_or_var v w b s n
  next-is w b e = ahead_step s n (λ t. call_or_var v w (is_mark 40 t)) ∙ ap (λ (c : Bool). call_or_var v w c s n) e

  pub named-call : {B : Type 0} {next : B → ℕ} {P : B → Cmd Name → Type 0} {o : Option B} → is_mark 40 (lexeme s n).token ≡ true → Goes s (suc n) next P (call_of v (name_at s place) s n) o → Goes s (suc at) next P (named v s at) o
  unfolding named ◌>>=◌
  named-call {next = next} {P} {o} e g =
      first (λ w. ahead >>= λ t. call_or_var v w (is_mark 40 t)) gn
      (λ w wn q. weaken (omega arith) (subst (λ (r : Read (Cmd Name)). Goes s (suc n) next P r o) (sym (next-is w true e ∙ call-it w q)) g))
    where
      call-it : (w : Name) → name_at s place ≡ w → call_or_var v w true s n ≡ call_of v (name_at s place) s n
      call-it w q = unfold call_or_var in ap (λ (x : Name). call_of v x s n) (sym q)

  pub named-var : {B : Type 0} (P : B → Cmd Name → Type 0) {b : B} → is_mark 40 (lexeme s n).token ≡ false → ((w : Name) → name_at s place ≡ w → P b (assign v (var w))) → Gives s (suc at) P (named v s at) (Some (b, n))
  unfolding named ◌>>=◌
  named-var P {b} e h =
      first (λ w. ahead >>= λ t. call_or_var v w (is_mark 40 t)) gn
      (λ w wn q. subst (λ (r : Read (Cmd Name)). Gives s n P r (Some (b, n))) (sym (next-is w false e ∙ var-it w)) (ended (assign v (var w)) (b, n) wn (h w q)))
    where
      var-it : (w : Name) → call_or_var v w false s n ≡ done (assign v (var w)) s n
      var-it w = unfold call_or_var in refl

-- what follows `v :=`, by its first token
value-name : (v : Name) {s : List ℕ} {t : Text.Token} {p : Place} → Seen s t (Token.Name p) → value_from v t ≡ named v
unfolding value_from value_word
value-name v (a_name e) = ap (value_word v) e

value-reserved : (v : Name) {s : List ℕ} {t : Text.Token} {k : Key} → Seen s t (Token.Reserved k) → value_from v t ≡ value_key v (key_is k)
unfolding value_from value_word
value-reserved v (a_key e) = ap (value_word v) e

value_u : (v : Name) {s : List ℕ} {t : Text.Token} {j : ℕ} → Seen s t (Token.USite j) → value_from v t ≡ token >> done (u_sym v j)
unfolding value_from value_word
value_u v (a_u_site e) = ap (value_word v) e

value_i : (v : Name) {s : List ℕ} {t : Text.Token} {j : ℕ} → Seen s t (Token.ISite j) → value_from v t ≡ token >> done (i_sym v j)
unfolding value_from value_word
value_i v (an_i_site e) = ap (value_word v) e

-- where no other form begins, an expression does, or a fault
module _ (s : List ℕ) (at : ℕ) (v : Name) where
  no-expr : expr_from (expr_deep 7) (lexeme s at).token ≡ nothing → faulty ≡ assignment v s at
  unfolding assignment ◌>>=◌ after expr expr_deep token nothing
  no-expr e = sym (ap (λ (p : Reader (Expr Name)). after s (p s (lexeme s at).next) (λ a. done (assign v a))) e)

  value-other : {t : Text.Token} {k : Token} → Seen s t k → ((p : Place) → k ≢ Token.Name p) → ((w : Key) → k ≢ Token.Reserved w) → ((j : ℕ) → k ≢ Token.USite j) → ((j : ℕ) → k ≢ Token.ISite j) → (expr_from (expr_deep 7) t ≡ nothing → faulty ≡ assignment v s at) → value_from v t s at ≡ assignment v s at
  unfolding value_from value_word expr_from expr_word nothing
  value-other (a_name e) a b c d h = absurd (a _ refl)
  value-other (a_number e) a b c d h = ap (λ (w : Word). value_word v w s at) e
  value-other (a_key e) a b c d h = absurd (b _ refl)
  value-other (a_u_site e) a b c d h = absurd (c _ refl)
  value-other (an_i_site e) a b c d h = absurd (d _ refl)
  value-other (a_fault e) a b c d h = ap (λ (w : Word). value_word v w s at) e ∙ h (ap (expr_word (expr_deep 7)) e)
  value-other (a_property e) a b c d h = h refl
  value-other becoming a b c d h = h refl
  value-other (a_mark l) a b c d h = refl
  value-other the_end a b c d h = h refl

  value-key-other : (k : Key) → (k ≢ Key.Lookup) → (k ≢ Key.Mutate) → (k ≢ Key.Dispose) → (expr_key (expr_deep 7) (key_is k) ≡ nothing → faulty ≡ assignment v s at) → value_key v (key_is k) s at ≡ assignment v s at
  unfolding value_key expr_key key_is nothing
  value-key-other Key.Ifgoto a b c h = h refl
  value-key-other Key.Return a b c h = h refl
  value-key-other Key.Fail a b c h = h refl
  value-key-other Key.Vanish a b c h = h refl
  value-key-other Key.True a b c h = refl
  value-key-other Key.False a b c h = refl
  value-key-other Key.Not a b c h = refl
  value-key-other Key.And a b c h = h refl
  value-key-other Key.Or a b c h = h refl
  value-key-other Key.Lookup a b c h = absurd (a refl)
  value-key-other Key.Mutate a b c h = absurd (b refl)
  value-key-other Key.Dispose a b c h = absurd (c refl)

module _ {s : List ℕ} {at : ℕ} {t : Token} {n : ℕ} (f : Found s at (lexeme s at) t n) (v : Name) where
  -- a form that is read from here, and one that is read past the token
  here : {B : Type 0} {next : B → ℕ} {P : B → Cmd Name → Type 0} {o : Option B} (r : Reader (Cmd Name)) → value_from v (lexeme s at).token ≡ r → Goes s (suc at) next P (r s at) o → Goes s (suc at) next P (value_from v (lexeme s at).token s at) o
  here {next = next} {P} {o} r b g = subst (λ (x : Reader (Cmd Name)). Goes s (suc at) next P (x s at) o) (sym b) g

  token-then : (r : Reader (Cmd Name)) → (token >> r) s at ≡ (token >>= λ t. r) s at
  unfolding token ◌>>◌ ◌>>=◌ after
  token-then r = refl

  past-token : {B : Type 0} {next : B → ℕ} {P : B → Cmd Name → Type 0} {o : Option B} (r : Reader (Cmd Name)) → (t ≢ Token.Ended) → value_from v (lexeme s at).token ≡ token >> r → Goes s (suc n) next P (r s n) o → Goes s (suc at) next P (value_from v (lexeme s at).token s at) o
  past-token {next = next} {P} {o} r h b g = here (token >> r) b (subst (λ (x : Read (Cmd Name)). Goes s (suc at) next P x o) (sym (token-then r)) (carries f (λ t. r) r h refl g))

  site : {B : Type 0} (P : B → Cmd Name → Type 0) {b : B} (c : Cmd Name) → (t ≢ Token.Ended) → value_from v (lexeme s at).token ≡ token >> done c → P b c → Gives s (suc at) P (value_from v (lexeme s at).token s at) (Some (b, n))
  site P {b} c h e q = here (token >> done c) e (subst (λ (x : Read (Cmd Name)). Gives s (suc at) P x (Some (b, n))) (sym (token-then (done c))) (reads f (λ t. done c) c (b, n) refl h refl q))

  pub value-named : {B : Type 0} {next : B → ℕ} {P : B → Cmd Name → Type 0} {o : Option B} (p : Place) → t ≡ Token.Name p → Goes s (suc at) next P (named v s at) o → Goes s (suc at) next P (value_from v (lexeme s at).token s at) o
  value-named p e g = here (named v) (value-name v (seen-as f e)) g

  pub value-lookup : {B : Type 0} {next : B → ℕ} {P : B → Cmd Name → Type 0} {o : Option B} (k : Key) → t ≡ Token.Reserved k → k ≡ Key.Lookup → Goes s (suc n) next P (lookup_of v s n) o → Goes s (suc at) next P (value_from v (lexeme s at).token s at) o
  value-lookup k e z g = past-token (lookup_of v) (λ q. cc) (value-reserved v (seen-as f e) ∙ (unfold value_key key_is in rw z)) g

  pub value-mutate : {B : Type 0} {next : B → ℕ} {P : B → Cmd Name → Type 0} {o : Option B} (k : Key) → t ≡ Token.Reserved k → k ≡ Key.Mutate → Goes s (suc n) next P (mutate_of v s n) o → Goes s (suc at) next P (value_from v (lexeme s at).token s at) o
  value-mutate k e z g = past-token (mutate_of v) (λ q. cc) (value-reserved v (seen-as f e) ∙ (unfold value_key key_is in rw z)) g

  pub value-dispose : {B : Type 0} {next : B → ℕ} {P : B → Cmd Name → Type 0} {o : Option B} (k : Key) → t ≡ Token.Reserved k → k ≡ Key.Dispose → Goes s (suc n) next P (dispose_of v s n) o → Goes s (suc at) next P (value_from v (lexeme s at).token s at) o
  value-dispose k e z g = past-token (dispose_of v) (λ q. cc) (value-reserved v (seen-as f e) ∙ (unfold value_key key_is in rw z)) g

  pub value-u-site : {B : Type 0} (P : B → Cmd Name → Type 0) {b : B} (j : ℕ) → t ≡ Token.USite j → P b (u_sym v j) → Gives s (suc at) P (value_from v (lexeme s at).token s at) (Some (b, n))
  value-u-site P j e q = site P (u_sym v j) (λ z. cc) (value_u v (seen-as f e)) q

  pub value-i-site : {B : Type 0} (P : B → Cmd Name → Type 0) {b : B} (j : ℕ) → t ≡ Token.ISite j → P b (i_sym v j) → Gives s (suc at) P (value_from v (lexeme s at).token s at) (Some (b, n))
  value-i-site P j e q = site P (i_sym v j) (λ z. cc) (value_i v (seen-as f e)) q

  plainly : {B : Type 0} {next : B → ℕ} {P : B → Cmd Name → Type 0} {o : Option B} → value_from v (lexeme s at).token s at ≡ assignment v s at → Goes s (suc at) next P (assignment v s at) o → Goes s (suc at) next P (value_from v (lexeme s at).token s at) o
  plainly {next = next} {P} {o} e g = subst (λ (x : Read (Cmd Name)). Goes s (suc at) next P x o) (sym e) g

  pub value-plain : {B : Type 0} {next : B → ℕ} {P : B → Cmd Name → Type 0} {o : Option B} → ((p : Place) → t ≢ Token.Name p) → ((w : Key) → t ≢ Token.Reserved w) → ((j : ℕ) → t ≢ Token.USite j) → ((j : ℕ) → t ≢ Token.ISite j) → Goes s (suc at) next P (assignment v s at) o → Goes s (suc at) next P (value_from v (lexeme s at).token s at) o
  value-plain a b c d g = plainly (value-other s at v f.seen a b c d (no-expr s at v)) g

  pub value-key-plain : {B : Type 0} {next : B → ℕ} {P : B → Cmd Name → Type 0} {o : Option B} (k : Key) → t ≡ Token.Reserved k → (k ≢ Key.Lookup) → (k ≢ Key.Mutate) → (k ≢ Key.Dispose) → Goes s (suc at) next P (assignment v s at) o → Goes s (suc at) next P (value_from v (lexeme s at).token s at) o
  value-key-plain k e a b c g =
      plainly
      (ap (λ (x : Reader (Cmd Name)). x s at) (value-reserved v (seen-as f e))
      ∙ value-key-other s at v k a b c (λ z. no-expr s at v (expr-reserved (expr_deep 7) (seen-as f e) ∙ z)))
      g
