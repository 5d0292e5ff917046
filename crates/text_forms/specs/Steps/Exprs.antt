-- Reading an expression, by its first token. Assumes nothing.
use Rattle.std.specs.Prelude.{ℕ, zero, suc, ◌-◌, ◌≡◌, ◌≢◌, refl, Bool, true, false, List, eqb, Option, None, Some}
use Rattle.std.proofs.Common.{sym, ap, ◌∙◌, subst, arith, eq-eqb, ne_eqb}
use Rattle.gil.specs.Text as Text
use Rattle.gil.specs.Text.{lexeme}
use Rattle.gil.specs.Tree.{Op, Expr, num, bool, var, neg, bin, Name}
use Rattle.gil.specs.Reading.{Read, Reader, ◌>>=◌, ◌>>◌, done, nothing, token, the_mark, the_op, negation, bracketed, expr_key, expr_word, expr_from, expr_deep}
use Rattle.text_words.specs.declared.keys.Key.{Key}
use Rattle.text_words.specs.Mirror.Keys.{key_is}
use Rattle.text_tokens.specs.declared.tokens.Place.{Place}
use Rattle.text_tokens.specs.declared.tokens.Token.{Token}
use Rattle.text_tokens.specs.Mirror.Seen.{name_at, Seen, a_name, a_number, a_key, a_u_site, an_i_site, a_fault, a_property, becoming, a_mark, the_end, Found}
use Rattle.text_forms.specs.Mirror.Goes.{Goes, Passes, fails, anything, following}
use Rattle.text_forms.specs.Laws.Goes.{stops, first, ended, closes, row, next}
use Rattle.text_forms.specs.Laws.Seeing.{seen-as, reads, faults, carries}

-- an expression by its first token, whose operands `r` reads
open-if : (r : Reader (Expr Name)) (x : Bool) → x ≡ true → ◌≡◌ {A = Reader (Expr Name)} (elim x [ true ↦ bracketed r | false ↦ nothing ]) (bracketed r)
open-if r x z = rw z

none-if : (r : Reader (Expr Name)) (x : Bool) → x ≡ false → ◌≡◌ {A = Reader (Expr Name)} (elim x [ true ↦ bracketed r | false ↦ nothing ]) nothing
none-if r x z = rw z

expr-name : (r : Reader (Expr Name)) {s : List ℕ} {t : Text.Token} {p : Place} → Seen s t (Token.Name p) → expr_from r t ≡ done (var (name_at s p))
unfolding expr_from expr_word
expr-name r (a_name e) = ap (expr_word r) e

expr-number : (r : Reader (Expr Name)) {s : List ℕ} {t : Text.Token} {n : ℕ} → Seen s t (Token.Number n) → expr_from r t ≡ done (num n)
unfolding expr_from expr_word
expr-number r (a_number e) = ap (expr_word r) e

pub expr-reserved : (r : Reader (Expr Name)) {s : List ℕ} {t : Text.Token} {k : Key} → Seen s t (Token.Reserved k) → expr_from r t ≡ expr_key r (key_is k)
unfolding expr_from expr_word
expr-reserved r (a_key e) = ap (expr_word r) e

expr-open : (r : Reader (Expr Name)) {s : List ℕ} {t : Text.Token} {b : ℕ} → Seen s t (Token.Mark b) → b ≡ 40 → expr_from r t ≡ bracketed r
unfolding expr_from
expr-open r {b = b} (a_mark l) e = open-if r (eqb b 40) (eq-eqb b 40 e)

expr-mark : (r : Reader (Expr Name)) {s : List ℕ} {t : Text.Token} {b : ℕ} → Seen s t (Token.Mark b) → (b ≡ 40 → ⊥) → expr_from r t ≡ nothing
unfolding expr_from
expr-mark r {b = b} (a_mark l) h = none-if r (eqb b 40) (ne_eqb b 40 h)

expr-other : (r : Reader (Expr Name)) {s : List ℕ} {t : Text.Token} {k : Token} → Seen s t k → ((p : Place) → k ≢ Token.Name p) × ((n : ℕ) → k ≢ Token.Number n) × ((w : Key) → k ≢ Token.Reserved w) × ((b : ℕ) → k ≢ Token.Mark b) → expr_from r t ≡ nothing
unfolding expr_from expr_word
expr-other r (a_name e) h = absurd (h.0 _ refl)
expr-other r (a_number e) h = absurd (h.1 _ refl)
expr-other r (a_key e) h = absurd (h.2 _ refl)
expr-other r (a_u_site e) h = ap (expr_word r) e
expr-other r (an_i_site e) h = ap (expr_word r) e
expr-other r (a_fault e) h = ap (expr_word r) e
expr-other r (a_property e) h = refl
expr-other r becoming h = refl
expr-other r (a_mark l) h = absurd (h.3 _ refl)
expr-other r the_end h = refl

expr-key-none : (r : Reader (Expr Name)) (k : Key) → (k ≢ Key.True) → (k ≢ Key.False) → (k ≢ Key.Not) → expr_key r (key_is k) ≡ nothing
unfolding expr_key key_is
expr-key-none r Key.Ifgoto t f n = refl
expr-key-none r Key.Return t f n = refl
expr-key-none r Key.Fail t f n = refl
expr-key-none r Key.Vanish t f n = refl
expr-key-none r Key.True t f n = absurd (t refl)
expr-key-none r Key.False t f n = absurd (f refl)
expr-key-none r Key.Not t f n = absurd (n refl)
expr-key-none r Key.And t f n = refl
expr-key-none r Key.Or t f n = refl
expr-key-none r Key.Lookup t f n = refl
expr-key-none r Key.Mutate t f n = refl
expr-key-none r Key.Dispose t f n = refl

-- no depth is left
pub expr-zero : {s : List ℕ} {d at : ℕ} {Q : ℕ → Expr Name → Type 0} → d ≡ 0 → Goes s (suc at) (λ n. n) Q (expr_deep d s at) None
unfolding expr_deep
expr-zero {s} {d} {at} {Q} e = subst (λ (n : ℕ). Goes s (suc at) (λ n. n) Q (expr_deep n s at) None) (sym e) fails

expr-step : (d : ℕ) (s : List ℕ) (at : ℕ) → (d ≡ 0 → ⊥) → expr_deep d s at ≡ (token >>= expr_from (expr_deep (d - 1))) s at
unfolding expr_deep
expr-step zero s at h = absurd (h refl)
expr-step (suc d) s at h = let e : d ≡ suc d - 1 = omega arith in ap (λ (n : ℕ). (token >>= expr_from (expr_deep n)) s at) e

module _ {s : List ℕ} {at : ℕ} {t : Token} {n : ℕ} (f : Found s at (lexeme s at) t n) (d : ℕ) (nz : d ≡ 0 → ⊥) {Q : Expr Name → Type 0} where
  -- a leaf, another form, none, by what the token makes of it
  leaf : (e : Expr Name) → (t ≢ Token.Ended) → expr_from (expr_deep (d - 1)) (lexeme s at).token ≡ done e → Q e → Passes s (suc at) Q (expr_deep d s at) (Some n)
  leaf e h b q =
      subst (λ (r : Read (Expr Name)). Passes s (suc at) Q r (Some n)) (sym (expr-step d s at nz))
      (reads f (expr_from (expr_deep (d - 1))) e n refl h b q)

  form : {o : Option ℕ} (p : Reader (Expr Name)) → (t ≢ Token.Ended) → expr_from (expr_deep (d - 1)) (lexeme s at).token ≡ p → Passes s (suc n) Q (p s n) o → Passes s (suc at) Q (expr_deep d s at) o
  form {o} p h b g =
      subst (λ (r : Read (Expr Name)). Passes s (suc at) Q r o) (sym (expr-step d s at nz))
      (carries f (expr_from (expr_deep (d - 1))) p h b g)

  none : expr_from (expr_deep (d - 1)) (lexeme s at).token ≡ nothing → Passes s (suc at) Q (expr_deep d s at) None
  none b = subst (λ (r : Read (Expr Name)). Passes s (suc at) Q r None) (sym (expr-step d s at nz)) (faults f (expr_from (expr_deep (d - 1))) b)

  pub leaf-name : (p : Place) → t ≡ Token.Name p → Q (var (name_at s p)) → Passes s (suc at) Q (expr_deep d s at) (Some n)
  leaf-name p e q = leaf (var (name_at s p)) (λ z. cc) (expr-name (expr_deep (d - 1)) (seen-as f e)) q

  pub leaf-number : (m : ℕ) → t ≡ Token.Number m → Q (num m) → Passes s (suc at) Q (expr_deep d s at) (Some n)
  leaf-number m e q = leaf (num m) (λ z. cc) (expr-number (expr_deep (d - 1)) (seen-as f e)) q

  pub leaf-true : (k : Key) → t ≡ Token.Reserved k → k ≡ Key.True → Q (bool true) → Passes s (suc at) Q (expr_deep d s at) (Some n)
  leaf-true k e z q = leaf (bool true) (λ z. cc) (expr-reserved (expr_deep (d - 1)) (seen-as f e) ∙ (unfold expr_key key_is in rw z)) q

  pub leaf-false : (k : Key) → t ≡ Token.Reserved k → k ≡ Key.False → Q (bool false) → Passes s (suc at) Q (expr_deep d s at) (Some n)
  leaf-false k e z q = leaf (bool false) (λ z. cc) (expr-reserved (expr_deep (d - 1)) (seen-as f e) ∙ (unfold expr_key key_is in rw z)) q

  pub form-not : {o : Option ℕ} (k : Key) → t ≡ Token.Reserved k → k ≡ Key.Not → Passes s (suc n) Q (negation (expr_deep (d - 1)) s n) o → Passes s (suc at) Q (expr_deep d s at) o
  form-not k e z g = form (negation (expr_deep (d - 1))) (λ z. cc) (expr-reserved (expr_deep (d - 1)) (seen-as f e) ∙ (unfold expr_key key_is in rw z)) g

  pub form-none : (k : Key) → t ≡ Token.Reserved k → (k ≢ Key.True) → (k ≢ Key.False) → (k ≢ Key.Not) → Passes s (suc at) Q (expr_deep d s at) None
  form-none k e a b c = none (expr-reserved (expr_deep (d - 1)) (seen-as f e) ∙ expr-key-none (expr_deep (d - 1)) k a b c)

  pub form-open : {o : Option ℕ} (b : ℕ) → t ≡ Token.Mark b → b ≡ 40 → Passes s (suc n) Q (bracketed (expr_deep (d - 1)) s n) o → Passes s (suc at) Q (expr_deep d s at) o
  form-open b e z g = form (bracketed (expr_deep (d - 1))) (λ z. cc) (expr-open (expr_deep (d - 1)) (seen-as f e) z) g

  pub mark-none : (b : ℕ) → t ≡ Token.Mark b → (b ≡ 40 → ⊥) → Passes s (suc at) Q (expr_deep d s at) None
  mark-none b e h = none (expr-mark (expr_deep (d - 1)) (seen-as f e) h)

  pub expr-none : ((p : Place) → t ≢ Token.Name p) → ((m : ℕ) → t ≢ Token.Number m) → ((w : Key) → t ≢ Token.Reserved w) → ((b : ℕ) → t ≢ Token.Mark b) → Passes s (suc at) Q (expr_deep d s at) None
  expr-none a b c e = none (expr-other (expr_deep (d - 1)) f.seen (a, b, c, e))

-- `not e`
pub negation-goes : {s : List ℕ} {at : ℕ} {o : Option ℕ} (e : Reader (Expr Name)) {Q P : Expr Name → Type 0} → ((a : Expr Name) → Q a → P (neg a)) → Passes s (suc at) Q (e s at) o → Passes s (suc at) P (negation e s at) o
unfolding negation ◌>>=◌
negation-goes {o = None} e h g = stops _ g
negation-goes {o = Some n} e h g = first _ g (λ a w q. ended _ n w (h a q))

-- `(e op e)`
pub bracketed-goes :
    {s : List ℕ} {at : ℕ} {o₁ o₂ o₃ o₄ : Option ℕ} (e : Reader (Expr Name)) {A B P : Expr Name → Type 0} {O : Op → Type 0}
    → ((a b : Expr Name) (o : Op) → A a → O o → B b → P (bin o a b))
    → Passes s (suc at) A (e s at) o₁
    → ((n : ℕ) → o₁ ≡ Some n → Passes s (suc n) O (the_op s n) o₂)
    → ((n : ℕ) → o₂ ≡ Some n → Passes s (suc n) B (e s n) o₃)
    → ((n : ℕ) → o₃ ≡ Some n → Passes s (suc n) anything (the_mark 41 s n) o₄)
    → Passes s (suc at) P (bracketed e s at) (following o₁ (following o₂ (following o₃ o₄)))
unfolding bracketed ◌>>=◌ ◌>>◌
bracketed-goes e h ga go gb gm =
    row _ ga (λ a n₁ e₁ qa. next _ (go n₁ e₁) (λ o n₂ e₂ qo. next _ (gb n₂ e₂) (λ b n₃ e₃ qb. closes (bin o a b) (gm n₃ e₃) (h a b o qa qo qb))))
