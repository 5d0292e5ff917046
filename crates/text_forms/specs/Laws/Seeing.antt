-- What a token of the code says of the readers of the definitions: one law for each form and each answer. Assumes nothing.
use Rattle.std.specs.Prelude.{ℕ, suc, ◌≤◌, ◌≡◌, ◌≢◌, refl, Bool, true, false, List, [], length, Option, None, Some, is_some}
use Rattle.std.proofs.Common.{sym, ap, ◌∙◌, subst, arith, eq-eqb, ne_eqb}
use Rattle.std.proofs.Math.Decide.{dec_le}
use Rattle.gil.specs.Text as Text
use Rattle.gil.specs.Text.{Word, lexeme}
use Rattle.gil.specs.Tree.{Op, Name}
use Rattle.gil.specs.Reading.{Read, faulty, read, Reader, after, ◌>>=◌, done, nothing, token, is_mark, is_ended, is_becomes, so, the_mark, the_becomes, name_of, as_word, the_name, number_of, the_number, property_of, the_property, op_mark, op_key, op_word, the_op}
use Rattle.machine_code.specs.declared.kinds.Operator.{Operator}
use Rattle.machine_code.specs.Kinds.{op_of}
use Rattle.text_words.specs.declared.keys.Key.{Key}
use Rattle.text_words.specs.Mirror.Keys.{key_is}
use Rattle.text_tokens.specs.declared.tokens.Place.{Place}
use Rattle.text_tokens.specs.declared.tokens.Token.{Token}
use Rattle.text_tokens.specs.Mirror.Seen.{name_at, Seen, a_name, a_number, a_key, a_u_site, an_i_site, a_fault, a_property, becoming, a_mark, the_end, Found}
use Rattle.text_tokens.specs.Mirror.Marks.{Marked}
use Rattle.text_forms.specs.Mirror.Goes.{Goes, fails, goes, Passes, Gives, anything}
use Rattle.text_forms.specs.Mirror.Seeing.{ReadsOp}
use Rattle.text_forms.specs.Laws.Goes.{weaken}

-- marks, `:=`, the end
pub mark-seen : {s : List ℕ} {t : Text.Token} {b : ℕ} → Seen s t (Token.Mark b) → is_mark b t ≡ true
unfolding is_mark
mark-seen (a_mark {b} l) = eq-eqb b b refl

mark-not : {s : List ℕ} {t : Text.Token} {k : Token} (b : ℕ) → Seen s t k → (k ≢ Token.Mark b) → is_mark b t ≡ false
unfolding is_mark
mark-not b (a_name e) h = refl
mark-not b (a_number e) h = refl
mark-not b (a_key e) h = refl
mark-not b (a_u_site e) h = refl
mark-not b (an_i_site e) h = refl
mark-not b (a_fault e) h = refl
mark-not b (a_property e) h = refl
mark-not b becoming h = refl
mark-not b (a_mark {b = c} l) h = ne_eqb b c (λ e. h (ap Token.Mark (sym e)))
mark-not b the_end h = refl

-- a token is a mark exactly where it is seen as that mark
pub mark-is : {s : List ℕ} {t : Text.Token} {k : Token} (b : ℕ) → Seen s t k → ((k ≡ Token.Mark b) → is_mark b t ≡ true) × ((k ≢ Token.Mark b) → is_mark b t ≡ false)
mark-is {s} {t} b f = (λ e. mark-seen (subst (λ (k : Token). Seen s t k) e f), mark-not b f)

pub ended-seen : {s : List ℕ} {t : Text.Token} → Seen s t Token.Ended → is_ended t ≡ true
unfolding is_ended
ended-seen the_end = refl

pub ended-not : {s : List ℕ} {t : Text.Token} {k : Token} → Seen s t k → (k ≢ Token.Ended) → is_ended t ≡ false
unfolding is_ended
ended-not (a_name e) h = refl
ended-not (a_number e) h = refl
ended-not (a_key e) h = refl
ended-not (a_u_site e) h = refl
ended-not (an_i_site e) h = refl
ended-not (a_fault e) h = refl
ended-not (a_property e) h = refl
ended-not becoming h = refl
ended-not (a_mark l) h = refl
ended-not the_end h = absurd (h refl)

becomes-seen : {s : List ℕ} {t : Text.Token} → Seen s t Token.Becomes → is_becomes t ≡ true
unfolding is_becomes
becomes-seen becoming = refl

becomes-not : {s : List ℕ} {t : Text.Token} {k : Token} → Seen s t k → (k ≢ Token.Becomes) → is_becomes t ≡ false
unfolding is_becomes
becomes-not (a_name e) h = refl
becomes-not (a_number e) h = refl
becomes-not (a_key e) h = refl
becomes-not (a_u_site e) h = refl
becomes-not (an_i_site e) h = refl
becomes-not (a_fault e) h = refl
becomes-not (a_property e) h = refl
becomes-not becoming h = absurd (h refl)
becomes-not (a_mark l) h = refl
becomes-not the_end h = refl

-- a name, a number, a property
name-seen : {s : List ℕ} {t : Text.Token} {p : Place} → Seen s t (Token.Name p) → name_of (as_word t) ≡ done (name_at s p)
unfolding as_word name_of
name-seen (a_name e) = ap name_of e

name-not : {s : List ℕ} {t : Text.Token} {k : Token} → Seen s t k → ((p : Place) → k ≢ Token.Name p) → name_of (as_word t) ≡ nothing
unfolding as_word name_of
name-not (a_name e) h = absurd (h _ refl)
name-not (a_number e) h = ap (λ (x : Word). name_of x) e
name-not (a_key e) h = ap (λ (x : Word). name_of x) e
name-not (a_u_site e) h = ap (λ (x : Word). name_of x) e
name-not (an_i_site e) h = ap (λ (x : Word). name_of x) e
name-not (a_fault e) h = ap (λ (x : Word). name_of x) e
name-not (a_property e) h = refl
name-not becoming h = refl
name-not (a_mark l) h = refl
name-not the_end h = refl

number-seen : {s : List ℕ} {t : Text.Token} {n : ℕ} → Seen s t (Token.Number n) → number_of (as_word t) ≡ done n
unfolding as_word number_of
number-seen (a_number e) = ap number_of e

number-not : {s : List ℕ} {t : Text.Token} {k : Token} → Seen s t k → ((n : ℕ) → k ≢ Token.Number n) → number_of (as_word t) ≡ nothing
unfolding as_word number_of
number-not (a_name e) h = ap (λ (x : Word). number_of x) e
number-not (a_number e) h = absurd (h _ refl)
number-not (a_key e) h = ap (λ (x : Word). number_of x) e
number-not (a_u_site e) h = ap (λ (x : Word). number_of x) e
number-not (an_i_site e) h = ap (λ (x : Word). number_of x) e
number-not (a_fault e) h = ap (λ (x : Word). number_of x) e
number-not (a_property e) h = refl
number-not becoming h = refl
number-not (a_mark l) h = refl
number-not the_end h = refl

property-seen : {s : List ℕ} {t : Text.Token} {p : Place} → Seen s t (Token.Property p) → property_of t ≡ done (name_at s p)
unfolding property_of
property-seen (a_property e) = ap done (sym e)

property-not : {s : List ℕ} {t : Text.Token} {k : Token} → Seen s t k → ((p : Place) → k ≢ Token.Property p) → property_of t ≡ nothing
unfolding property_of
property-not (a_name e) h = refl
property-not (a_number e) h = refl
property-not (a_key e) h = refl
property-not (a_u_site e) h = refl
property-not (an_i_site e) h = refl
property-not (a_fault e) h = refl
property-not (a_property e) h = absurd (h _ refl)
property-not becoming h = refl
property-not (a_mark l) h = refl
property-not the_end h = refl

-- an operator: of a mark, of a reserved word, and no other token
pub op-by-mark : {s : List ℕ} {t : Text.Token} {b : ℕ} (o : Option Operator) → ReadsOp (op_mark b) o → Seen s t (Token.Mark b) → ReadsOp (Rattle.gil.specs.Reading.op_of t) o
unfolding Rattle.gil.specs.Reading.op_of
op-by-mark o h (a_mark l) = h

pub op-by-key : {s : List ℕ} {t : Text.Token} {k : Key} (o : Option Operator) → ReadsOp (op_key (key_is k)) o → Seen s t (Token.Reserved k) → ReadsOp (Rattle.gil.specs.Reading.op_of t) o
unfolding Rattle.gil.specs.Reading.op_of op_word
op-by-key o h (a_key e) = subst (λ (w : Word). ReadsOp (op_word w) o) (sym e) h

pub op-other : {s : List ℕ} {t : Text.Token} {k : Token} → Seen s t k → ((b : ℕ) → k ≢ Token.Mark b) → ((w : Key) → k ≢ Token.Reserved w) → Rattle.gil.specs.Reading.op_of t ≡ nothing
unfolding Rattle.gil.specs.Reading.op_of op_word
op-other (a_name e) h g = ap op_word e
op-other (a_number e) h g = ap op_word e
op-other (a_key e) h g = absurd (g _ refl)
op-other (a_u_site e) h g = ap op_word e
op-other (an_i_site e) h g = ap op_word e
op-other (a_fault e) h g = ap op_word e
op-other (a_property e) h g = refl
op-other becoming h g = refl
op-other (a_mark l) h g = absurd (h _ refl)
op-other the_end h g = refl

pub op-key-none : (k : Key) → (k ≢ Key.And) → (k ≢ Key.Or) → op_key (key_is k) ≡ nothing
unfolding op_key key_is
op-key-none Key.Ifgoto a o = refl
op-key-none Key.Return a o = refl
op-key-none Key.Fail a o = refl
op-key-none Key.Vanish a o = refl
op-key-none Key.True a o = refl
op-key-none Key.False a o = refl
op-key-none Key.Not a o = refl
op-key-none Key.And a o = absurd (a refl)
op-key-none Key.Or a o = absurd (o refl)
op-key-none Key.Lookup a o = refl
op-key-none Key.Mutate a o = refl
op-key-none Key.Dispose a o = refl

-- the end is no operator
op-ended : {s : List ℕ} {t : Text.Token} → Seen s t Token.Ended → Rattle.gil.specs.Reading.op_of t ≡ nothing
unfolding Rattle.gil.specs.Reading.op_of
op-ended the_end = refl

not-done : {A : Type 0} (a : A) → ◌≡◌ {A = Reader A} nothing (done a) → ⊥
unfolding nothing done
not-done {A} a e = let q : faulty ≡ read a 0 = ap (λ (r : Reader A). r [] 0) e in cc

-- a token that is not the end is within the text
module _ {s : List ℕ} {at : ℕ} {t : Token} {n : ℕ} (f : Found s at (lexeme s at) t n) where
  pub inside : (t ≢ Token.Ended) → n ≤ length s
  inside h = elim (dec_le at (length s)) [ yes l ↦ f.within l | no l ↦ absurd (h (f.ends (omega arith))) ]

  pub seen-as : {u : Token} → t ≡ u → Seen s (lexeme s at).token u
  seen-as e = subst (λ (x : Token). Seen s (lexeme s at).token x) e f.seen

  -- one token, and what is made of it
  token-step : {A : Type 0} (g : Text.Token → Reader A) → (token >>= g) s at ≡ g (lexeme s at).token s (lexeme s at).next
  unfolding token ◌>>=◌ after
  token-step g = refl

  pub reads : {A B : Type 0} {next : B → ℕ} {Q : B → A → Type 0} (g : Text.Token → Reader A) (a : A) (b : B) → next b ≡ n → (t ≢ Token.Ended) → g (lexeme s at).token ≡ done a → Q b a → Goes s (suc at) next Q ((token >>= g) s at) (Some b)
  unfolding done
  reads {A} {B} {next} {Q} g a b z h e q =
      subst (λ (r : Read A). Goes s (suc at) next Q r (Some b)) (sym (token-step g ∙ ap (λ (p : Reader A). p s (lexeme s at).next) e))
      (goes (z ∙ f.next) (subst (λ (m : ℕ). suc at ≤ m) f.next (f.more h)) (subst (λ (m : ℕ). m ≤ length s) f.next (inside h)) q)

  pub faults : {A B : Type 0} {low : ℕ} {next : B → ℕ} {Q : B → A → Type 0} (g : Text.Token → Reader A) → g (lexeme s at).token ≡ nothing → Goes s low next Q ((token >>= g) s at) None
  unfolding nothing
  faults {A} {low = low} {next} {Q} g e = subst (λ (r : Read A). Goes s low next Q r None) (sym (token-step g ∙ ap (λ (p : Reader A). p s (lexeme s at).next) e)) fails

  -- what follows the token is read by `p`
  pub carries : {A B : Type 0} {next : B → ℕ} {Q : B → A → Type 0} {o : Option B} (g : Text.Token → Reader A) (p : Reader A) → (t ≢ Token.Ended) → g (lexeme s at).token ≡ p → Goes s (suc n) next Q (p s n) o → Goes s (suc at) next Q ((token >>= g) s at) o
  carries {A} {next = next} {Q} {o} g p h e q =
      subst (λ (r : Read A). Goes s (suc at) next Q r o) (sym (token-step g ∙ ap (λ (x : Reader A). x s (lexeme s at).next) e ∙ ap (λ (i : ℕ). p s i) (sym f.next)))
      (weaken (omega (arith, f.more h)) q)

  pub becomes-goes : t ≡ Token.Becomes → Passes s (suc at) anything (the_becomes s at) (Some n)
  unfolding the_becomes so
  becomes-goes e = reads (λ x. so (is_becomes x)) tt n refl (λ q. cc) (ap so (becomes-seen (seen-as e))) tt

  pub becomes-fails : (t ≢ Token.Becomes) → Passes s (suc at) anything (the_becomes s at) None
  unfolding the_becomes so
  becomes-fails h = faults (λ x. so (is_becomes x)) (ap so (becomes-not f.seen h))

  pub name-goes : (p : Place) → t ≡ Token.Name p → Gives s (suc at) (λ (p : Place) (w : Name). name_at s p ≡ w) (the_name s at) (Some (p, n))
  unfolding the_name
  name-goes p e = reads (λ x. name_of (as_word x)) (name_at s p) (p, n) refl (λ q. cc) (name-seen (seen-as e)) refl

  pub name-fails : ((p : Place) → t ≢ Token.Name p) → Gives s (suc at) (λ (p : Place) (w : Name). name_at s p ≡ w) (the_name s at) None
  unfolding the_name
  name-fails h = faults (λ x. name_of (as_word x)) (name-not f.seen h)

  pub number-goes : (m : ℕ) → t ≡ Token.Number m → Gives s (suc at) (λ (m a : ℕ). m ≡ a) (the_number s at) (Some (m, n))
  unfolding the_number
  number-goes m e = reads (λ x. number_of (as_word x)) m (m, n) refl (λ q. cc) (number-seen (seen-as e)) refl

  pub number-fails : ((m : ℕ) → t ≢ Token.Number m) → Gives s (suc at) (λ (m a : ℕ). m ≡ a) (the_number s at) None
  unfolding the_number
  number-fails h = faults (λ x. number_of (as_word x)) (number-not f.seen h)

  pub property-goes : (p : Place) → t ≡ Token.Property p → Gives s (suc at) (λ (p : Place) (w : Name). name_at s p ≡ w) (the_property s at) (Some (p, n))
  unfolding the_property
  property-goes p e = reads property_of (name_at s p) (p, n) refl (λ q. cc) (property-seen (seen-as e)) refl

  pub property-fails : ((p : Place) → t ≢ Token.Property p) → Gives s (suc at) (λ (p : Place) (w : Name). name_at s p ≡ w) (the_property s at) None
  unfolding the_property
  property-fails h = faults property_of (property-not f.seen h)

  -- an operator; the end is none
  pub op-goes : (o : Operator) → ((x : Text.Token) → Seen s x t → ReadsOp (Rattle.gil.specs.Reading.op_of x) (Some o)) → Gives s (suc at) (λ (u : Operator) (p : Op). op_of u ≡ p) (the_op s at) (Some (o, n))
  unfolding the_op
  op-goes o h = reads Rattle.gil.specs.Reading.op_of (op_of o) (o, n) refl (λ z. not-done (op_of o) (sym (op-ended (seen-as z)) ∙ h (lexeme s at).token f.seen)) (h (lexeme s at).token f.seen) refl

  pub op-fails : ((x : Text.Token) → Seen s x t → ReadsOp (Rattle.gil.specs.Reading.op_of x) None) → Gives s (suc at) (λ (u : Operator) (p : Op). op_of u ≡ p) (the_op s at) None
  unfolding the_op
  op-fails h = faults Rattle.gil.specs.Reading.op_of (h (lexeme s at).token f.seen)

-- a mark by its byte
pub mark-reads : {s : List ℕ} {at : ℕ} (b : ℕ) {o : Option ℕ} → Marked s at b o → Passes s (suc at) anything (the_mark b s at) o
unfolding the_mark so token ◌>>=◌ after nothing
mark-reads {s} {at} b {o = None} e = subst (λ (x : Read (Unit {0})). Passes s (suc at) anything x None) (sym (ap (λ (t : Bool). so t s (lexeme s at).next) e)) fails
mark-reads b {o = Some n} f = reads f (λ t. so (is_mark b t)) tt n refl (λ q. cc) (ap so (mark-seen f.seen)) tt

-- whether the mark is there
pub mark-there : (s : List ℕ) (at b : ℕ) (o : Option ℕ) → Marked s at b o → true ≡ is_some o → is_mark b (lexeme s at).token ≡ true
mark-there s at b None m e = absurd (let q : true ≡ false = e in cc)
mark-there s at b (Some n) f e = mark-seen f.seen

pub mark-absent : (s : List ℕ) (at b : ℕ) (o : Option ℕ) → Marked s at b o → false ≡ is_some o → is_mark b (lexeme s at).token ≡ false
mark-absent s at b None m e = m
mark-absent s at b (Some n) f e = absurd (let q : false ≡ true = e in cc)
