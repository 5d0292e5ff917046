-- What the readers of tokens and expressions give from a place in the text, if they are not faulty: the place after what was read is still
-- in the text, past the bytes that were read; an expression is as deep as allowed, and its words are few: two bytes or more a word. Assumes nothing.
use Rattle.std.specs.Prelude.{ℕ, zero, suc, ◌+◌, ◌*◌, ◌≤◌, ◌<◌, ◌≡◌, Bool, false, List, length, eqb}
use native.Mathlib.Omega.{arith}
use Rattle.std.proofs.Math.Path.{refl}
use Rattle.std.proofs.Math.Bool.{true}
use Rattle.gil.specs.Text.{Token, word, property, becomes, mark, ended, Word, Key, k_ifgoto, k_return, k_fail, k_vanish, k_true, k_false, k_not, k_and, k_or, k_lookup, k_mutate, k_dispose}
use Rattle.gil.specs.Tree.{Op, plus, minus, equal, less, and, or, Expr, num, bool, var, neg, bin, Name}
use Rattle.gil.specs.Reading.{Read, faulty, read, Reader, after, ◌>>=◌, ◌>>◌, done, nothing, token, ahead, is_mark, is_becomes, so, the_mark, the_becomes, name_of, the_name, number_of, the_number, property_of, the_property, op_mark, op_key, op_word, op_of, the_op, negation, bracketed, expr_key, expr_word, expr_from, expr_deep, expr}
use Rattle.gil.proofs.Theory.Tests.{chosen}
use Rattle.machine_code.proofs.Accepted.Tokens.{token_bytes, lexeme-ends, WordFits, a_name, a_number, a_key, a_u_site, an_i_site, a_fault, word_of-fits, as_word-fits}
use Rattle.machine_code.proofs.Accepted.Sizes.{expr_size, ExprSmall, small_number, small_truth, small_variable, small_not, small_operator}

-- a reader was faulty, or it ended in the text and `P` holds of what it read and where it ended
pub data Given {A : Type 0} (s : List ℕ) (P : A → ℕ → Type 0) : Read A → Type 0 where
  is_faulty : Given s P faulty
  is_read : {a : A} {next : ℕ} → next ≤ length s → P a next → Given s P (read a next)

-- the same of a reader at a place
pub record Reads {A : Type 0} (s : List ℕ) (P : A → ℕ → Type 0) (p : Reader A) (at : ℕ) : Type 0 where
  pub given : Given s P (p s at)

pub nothing-reads : {A : Type 0} {s : List ℕ} {P : A → ℕ → Type 0} {n : ℕ} → Reads s P nothing n
unfolding nothing
nothing-reads = record { given = is_faulty }

pub done-reads : {A : Type 0} {s : List ℕ} {P : A → ℕ → Type 0} {n : ℕ} (a : A) → n ≤ length s → P a n → Reads s P (done a) n
unfolding done
done-reads a h p = record { given = is_read h p }

-- less is known of what was read
module _ {A : Type 0} {s : List ℕ} {P Q : A → ℕ → Type 0} where
  given_to : {r : Read A} → ((a : A) (n : ℕ) → P a n → Q a n) → Given s P r → Given s Q r
  given_to f is_faulty = is_faulty
  given_to f (is_read h p) = is_read h (f _ _ p)

  pub reads-to : {p : Reader A} {at : ℕ} → ((a : A) (n : ℕ) → P a n → Q a n) → Reads s P p at → Reads s Q p at
  reads-to f h = record { given = given_to f h.given }

-- readers in a row
module _ {A B : Type 0} {s : List ℕ} {P : A → ℕ → Type 0} {Q : B → ℕ → Type 0} where
  given-after :
      (f : A → Reader B) {r : Read A}
      → Given s P r
      → ((a : A) (n : ℕ) → n ≤ length s → P a n → Reads s Q (f a) n)
      → Given s Q (after s r f)
  unfolding after
  given-after f is_faulty k = is_faulty
  given-after f (is_read h p) k = (k _ _ h p).given

  pub reads_then :
      {p : Reader A} {f : A → Reader B} {at : ℕ}
      → Reads s P p at
      → ((a : A) (n : ℕ) → n ≤ length s → P a n → Reads s Q (f a) n)
      → Reads s Q (p >>= f) at
  unfolding ◌>>=◌
  reads_then {f} h k = record { given = given-after f h.given k }

  pub reads_on :
      {p : Reader A} {q : Reader B} {at : ℕ}
      → Reads s P p at
      → ((a : A) (n : ℕ) → n ≤ length s → P a n → Reads s Q q n)
      → Reads s Q (p >> q) at
  unfolding ◌>>◌
  reads_on {q} h k = record { given = given-after (λ a. q) h.given k }

-- one token
module _ (s : List ℕ) (at : ℕ) (h : at ≤ length s) where
  pub token-reads : Reads s (λ t next. at + token_bytes t ≤ next) token at
  unfolding token
  token-reads = record { given = is_read (lexeme-ends s at h).inside (lexeme-ends s at h).takes }

  pub ahead-reads : Reads s (λ t next. next ≡ at) ahead at
  unfolding ahead
  ahead-reads = record { given = is_read h refl }

so-reads : {s : List ℕ} {P : Unit {0} → ℕ → Type 0} (b : Bool) {n : ℕ} → n ≤ length s → P tt n → Reads s P (so b) n
unfolding so
so-reads true h p = done-reads tt h p
so-reads false h p = nothing-reads

module _ {s : List ℕ} (at n : ℕ) (h : n ≤ length s) where
  is_mark-reads : (b : ℕ) (t : Token) → at + token_bytes t ≤ n → Reads s (λ u next. at < next) (so (is_mark b t)) n
  unfolding is_mark token_bytes so
  is_mark-reads b (word w) k = nothing-reads
  is_mark-reads b (property p) k = nothing-reads
  is_mark-reads b becomes k = nothing-reads
  is_mark-reads b (mark c) k = so-reads (eqb b c) h (omega arith)
  is_mark-reads b ended k = nothing-reads

  is_becomes-reads : (t : Token) → at + token_bytes t ≤ n → Reads s (λ u next. at < next) (so (is_becomes t)) n
  unfolding is_becomes token_bytes so
  is_becomes-reads (word w) k = nothing-reads
  is_becomes-reads (property p) k = nothing-reads
  is_becomes-reads becomes k = so-reads true h (omega arith)
  is_becomes-reads (mark c) k = nothing-reads
  is_becomes-reads ended k = nothing-reads

  name_of-reads : {size : ℕ} {w : Word} → WordFits size w → at + size ≤ n → Reads s (λ v next. at < next) (name_of w) n
  unfolding name_of
  name_of-reads (a_name {w} b) k = done-reads w h (omega arith)
  name_of-reads (a_number b c w) k = nothing-reads
  name_of-reads (a_key b) k = nothing-reads
  name_of-reads (a_u_site b c) k = nothing-reads
  name_of-reads (an_i_site b c) k = nothing-reads
  name_of-reads a_fault k = nothing-reads

  number_of-reads :
      {size : ℕ} {w : Word} → WordFits size w → at + size ≤ n → Reads s (λ m next. (m < 4294967296) × (at < next)) (number_of w) n
  unfolding number_of
  number_of-reads (a_name b) k = nothing-reads
  number_of-reads (a_number {n = m} b c w) k = done-reads m h (c, omega arith)
  number_of-reads (a_key b) k = nothing-reads
  number_of-reads (a_u_site b c) k = nothing-reads
  number_of-reads (an_i_site b c) k = nothing-reads
  number_of-reads a_fault k = nothing-reads

  property_of-reads : (t : Token) → at + token_bytes t ≤ n → Reads s (λ p next. at < next) (property_of t) n
  unfolding property_of token_bytes
  property_of-reads (word w) k = nothing-reads
  property_of-reads (property p) k = done-reads p h (omega arith)
  property_of-reads becomes k = nothing-reads
  property_of-reads (mark c) k = nothing-reads
  property_of-reads ended k = nothing-reads

  op_mark-reads : at < n → (b : ℕ) → Reads s (λ o next. at < next) (op_mark b) n
  unfolding op_mark
  op_mark-reads k b =
      chosen P (eqb b 43) (λ _. done-reads plus h k) λ _.
      chosen P (eqb b 45) (λ _. done-reads minus h k) λ _.
      chosen P (eqb b 61) (λ _. done-reads equal h k) λ _.
      chosen P (eqb b 60) (λ _. done-reads less h k) λ _. nothing-reads
    where
      P : Reader Op → Type 0
      P r = Reads s (λ o next. at < next) r n

  op_key-reads : at < n → (k : Key) → Reads s (λ o next. at < next) (op_key k) n
  unfolding op_key
  op_key-reads b k_and = done-reads and h b
  op_key-reads b k_or = done-reads or h b
  op_key-reads b k_ifgoto = nothing-reads
  op_key-reads b k_return = nothing-reads
  op_key-reads b k_fail = nothing-reads
  op_key-reads b k_vanish = nothing-reads
  op_key-reads b k_true = nothing-reads
  op_key-reads b k_false = nothing-reads
  op_key-reads b k_not = nothing-reads
  op_key-reads b k_lookup = nothing-reads
  op_key-reads b k_mutate = nothing-reads
  op_key-reads b k_dispose = nothing-reads

  op_word-reads : {size : ℕ} {w : Word} → WordFits size w → at + size ≤ n → Reads s (λ o next. at < next) (op_word w) n
  unfolding op_word
  op_word-reads (a_name b) k = nothing-reads
  op_word-reads (a_number b c w) k = nothing-reads
  op_word-reads (a_key {k = w} b) k = op_key-reads (omega arith) w
  op_word-reads (a_u_site b c) k = nothing-reads
  op_word-reads (an_i_site b c) k = nothing-reads
  op_word-reads a_fault k = nothing-reads

  op_of-reads : (t : Token) → at + token_bytes t ≤ n → Reads s (λ o next. at < next) (op_of t) n
  unfolding op_of token_bytes
  op_of-reads (word w) k = op_word-reads (word_of-fits w) k
  op_of-reads (property p) k = nothing-reads
  op_of-reads becomes k = nothing-reads
  op_of-reads (mark c) k = op_mark-reads (omega arith) c
  op_of-reads ended k = nothing-reads

module _ (s : List ℕ) (at : ℕ) (h : at ≤ length s) where
  pub the_mark-reads : (b : ℕ) → Reads s (λ u next. at < next) (the_mark b) at
  unfolding the_mark
  the_mark-reads b = reads_then (token-reads s at h) λ t n k p. is_mark-reads at n k b t p

  pub the_becomes-reads : Reads s (λ u next. at < next) the_becomes at
  unfolding the_becomes
  the_becomes-reads = reads_then (token-reads s at h) λ t n k p. is_becomes-reads at n k t p

  pub the_name-reads : Reads s (λ w next. at < next) the_name at
  unfolding the_name
  the_name-reads = reads_then (token-reads s at h) λ t n k p. name_of-reads at n k (as_word-fits t) p

  pub the_number-reads : Reads s (λ m next. (m < 4294967296) × (at < next)) the_number at
  unfolding the_number
  the_number-reads = reads_then (token-reads s at h) λ t n k p. number_of-reads at n k (as_word-fits t) p

  pub the_property-reads : Reads s (λ p next. at < next) the_property at
  unfolding the_property
  the_property-reads = reads_then (token-reads s at h) λ t n k p. property_of-reads at n k t p

  pub the_op-reads : Reads s (λ o next. at < next) the_op at
  unfolding the_op
  the_op-reads = reads_then (token-reads s at h) λ t n k p. op_of-reads at n k t p

-- an expression: at most `d` deep, twice its words at most its bytes and one
pub record ExprRead (d at : ℕ) (e : Expr Name) (next : ℕ) : Type 0 where
  pub small : ExprSmall d e
  pub takes : 2 * expr_size e + at ≤ suc next

-- an expression past its first token, which began at `at`; `p` reads an operand
module _
    (s : List ℕ) (d : ℕ) (p : Reader (Expr Name))
    (operand : (at : ℕ) → at ≤ length s → Reads s (ExprRead d at) p at)
    (at n : ℕ) (h : n ≤ length s)
  where
    negation-reads : 2 + at ≤ n → Reads s (ExprRead (suc d) at) (negation p) n
    unfolding negation expr_size
    negation-reads b = reads_then (operand n h) λ e m k q. done-reads (neg e) k (record { small = small_not q.small; takes = omega arith })

    bracketed-reads : 1 + at ≤ n → Reads s (ExprRead (suc d) at) (bracketed p) n
    unfolding bracketed expr_size
    bracketed-reads k =
        reads_then (operand n h) λ a n₁ h₁ p₁.
        reads_then (the_op-reads s n₁ h₁) λ o n₂ h₂ p₂.
        reads_then (operand n₂ h₂) λ b n₃ h₃ p₃.
        reads_on (the_mark-reads s n₃ h₃ 41) λ _ n₄ h₄ p₄.
        done-reads (bin o a b) h₄ (record { small = small_operator p₁.small p₃.small; takes = omega arith })

    expr_key-reads : 2 + at ≤ n → (k : Key) → Reads s (ExprRead (suc d) at) (expr_key p k) n
    unfolding expr_key expr_size
    expr_key-reads b k_true = done-reads (bool true) h (record { small = small_truth; takes = omega arith })
    expr_key-reads b k_false = done-reads (bool false) h (record { small = small_truth; takes = omega arith })
    expr_key-reads b k_not = negation-reads b
    expr_key-reads b k_ifgoto = nothing-reads
    expr_key-reads b k_return = nothing-reads
    expr_key-reads b k_fail = nothing-reads
    expr_key-reads b k_vanish = nothing-reads
    expr_key-reads b k_and = nothing-reads
    expr_key-reads b k_or = nothing-reads
    expr_key-reads b k_lookup = nothing-reads
    expr_key-reads b k_mutate = nothing-reads
    expr_key-reads b k_dispose = nothing-reads

    expr_word-reads : {size : ℕ} {w : Word} → WordFits size w → at + size ≤ n → Reads s (ExprRead (suc d) at) (expr_word p w) n
    unfolding expr_word expr_size
    expr_word-reads (a_name {w} b) k = done-reads (var w) h (record { small = small_variable; takes = omega arith })
    expr_word-reads (a_number {n = m} b c w) k = done-reads (num m) h (record { small = small_number c; takes = omega arith })
    expr_word-reads (a_key {k = w} b) k = expr_key-reads (omega arith) w
    expr_word-reads (a_u_site b c) k = nothing-reads
    expr_word-reads (an_i_site b c) k = nothing-reads
    expr_word-reads a_fault k = nothing-reads

    expr_from-reads : (t : Token) → at + token_bytes t ≤ n → Reads s (ExprRead (suc d) at) (expr_from p t) n
    unfolding expr_from token_bytes
    expr_from-reads (word w) k = expr_word-reads (word_of-fits w) k
    expr_from-reads (property q) k = nothing-reads
    expr_from-reads becomes k = nothing-reads
    expr_from-reads (mark b) k =
        chosen (λ (r : Reader (Expr Name)). Reads s (ExprRead (suc d) at) r n) (eqb b 40) (λ _. bracketed-reads (omega arith)) (λ _. nothing-reads)
    expr_from-reads ended k = nothing-reads

pub expr_deep-reads : (s : List ℕ) (d at : ℕ) → at ≤ length s → Reads s (ExprRead d at) (expr_deep d) at
unfolding expr_deep nothing
expr_deep-reads s zero at h = nothing-reads
expr_deep-reads s (suc d) at h =
    reads_then (token-reads s at h) λ t n k p.
    expr_from-reads s d (expr_deep d) (λ a b. expr_deep-reads s d a b) at n k t p

pub expr-reads : (s : List ℕ) (at : ℕ) → at ≤ length s → Reads s (ExprRead 8 at) expr at
unfolding expr
expr-reads s at h = expr_deep-reads s 8 at h
