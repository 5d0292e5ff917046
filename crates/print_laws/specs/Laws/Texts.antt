-- The sizes and the texts of a pool's terms, taken from its bytes, are those of document 01's printed form: the sizes say which terms are
-- `large`, and every other term's text, written by recursion, is its text. Operands that do not stand earlier make a term `large` on both
-- sides. Assumes nothing.
use Prim.Native.Nat.{ℕ, zero, suc, ◌+◌, ◌*◌, ◌-◌, ◌≤◌, ◌<◌}
use native.Mathlib.Omega.{arith}
use Rattle.std.proofs.Math.Path.{◌≡◌, refl, ap, ap₂}
use Rattle.std.proofs.Common.{sym, ◌∙◌, take-append-drop, take-suc, length-take-le, get_or-set_same, get_or-set_other}
use Rattle.std.specs.Prelude.{Bool, get_or, set, take, drop, leb}
use Rattle.std.proofs.Math.Bool.{true, false}
use mathlib.Core.List.{List, [], ◌∷◌, ◌++◌, append_assoc, append-nil}
use Rattle.std.proofs.Math.Option.{Option, none, some}
use Rattle.std.proofs.Math.ListN.{length, length-append, length-set, length-replicate, get_or-replicate, get_or-append, get_or-eq_default}
use Rattle.std.proofs.Math.Seq.{take-length}
use Rattle.std.proofs.lemmas.List.{get_or_at}
use Rattle.std.proofs.Math.Dec.{ltb, eqb}
use borrow.Author.Tests.{lt-ltb, le-ltb, leb-true, leb-false, ltb-true, ltb-false, eqb-true, eqb-false}
use Rattle.gil.specs.Text.{bytes}
use Rattle.gil.specs.Numbers.{most_terms, term_length, number_term_tag, not_kind}
use Rattle.gil.specs.Tree.{Op, plus, minus, equal, less, and, or}
use Rattle.gil.specs.Values.{Constant, number, boolean, location, Value, const, term, Node, input, neg, bin}
use Rattle.gil.specs.Pool.{Ref, number_term, boolean_term, place_in, Pool}
use Rattle.gil.specs.Layout.{bit, constant_words, value_words, ref_tag, op_code, node_words, pool_bytes}
use Rattle.gil.specs.Printed.{truth_text, constant_text, op_text, at_most200, not_text, op_texts, value_text, node_text, texts_from, pool_texts, or_large, value_field}
use Rattle.machine_code.specs.WellFormed.{Each}
use Rattle.machine_code.specs.Mirror.{if?}
use Rattle.print_writing.specs.Laws.{decimal-length}
use Rattle.print_values.specs.Mirror.{input_form, truth_form, constant_form, op_form, node_form, value_form}
use Rattle.print_fields.specs.Mirror.{longest, larger, no_sizes, size_at, value_size, node_size, capped, term_size, sizes_to, field_form}
use Rattle.print_values.specs.Laws.{node_not, value_constant, value-node}
use Rattle.print_laws.specs.Laws.Places.{term-word}
use Rattle.lent_words.specs.Mirror.{word_at}
use Rattle.lent_words.specs.Laws.Reads.{Words}

-- constants and operators
unfoldable pub tag_of : Value Ref → ℕ
tag_of v = get_or (value_words ref_tag place_in v) 0 0

unfoldable pub word_of : Value Ref → ℕ
word_of v = get_or (value_words ref_tag place_in v) 1 0

constant_form_lem : (c : Constant) → constant_form (tag_of (const c)) (word_of (const c)) ≡ constant_text c
unfolding tag_of word_of value_words constant_words constant_form truth_form constant_text truth_text bit
constant_form_lem (number n) = refl
constant_form_lem (boolean true) = refl
constant_form_lem (boolean false) = refl
constant_form_lem (location l) = refl

constant_tag : (c : Constant) → tag_of (const c) < number_term_tag
unfolding tag_of value_words constant_words
constant_tag (number n) = omega arith
constant_tag (boolean b) = omega arith
constant_tag (location l) = omega arith

term_tag : (r : Ref) → number_term_tag ≤ tag_of (term r)
unfolding tag_of value_words ref_tag
term_tag (number_term k) = omega arith
term_tag (boolean_term k) = omega arith

constant_length : (c : Constant) → length (constant_text c) ≤ 11
unfolding constant_text truth_text bytes
constant_length (number n) = omega (arith, decimal-length n)
constant_length (boolean true) = omega arith
constant_length (boolean false) = omega arith
constant_length (location l) = omega (arith, decimal-length l)

-- A text's size, `larger` where it is too long; and that a text that is there is at most 200 bytes long
size_of : Option (List ℕ) → ℕ
size_of none = larger
size_of (some t) = length t

pub data Short : Option (List ℕ) → Type 0 where
  large : Short none
  short : {t : List ℕ} → length t ≤ longest → Short (some t)

capped-over : (n : ℕ) → longest < n → capped n ≡ larger
unfolding capped
capped-over n h = simp (lt-ltb longest n h, capped)

capped-under : (n : ℕ) → n ≤ longest → capped n ≡ n
unfolding capped
capped-under n h = simp (le-ltb longest n h, capped)

size-at_most : (t : List ℕ) → capped (length t) ≡ size_of (at_most200 t)
unfolding at_most200 size_of
size-at_most t = by (leb (length t) longest) refl
  where
    by : (d : Bool) → leb (length t) longest ≡ d → capped (length t) ≡ size_of (elim d [ true ↦ some t | false ↦ none ])
    by true e = capped-under (length t) (leb-true (length t) longest e)
    by false e = capped-over (length t) (leb-false (length t) longest e)

short-at_most : (t : List ℕ) → Short (at_most200 t)
unfolding at_most200
short-at_most t = by (leb (length t) longest) refl
  where
    by : (d : Bool) → leb (length t) longest ≡ d → Short (elim d [ true ↦ some t | false ↦ none ])
    by true e = short (leb-true (length t) longest e)
    by false e = large

-- The sizes `ss` are those of the texts `ts`, and these are short
Sizes : List ℕ → List (Option (List ℕ)) → Type 0
Sizes ss ts = (j : ℕ) → size_at ss j ≡ size_of (get_or ts j none)

pub Shorts : List (Option (List ℕ)) → Type 0
Shorts ts = (j : ℕ) → Short (get_or ts j none)

value-size : (ss : List ℕ) (ts : List (Option (List ℕ))) → Sizes ss ts → (v : Value Ref) → value_size ss (tag_of v) (word_of v) ≡ size_of (value_text ts v)
unfolding value_size value_text size_of Sizes tag_of size_at place_in value_words ref_tag word_of
value-size ss ts f (const c) = simp (lt-ltb (tag_of (const c)) number_term_tag (constant_tag c), value_size) (ap length (constant_form_lem c))
value-size ss ts f (term (number_term k)) = f k
value-size ss ts f (term (boolean_term k)) = f k

pub value-short : (ts : List (Option (List ℕ))) → Shorts ts → (v : Value Ref) → Short (value_text ts v)
unfolding value_text Shorts
value-short ts f (const c) = let h : length (constant_text c) ≤ longest = omega (arith, constant_length c) in short h
value-short ts f (term r) = f (place_in r)

-- One more term: its size from its words is the size of its text
words_size : List ℕ → Node Ref → ℕ
words_size ss n =
    node_size ss (get_or (node_words n) 0 0) (get_or (node_words n) 1 0) (get_or (node_words n) 2 0) (get_or (node_words n) 3 0) (get_or (node_words n) 4 0)

pub two_words : (v : Value Ref) → value_words ref_tag place_in v ≡ tag_of v ∷ word_of v ∷ []
unfolding value_words constant_words tag_of word_of
two_words (const (number n)) = refl
two_words (const (boolean b)) = refl
two_words (const (location l)) = refl
two_words (term r) = refl

neg-words : (a : Value Ref) → node_words (neg a) ≡ not_kind ∷ tag_of a ∷ word_of a ∷ 0 ∷ 0 ∷ []
unfolding node_words
neg-words a = simp two_words

bin-words : (o : Op) (a b : Value Ref) → node_words (bin o a b) ≡ op_code o ∷ tag_of a ∷ word_of a ∷ tag_of b ∷ word_of b ∷ []
unfolding node_words
bin-words o a b = simp two_words

op_size : (o : Op) (ss : List ℕ) (t x u y : ℕ)
    → node_size ss (op_code o) t x u y ≡ 2 + value_size ss t x + length (op_text o) + value_size ss u y
unfolding node_size op_code op_form op_text
op_size plus ss t x u y = refl
op_size minus ss t x u y = refl
op_size equal ss t x u y = refl
op_size less ss t x u y = refl
op_size and ss t x u y = refl
op_size or ss t x u y = refl

not_size : (a : Option (List ℕ)) → capped (4 + size_of a) ≡ size_of (not_text a)
unfolding size_of not_text
not_size none = capped-over 205 (omega arith)
not_size (some t) =
    let e : 4 + length t ≡ length (bytes "not " ++ t) = unfold bytes in omega arith in
    ap capped e ∙ size-at_most (bytes "not " ++ t)

bin-size : (o : Op) (a b : Option (List ℕ)) → capped (2 + size_of a + length (op_text o) + size_of b) ≡ size_of (op_texts o a b)
unfolding size_of op_texts
bin-size o none b = capped-over _ (omega arith)
bin-size o (some a) none = capped-over _ (omega arith)
bin-size o (some a) (some b) =
    let e : 2 + length a + length (op_text o) + length b ≡ length (40 ∷ (a ++ op_text o ++ b ++ (41 ∷ []))) =
    simp length-append (omega arith) in
    ap capped e ∙ size-at_most (40 ∷ (a ++ op_text o ++ b ++ (41 ∷ [])))

node-size :
    (ss : List ℕ) (ts : List (Option (List ℕ))) → Sizes ss ts → (n : Node Ref) → capped (words_size ss n) ≡ size_of (node_text ts n)
unfolding words_size node_text
node-size ss ts f (input k) = unfold node_words constant_words node_size size_of in
    let h : length (input_form k) ≤ longest = omega (arith, decimal-length k) in
    capped-under (length (input_form k)) h
node-size ss ts f (neg a) =
    simp neg-words
    (unfold node_size in ap (λ (n : ℕ). capped (4 + n)) (value-size ss ts f a) ∙ not_size (value_text ts a))
node-size ss ts f (bin o a b) =
    simp bin-words
    (ap capped
    (op_size o ss (tag_of a) (word_of a) (tag_of b) (word_of b)
    ∙ ap₂ (λ (x y : ℕ). 2 + x + length (op_text o) + y) (value-size ss ts f a) (value-size ss ts f b))
    ∙ bin-size o (value_text ts a) (value_text ts b))

node-short : (ts : List (Option (List ℕ))) (n : Node Ref) → Short (node_text ts n)
unfolding node_text not_text op_texts
node-short ts (input k) = let h : length (input_form k) ≤ longest = omega (arith, decimal-length k) in short h
node-short ts (neg a) = by (value_text ts a)
  where
    by : (o : Option (List ℕ)) → Short (not_text o)
    by none = large
    by (some t) = short-at_most (bytes "not " ++ t)
node-short ts (bin o a b) = by (value_text ts a) (value_text ts b)
  where
    by : (x y : Option (List ℕ)) → Short (op_texts o x y)
    by none y = large
    by (some s) none = large
    by (some s) (some t) = short-at_most (40 ∷ (s ++ op_text o ++ t ++ (41 ∷ [])))

-- Texts front to back: one term more
texts_snoc :
    (ts : List (Option (List ℕ))) (ns : Pool) (n : Node Ref)
    → texts_from ts (ns ++ (n ∷ [])) ≡ texts_from ts ns ++ (node_text (texts_from ts ns) n ∷ [])
unfolding texts_from
texts_snoc ts [] n = refl
texts_snoc ts (m ∷ ns) n = texts_snoc (ts ++ (node_text ts m ∷ [])) ns n

texts_append : (ts : List (Option (List ℕ))) (a b : Pool) → texts_from ts (a ++ b) ≡ texts_from (texts_from ts a) b
unfolding texts_from
texts_append ts [] b = refl
texts_append ts (m ∷ a) b = texts_append (ts ++ (node_text ts m ∷ [])) a b

texts_length : (ts : List (Option (List ℕ))) (ns : Pool) → length (texts_from ts ns) ≡ length ts + length ns
unfolding texts_from
texts_length ts [] = omega arith
texts_length ts (m ∷ ns) = texts_length (ts ++ (node_text ts m ∷ [])) ns ∙ simp length-append (omega arith)

texts_more : (ts : List (Option (List ℕ))) (ns : Pool) → (l : List (Option (List ℕ))) × (texts_from ts ns ≡ ts ++ l)
unfolding texts_from
texts_more ts [] = ([], sym (append-nil ts))
texts_more ts (m ∷ ns) =
    let x = texts_more (ts ++ (node_text ts m ∷ [])) ns in
    (node_text ts m ∷ x.0, x.1 ∙ append_assoc ts (node_text ts m ∷ []) x.0)

-- the texts of the first k terms
first_texts : Pool → ℕ → List (Option (List ℕ))
first_texts w k = texts_from [] (take k w)

node_at : Pool → ℕ → Node Ref
node_at w k = get_or w k (input 0)

first-length : (w : Pool) (k : ℕ) → k ≤ length w → length (first_texts w k) ≡ k
unfolding first_texts
first-length w k h = texts_length [] (take k w) ∙ simp (length-take-le k w h) (omega arith)

first_more : (w : Pool) (k : ℕ) → k < length w → first_texts w (suc k) ≡ first_texts w k ++ (node_text (first_texts w k) (node_at w k) ∷ [])
unfolding first_texts node_at
first_more w k h = ap (texts_from []) (take-suc w k (input 0) h) ∙ texts_snoc [] (take k w) (get_or w k (input 0))

first-front : (w : Pool) (k : ℕ) → (l : List (Option (List ℕ))) × (pool_texts w ≡ first_texts w k ++ l)
unfolding first_texts pool_texts
first-front w k =
    let x = texts_more (texts_from [] (take k w)) (drop k w) in
    (x.0, ap (texts_from []) (sym (take-append-drop k w)) ∙ texts_append [] (take k w) (drop k w) ∙ x.1)

-- text k of the pool
text_at : (w : Pool) (k : ℕ) → k < length w → get_or (pool_texts w) k none ≡ node_text (first_texts w k) (node_at w k)
text_at w k h =
    let x = first-front w (suc k) in
    let g : k ≤ length w = omega arith in
    ap (λ (l : List (Option (List ℕ))). get_or l k none)
    (x.1 ∙ ap (λ (l : List (Option (List ℕ))). l ++ x.0) (first_more w k h)
    ∙ append_assoc (first_texts w k) (node_text (first_texts w k) (node_at w k) ∷ []) x.0)
    ∙ get_or_at (first_texts w k) (node_text (first_texts w k) (node_at w k)) x.0 none k (first-length w k g)

-- an element more at the end of a list
module _ (ts : List (Option (List ℕ))) (t : Option (List ℕ)) (k : ℕ) (e : length ts ≡ k) where
  snoc_same : get_or (ts ++ (t ∷ [])) k none ≡ t
  snoc_same = get_or_at ts t [] none k e

  snoc_other : (j : ℕ) → (j ≡ k → ⊥) → get_or (ts ++ (t ∷ [])) j none ≡ get_or ts j none
  snoc_other j n = by (ltb j k) refl
    where
      by : (d : Bool) → ltb j k ≡ d → get_or (ts ++ (t ∷ [])) j none ≡ get_or ts j none
      by true h = let i : j < length ts = omega (arith, ltb-true j k h) in get_or-append ts (t ∷ []) none j i
      by false h =
          let g : k ≤ j = ltb-false j k h in
          let a : length (ts ++ (t ∷ [])) ≤ j = simp length-append (omega arith) in
          let b : length ts ≤ j = omega arith in
          get_or-eq_default (ts ++ (t ∷ [])) none a ∙ sym (get_or-eq_default ts none b)

  shorts-more : Shorts ts → Short t → Shorts (ts ++ (t ∷ []))
  unfolding Shorts
  shorts-more f s j = by (eqb j k) refl
    where
      by : (d : Bool) → eqb j k ≡ d → Short (get_or (ts ++ (t ∷ [])) j none)
      by true h = rw (eqb-true j k h, snoc_same) s
      by false h = rw (snoc_other j (eqb-false j k h)) (f j)

  sizes-more : (ss : List ℕ) (s : ℕ) → Sizes ss ts → s ≡ size_of t → length ss ≡ most_terms → k < most_terms → Sizes (set ss k s) (ts ++ (t ∷ []))
  unfolding Sizes size_at
  sizes-more ss s f g l h j = by (eqb j k) refl
    where
      by : (d : Bool) → eqb j k ≡ d → size_at (set ss k s) j ≡ size_of (get_or (ts ++ (t ∷ [])) j none)
      by true i =
          let m : k < length ss = omega arith in
          rw (eqb-true j k i, snoc_same)
          (simp (lt-ltb k most_terms h, size_at) (get_or-set_same ss k s 0 m ∙ g))
      by false i =
          ap (λ (n : ℕ). if? (ltb j most_terms) n larger) (get_or-set_other ss k j s 0 (eqb-false j k i))
          ∙ f j
          ∙ ap size_of (sym (snoc_other j (eqb-false j k i)))

-- a term's text, taken apart
data NodeIs (ts : List (Option (List ℕ))) : Node Ref → List ℕ → Type 0 where
  is_input : {k : ℕ} → NodeIs ts (input k) (input_form k)
  is_not : {a : Value Ref} {s : List ℕ} → value_text ts a ≡ some s → NodeIs ts (neg a) (bytes "not " ++ s)
  is_op :
      {o : Op} {a b : Value Ref} {s u : List ℕ} → value_text ts a ≡ some s → value_text ts b ≡ some u
      → NodeIs ts (bin o a b) (40 ∷ (s ++ op_text o ++ u ++ (41 ∷ [])))

not_none : {A : Type 0} {t : List ℕ} → none ≡ some t → A
not_none e = let z : ◌≡◌ {A = ℕ} 0 1 = cc in absurd (omega arith)

same_some : {s t : List ℕ} → some s ≡ some t → s ≡ t
same_some e = cc

at-most-is : (s t : List ℕ) → at_most200 s ≡ some t → s ≡ t
unfolding at_most200
at-most-is s t = by (leb (length s) longest)
  where
    by : (d : Bool) → ◌≡◌ {A = Option (List ℕ)} (elim d [ true ↦ some s | false ↦ none ]) (some t) → s ≡ t
    by true e = same_some e
    by false e = not_none e

node-is : (ts : List (Option (List ℕ))) (n : Node Ref) (t : List ℕ) → node_text ts n ≡ some t → NodeIs ts n t
unfolding node_text not_text op_texts
node-is ts (input k) t e = rw (← same_some e) is_input
node-is ts (neg a) t e = by (value_text ts a) refl e
  where
    by : (x : Option (List ℕ)) → value_text ts a ≡ x → not_text x ≡ some t → NodeIs ts (neg a) t
    by none f g = not_none g
    by (some s) f g = rw (← at-most-is (bytes "not " ++ s) t g) (is_not f)
node-is ts (bin o a b) t e = by (value_text ts a) (value_text ts b) refl refl e
  where
    by : (x y : Option (List ℕ)) → value_text ts a ≡ x → value_text ts b ≡ y → op_texts o x y ≡ some t → NodeIs ts (bin o a b) t
    by none y f g h = not_none h
    by (some s) none f g h = not_none h
    by (some s) (some u) f g h = rw (← at-most-is (40 ∷ (s ++ op_text o ++ u ++ (41 ∷ []))) t h) (is_op f g)

-- a text among the first is the same among all
get_d_front : (a l : List (Option (List ℕ))) (j : ℕ) (t : List ℕ) → get_or a j none ≡ some t → get_or (a ++ l) j none ≡ some t
get_d_front [] l j t e = not_none e
get_d_front (x ∷ a) l zero t e = e
get_d_front (x ∷ a) l (suc j) t e = get_d_front a l j t e

value-all : (w : Pool) (k : ℕ) (v : Value Ref) (t : List ℕ) → value_text (first_texts w k) v ≡ some t → value_text (pool_texts w) v ≡ some t
unfolding value_text
value-all w k (const c) t e = e
value-all w k (term r) t e =
    let x = first-front w k in
    ap (λ (l : List (Option (List ℕ))). get_or l (place_in r) none) x.1 ∙ get_d_front (first_texts w k) x.0 (place_in r) t e

there : (w : Pool) (k : ℕ) (t : List ℕ) → get_or (pool_texts w) k none ≡ some t → k < length w
unfolding pool_texts
there w k t e = by (ltb k (length w)) refl
  where
    by : (d : Bool) → ltb k (length w) ≡ d → k < length w
    by true h = ltb-true k (length w) h
    by false h =
        let g : length w ≤ k = ltb-false k (length w) h in
        let i : length (texts_from [] w) ≤ k = omega (arith, texts_length [] w) in
        not_none (sym (get_or-eq_default (texts_from [] w) none i) ∙ e)

op_node :
    (f : ℕ → ℕ → List ℕ) (o : Op) (t x u y : ℕ)
    → node_form f (op_code o) t x u y ≡ 40 ∷ (f t x ++ op_text o ++ f u y ++ (41 ∷ []))
unfolding node_form op_code op_form op_text
op_node f plus t x u y = refl
op_node f minus t x u y = refl
op_node f equal t x u y = refl
op_node f less t x u y = refl
op_node f and t x u y = refl
op_node f or t x u y = refl

-- The pool's bytes, and something after them
module _ (w : Pool) (rest : List ℕ) (few : length w ≤ most_terms) (fits : Each (λ (n : Node Ref). Words (node_words n)) w) where
  abbrev pool : List ℕ
  pool = pool_bytes w ++ rest

  word : (k j at : ℕ) → k < length w → j < 5 → at ≡ term_length * k + 4 * j → word_at pool at ≡ get_or (node_words (node_at w k)) j 0
  unfolding node_at
  word k j at h i e = term-word w rest k j at fits h i e

  sizes_length : (ss : List ℕ) (k : ℕ) → length (sizes_to pool ss k) ≡ length ss
  unfolding sizes_to
  sizes_length ss zero = refl
  sizes_length ss (suc k) = length-set (sizes_to pool ss k) k (term_size pool (sizes_to pool ss k) k) ∙ sizes_length ss k

  term-size : (ss : List ℕ) (k : ℕ) → k < length w → Sizes ss (first_texts w k) → term_size pool ss k ≡ size_of (node_text (first_texts w k) (node_at w k))
  unfolding term_size words_size
  term-size ss k h f =
      simp (word k 0 (term_length * k) h (omega arith) (omega arith), word k 1 (term_length * k + 4) h (omega arith) (omega arith), word k 2 (term_length * k + 8) h (omega arith) (omega arith), word k 3 (term_length * k + 12) h (omega arith) (omega arith), word k 4 (term_length * k + 16) h (omega arith) (omega arith))
      (node-size ss (first_texts w k) f (node_at w k))

  no-sizes : Sizes no_sizes (first_texts w 0)
  unfolding Sizes size_at first_texts texts_from size_of
  no-sizes j = by (ltb j most_terms) refl
    where
      by : (d : Bool) → ltb j most_terms ≡ d → ◌≡◌ {A = ℕ} (if? d (get_or no_sizes j 0) larger) larger
      by true h = get_or-replicate most_terms j larger 0 (ltb-true j most_terms h)
      by false h = refl

  no-shorts : Shorts (first_texts w 0)
  unfolding Shorts first_texts texts_from
  no-shorts j = large

  first-sizes : (k : ℕ) → k ≤ length w → Sizes (sizes_to pool no_sizes k) (first_texts w k)
  unfolding sizes_to
  first-sizes zero h = no-sizes
  first-sizes (suc k) h =
      let i : k < length w = omega arith in
      let g : k ≤ length w = omega arith in
      let f : Sizes (sizes_to pool no_sizes k) (first_texts w k) = first-sizes k g in
      let l : length (sizes_to pool no_sizes k) ≡ most_terms = sizes_length no_sizes k ∙ length-replicate {A = ℕ} most_terms larger in
      rw (first_more w k i)
      (sizes-more (first_texts w k) (node_text (first_texts w k) (node_at w k)) k (first-length w k g) (sizes_to pool no_sizes k)
      (term_size pool (sizes_to pool no_sizes k) k) f (term-size (sizes_to pool no_sizes k) k i f) l (omega arith))

  first-shorts : (k : ℕ) → k ≤ length w → Shorts (first_texts w k)
  first-shorts zero h = no-shorts
  first-shorts (suc k) h =
      let i : k < length w = omega arith in
      let g : k ≤ length w = omega arith in
      rw (first_more w k i)
      (shorts-more (first_texts w k) (node_text (first_texts w k) (node_at w k)) k (first-length w k g) (first-shorts k g)
      (node-short (first_texts w k) (node_at w k)))

  all_texts : first_texts w (length w) ≡ pool_texts w
  unfolding first_texts pool_texts
  all_texts = ap (texts_from []) (take-length w)

  pool-sizes : Sizes (sizes_to pool no_sizes (length w)) (pool_texts w)
  pool-sizes = rw (← all_texts) (first-sizes (length w) (omega arith))

  pub pool-shorts : Shorts (pool_texts w)
  pool-shorts = rw (← all_texts) (first-shorts (length w) (omega arith))

  -- a text of at most d bytes is written with operators at most d deep
  abbrev Written : ℕ → Value Ref → List ℕ → Type 0
  Written d v t = value_form pool d (tag_of v) (word_of v) ≡ t

  node-written :
      (d k : ℕ) {n : Node Ref} {t : List ℕ} → ((v : Value Ref) (s : List ℕ) → value_text (pool_texts w) v ≡ some s → length s ≤ d → Written d v s)
      → NodeIs (first_texts w k) n t → length t ≤ suc d
      → node_form (value_form pool d) (get_or (node_words n) 0 0) (get_or (node_words n) 1 0) (get_or (node_words n) 2 0) (get_or (node_words n) 3 0) (get_or (node_words n) 4 0) ≡ t
  node-written d k f (is_input {k = i}) h = unfold node_words constant_words node_form in refl
  node-written d k f (is_not {a} {s} e) h =
      let i : length s ≤ d = unfold bytes in omega arith in
      simp neg-words
      (node_not (value_form pool d) not_kind (tag_of a) (word_of a) 0 0 refl ∙ ap (λ (l : List ℕ). bytes "not " ++ l) (f a s (value-all w k a s e) i))
  node-written d k f (is_op {o} {a} {b} {s} {u} e g) h =
      let l : length (s ++ op_text o ++ u ++ (41 ∷ [])) ≡ length s + length (op_text o) + length u + 1 = simp length-append (omega arith) in
      let i : length s ≤ d = omega arith in
      let j : length u ≤ d = omega arith in
      simp bin-words
      (op_node (value_form pool d) o (tag_of a) (word_of a) (tag_of b) (word_of b)
      ∙ ap₂ (λ (x y : List ℕ). 40 ∷ (x ++ op_text o ++ y ++ (41 ∷ []))) (f a s (value-all w k a s e) i) (f b u (value-all w k b u g) j))

  node-long : {ts : List (Option (List ℕ))} {n : Node Ref} {t : List ℕ} → NodeIs ts n t → 1 ≤ length t
  unfolding bytes
  node-long is_input = omega arith
  node-long (is_not e) = omega arith
  node-long (is_op e f) = omega arith

  constant_written : (d : ℕ) (c : Constant) (t : List ℕ) → some (constant_text c) ≡ some t → Written d (const c) t
  constant_written d c t e =
      value_constant pool d (tag_of (const c)) (word_of (const c)) (constant_tag c) ∙ constant_form_lem c ∙ same_some e

  word_of_term : (r : Ref) → word_of (term r) ≡ place_in r
  unfolding word_of value_words
  word_of_term r = refl

  value_written : (d : ℕ) (v : Value Ref) (t : List ℕ) → value_text (pool_texts w) v ≡ some t → length t ≤ d → Written d v t
  unfolding value_text
  value_written zero (const c) t e h = constant_written 0 c t e
  value_written zero (term r) t e h =
      let k : ℕ = place_in r in
      let i : k < length w = there w k t e in
      let x = node-is (first_texts w k) (node_at w k) t (sym (text_at w k i) ∙ e) in
      absurd (omega (arith, node-long x))
  value_written (suc d) (const c) t e h = constant_written (suc d) c t e
  value_written (suc d) (term r) t e h =
      let k : ℕ = place_in r in
      let i : k < length w = there w k t e in
      let x = node-is (first_texts w k) (node_at w k) t (sym (text_at w k i) ∙ e) in
      let z : suc d ≡ 0 → ⊥ = λ q. omega arith in
      let s : suc d - 1 ≡ d = omega arith in
      ap (value_form pool (suc d) (tag_of (term r))) (word_of_term r)
      ∙ value-node pool (suc d) (tag_of (term r)) k (term_tag r) z (sym (word k 0 (term_length * k) i (omega arith) (omega arith)))
      (sym (word k 1 (term_length * k + 4) i (omega arith) (omega arith))) (sym (word k 2 (term_length * k + 8) i (omega arith) (omega arith)))
      (sym (word k 3 (term_length * k + 12) i (omega arith) (omega arith))) (sym (word k 4 (term_length * k + 16) i (omega arith) (omega arith)))
      ∙ ap (λ (m : ℕ). node_form (value_form pool m) (get_or (node_words (node_at w k)) 0 0) (get_or (node_words (node_at w k)) 1 0) (get_or (node_words (node_at w k)) 2 0) (get_or (node_words (node_at w k)) 3 0) (get_or (node_words (node_at w k)) 4 0)) s
      ∙ node-written d k (value_written d) x h

  -- a field: the value's text, or `large`
  field_of :
      (ss : List ℕ) (v : Value Ref) (o : Option (List ℕ)) → value_text (pool_texts w) v ≡ o → Short o
      → value_size ss (tag_of v) (word_of v) ≡ size_of o → field_form pool ss (tag_of v) (word_of v) ≡ or_large o
  unfolding field_form size_of or_large
  field_of ss v none e large g = simp (g, field_form)
  field_of ss v (some t) e (short h) g = simp (g, le-ltb longest (length t) h, field_form) (value_written longest v t e h)

  pub field-form : (v : Value Ref) → field_form pool (sizes_to pool no_sizes (length w)) (tag_of v) (word_of v) ≡ value_field (pool_texts w) v
  unfolding value_field
  field-form v =
      field_of (sizes_to pool no_sizes (length w)) v (value_text (pool_texts w) v) refl (value-short (pool_texts w) pool-shorts v)
      (value-size (sizes_to pool no_sizes (length w)) (pool_texts w) pool-sizes v)
