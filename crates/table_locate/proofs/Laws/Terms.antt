-- The pool read from its bytes: a sound term's value, worked out on its words, is the word of document 01's value of it. Assumes nothing.
use Rattle.std.specs.Prelude.{ℕ, ◌+◌, ◌*◌, ◌-◌, ◌%◌, ◌≤◌, ◌<◌, ◌≢◌, ◌≡◌, Bool, true, false, get_or, replicate, ltb, eqb}
use Rattle.std.proofs.Common.{arith, ◌∙◌, length-set, get_or-set_same, get_or-set_other, lt-ltb, ltb-true, ltb-false}
use Rattle.std.proofs.Math.Path.{refl, sym, ap, subst}
use mathlib.Core.List.{List, [], ◌∷◌, ◌++◌, append_assoc, append-nil}
use Rattle.std.proofs.Math.ListN.{length, set, length-append, length-replicate, get_or-append}
use Rattle.std.proofs.Math.Seq.{get_or-append_seam}
use Rattle.gil.specs.Numbers.{most_terms, term_length, pool_length, inputs_length}
use Rattle.gil.specs.Tree.{Op, plus, minus, equal, less, and, or}
use Rattle.gil.specs.Names.{gather}
use Rattle.gil.specs.Values.{Constant, number, boolean, location, Sort, numbers, booleans, sort_of, truth_in, same_truth, work, work_not, Value, const, term, Node, input, neg, bin, op_gives_number, gives_number}
use Rattle.gil.specs.Pool.{Ref, number_term, boolean_term, ref_sort, place_in, ref_to, Pool, value_of, node_value, values_from, pool_values}
use Rattle.gil.specs.Layout.{word_bytes, room, bit, constant_words, value_words, ref_tag, op_code, node_words, node_bytes, pool_bytes, input_words}
use Rattle.machine_code.specs.Code.{op_word}
use Rattle.machine_values.specs.Mirror.{truth_word, work_word}
use Rattle.lent_words.specs.Mirror.{word_at}
use Rattle.lent_words.specs.Laws.Reads.{Words, none, more, word_at-words}
use Rattle.lent_words.specs.Laws.Rooms.{words_append}
use Rattle.lent_words.specs.Laws.Row.{node-five, nodes-long}
use Rattle.gil.proofs.Theory.Gathered.{gather_append}
use Rattle.machine_values.specs.Laws.{ConstAs, a_number, a_truth, a_location, low-number, low-location, low-truth, work_law, not_law}
use Rattle.table_locate.specs.Mirror.{value_word, operand_word, op_value, input_value, term_of, term_value, values_to}
use Rattle.table_locate.specs.Steps.{values_more, values_start}
use Rattle.table_locate.specs.Laws.Sound.{value_sort, RefFits, ValueFits, fits_number, fits_truth, fits_location, fits_term, NodeFits, fits_input, fits_not, fits_op, TermsFit, no_term, next_term}
use Rattle.table_locate.specs.Laws.Inputs.{Bytes, input-word, input-small}

-- Words and lengths of the parts of a table
pub bit-small : (b : Bool) → bit b < 4294967296
unfolding bit
bit-small true = omega arith
bit-small false = omega arith

tag_small : (r : Ref) → ref_tag r < 4294967296
unfolding ref_tag
tag_small (number_term k) = omega arith
tag_small (boolean_term k) = omega arith

-- the two words of a value
pub value-words : {w : Pool} {v : Value Ref} → length w ≤ most_terms → ValueFits w v → Words (value_words ref_tag place_in v)
unfolding value_words constant_words
value-words h (fits_number f) = more {w = 1} (omega arith) (more f none)
value-words h (fits_truth {b}) = more {w = 2} (omega arith) (more (bit-small b) none)
value-words h (fits_location {l} f) = more {w = 3} (omega arith) (more {w = l} (omega arith) none)
value-words h (fits_term {r} f) = more (tag_small r) (more {w = place_in r} (omega (arith, f.there)) none)

op_code-small : (o : Op) → op_code o < 4294967296
unfolding op_code
op_code-small plus = omega arith
op_code-small minus = omega arith
op_code-small equal = omega arith
op_code-small less = omega arith
op_code-small and = omega arith
op_code-small or = omega arith

two_zeros : Words (0 ∷ 0 ∷ [])
two_zeros = more {w = 0} (omega arith) (more {w = 0} (omega arith) none)

-- a term's five words
pub node-words : {w : Pool} {n : Node Ref} → length w ≤ most_terms → NodeFits w n → Words (node_words n)
unfolding node_words constant_words
node-words h (fits_input {k} f) = more {w = 1} (omega arith) (more {w = 1} (omega arith) (more {w = k} (omega arith) two_zeros))
node-words h (fits_not f e) = more {w = 2} (omega arith) (words_append (value-words h f) two_zeros)
node-words h (fits_op {o} f g e) = more (op_code-small o) (words_append (value-words h f) (value-words h g))

-- word j of the term after those before
pub node-word :
    (before terms : Pool) (n : Node Ref) (rest : List ℕ) (at j : ℕ)
    → length before ≤ most_terms
    → NodeFits before n
    → j < 5
    → at ≡ term_length * length before + 4 * j
    → word_at (pool_bytes (before ++ n ∷ terms) ++ rest) at ≡ get_or (node_words n) j 0
unfolding pool_bytes room gather node_bytes
node-word before terms n rest at j h f few e =
    let a : List ℕ = gather node_bytes before in
    let z : List ℕ = replicate (pool_length - length (gather node_bytes (before ++ n ∷ terms))) 0 in
    let g : j < length (node_words n) = rw node-five few in
    let i : at ≡ length a + 4 * j = rw nodes-long e in
    let p : pool_bytes (before ++ n ∷ terms) ++ rest ≡ a ++ (gather word_bytes (node_words n) ++ (gather node_bytes terms ++ (z ++ rest))) =
    ap (λ (l : List ℕ). (l ++ z) ++ rest) (gather_append node_bytes before (n ∷ terms)) ∙ simp append_assoc in
    rw (p, i) (word_at-words a (gather node_bytes terms ++ (z ++ rest)) j (node-words h f) g)

-- An operand's word is that of its constant
same_bits : (d b : Bool) → eqb (bit d) (bit b) ≡ same_truth b d
unfolding bit same_truth
same_bits true true = refl
same_bits true false = refl
same_bits false true = refl
same_bits false false = refl

unfoldable pub sort_made : Bool → Sort
sort_made true = numbers
sort_made false = booleans

ref_sort_lem : (b : Bool) (k : ℕ) → ref_sort (ref_to b k) ≡ sort_made b
unfolding ref_sort ref_to sort_made
ref_sort_lem true k = refl
ref_sort_lem false k = refl

-- the value of a term: its word, and the sort of its node
pub record TermAs (n : Node Ref) (c : Constant) (x : ℕ) : Type 0 where
  pub is : ConstAs c x
  pub sort : sort_of c ≡ sort_made (gives_number n)

-- the values of the terms so far, as constants and as words
pub record ValuesAs (before : Pool) (cs : List Constant) (vs : List ℕ) : Type 0 where
  pub count : length cs ≡ length before
  pub few : length before ≤ most_terms
  pub wide : length vs ≡ most_terms
  pub each : (k : ℕ) → k < length before → TermAs (get_or before k (input 0)) (get_or cs k (boolean false)) (get_or vs k 0)

record OperandAs (v : Value Ref) (c : Constant) (x : ℕ) : Type 0 where
  packed : ℕ
  is : ConstAs c packed
  low : x ≡ packed % 4294967296
  sort : sort_of c ≡ value_sort v

value-at : (vs : List ℕ) (k : ℕ) → k < most_terms → value_word vs k ≡ get_or vs k 0 % 4294967296
unfolding value_word
value-at vs k h = simp (lt-ltb k most_terms h)

operand-term : (vs : List ℕ) (r : Ref) → operand_word vs (ref_tag r) (place_in r) ≡ value_word vs (place_in r)
unfolding operand_word ref_tag
operand-term vs (number_term k) = refl
operand-term vs (boolean_term k) = refl

operand_as :
    {before : Pool} {cs : List Constant} {vs : List ℕ} {v : Value Ref} → ValuesAs before cs vs → ValueFits before v
    → OperandAs v (value_of cs v) (operand_word vs (get_or (value_words ref_tag place_in v) 0 0) (get_or (value_words ref_tag place_in v) 1 0))
unfolding value_words constant_words value_of value_sort operand_word
operand_as a (fits_number {n} h) = record { packed = 4294967296 + n; is = a_number h; low = sym (low-number n h); sort = refl }
operand_as a (fits_truth {b}) = record { packed = truth_word b; is = a_truth; low = sym (low-truth b); sort = refl }
operand_as a (fits_location {l} h) =
    let f : l < 4294967296 = omega arith in
    record { packed = 12884901888 + l; is = a_location f; low = sym (low-location l f); sort = refl }
operand_as {before} {cs} {vs} a (fits_term {r} f) =
    let t : TermAs (get_or before (place_in r) (input 0)) (get_or cs (place_in r) (boolean false)) (get_or vs (place_in r) 0) =
    a.each (place_in r) f.there in
    let k : place_in r < most_terms = omega (arith, f.there, a.few) in
    record {
      packed = get_or vs (place_in r) 0;
      is = t.is;
      low = operand-term vs r ∙ value-at vs (place_in r) k;
      sort = t.sort ∙ sym (ap ref_sort f.sort ∙ ref_sort_lem _ _);
    }

-- the two words of a value, by name
unfoldable pub tag_of : Value Ref → ℕ
tag_of v = get_or (value_words ref_tag place_in v) 0 0

unfoldable pub word_of : Value Ref → ℕ
word_of v = get_or (value_words ref_tag place_in v) 1 0

pub two_words : (v : Value Ref) (l : List ℕ) → value_words ref_tag place_in v ++ l ≡ tag_of v ∷ word_of v ∷ l
unfolding tag_of word_of value_words constant_words
two_words (const (number n)) l = refl
two_words (const (boolean b)) l = refl
two_words (const (location k)) l = refl
two_words (term r) l = refl

-- a term's value from its words
term_in : (inputs vs ws : List ℕ) → ℕ
term_in inputs vs ws = term_of inputs vs (get_or ws 0 0) (get_or ws 1 0) (get_or ws 2 0) (get_or ws 3 0) (get_or ws 4 0)

term-input : (inputs vs : List ℕ) (k : ℕ) → term_in inputs vs (node_words (input k)) ≡ 4294967296 + word_at inputs (4 * k)
unfolding node_words constant_words term_in term_of input_value
term-input inputs vs k = refl

term_not :
    (inputs vs : List ℕ) (a : Value Ref) → term_in inputs vs (node_words (neg a)) ≡ truth_word (eqb (operand_word vs (tag_of a) (word_of a)) 0)
unfolding node_words term_in term_of op_value
term_not inputs vs a = ap (λ (l : List ℕ). term_in inputs vs (2 ∷ l)) (two_words a (0 ∷ 0 ∷ []))

op_words :
    (o : Op) (inputs vs : List ℕ) (t x u y : ℕ)
    → term_of inputs vs (op_code o) t x u y ≡ work_word (op_word o) (operand_word vs t x) (operand_word vs u y)
unfolding term_of op_value op_code op_word
op_words plus inputs vs t x u y = refl
op_words minus inputs vs t x u y = refl
op_words equal inputs vs t x u y = refl
op_words less inputs vs t x u y = refl
op_words and inputs vs t x u y = refl
op_words or inputs vs t x u y = refl

term_op :
    (inputs vs : List ℕ) (o : Op) (a b : Value Ref)
    → term_in inputs vs (node_words (bin o a b))
    ≡ work_word (op_word o) (operand_word vs (tag_of a) (word_of a)) (operand_word vs (tag_of b) (word_of b))
unfolding node_words term_in
term_op inputs vs o a b =
    ap (λ (l : List ℕ). term_in inputs vs (op_code o ∷ l))
    (ap (λ (l : List ℕ). value_words ref_tag place_in a ++ l) (sym (append-nil (value_words ref_tag place_in b)) ∙ two_words b [])
    ∙ two_words a (tag_of b ∷ word_of b ∷ []))
    ∙ op_words o inputs vs (tag_of a) (word_of a) (tag_of b) (word_of b)

not_as : {c : Constant} {x : ℕ} → ConstAs c x → sort_of c ≡ booleans → ConstAs (work_not c) (truth_word (eqb (x % 4294967296) 0))
unfolding sort_of
not_as (a_number h) e = let z : ◌≡◌ {A = ℕ} 0 1 = cc in absurd (omega arith)
not_as (a_truth {b}) e = not_law b
not_as (a_location h) e = let z : ◌≡◌ {A = ℕ} 0 1 = cc in absurd (omega arith)

work-sort : (o : Op) (a b : Constant) → sort_of (work o a b) ≡ sort_made (op_gives_number o)
unfolding work sort_of sort_made op_gives_number
work-sort plus a b = refl
work-sort minus a b = refl
work-sort equal a b = refl
work-sort less a b = refl
work-sort and a b = refl
work-sort or a b = refl

-- one term more
step_as :
    {before : Pool} {cs : List Constant} {vs : List ℕ} {n : Node Ref} {c : Constant} {x : ℕ}
    → ValuesAs before cs vs
    → length before < most_terms
    → TermAs n c x
    → ValuesAs (before ++ (n ∷ [])) (cs ++ (c ∷ [])) (set vs (length before) x)
step_as {before} {cs} {vs} {n} {c} {x} a h t =
    let count : _ ≡ _ = a.count in
    record {
      count = simp length-append (omega arith);
      few = simp length-append (omega arith);
      wide = length-set vs (length before) x ∙ a.wide;
      each = λ k g. at k g (ltb k (length before)) refl;
    }
  where
    At : ℕ → Type 0
    At k = TermAs (get_or (before ++ (n ∷ [])) k (input 0)) (get_or (cs ++ (c ∷ [])) k (boolean false)) (get_or (set vs (length before) x) k 0)

    last : (k : ℕ) → k ≡ length before → At k
    last k e =
        rw (e, get_or-append_seam before n [] (input 0), get_or-set_same vs (length before) x 0 (rw a.wide h))
        (rw (← a.count, get_or-append_seam cs c [] (boolean false)) t)

    at : (k : ℕ) → k < length (before ++ (n ∷ [])) → (b : Bool) → ltb k (length before) ≡ b → At k
    at k f true e =
        let i : k < length before = ltb-true k (length before) e in
        let j : k < length cs = omega (arith, a.count) in
        let d : k ≢ length before = omega arith in
        rw (get_or-append before (n ∷ []) (input 0) k i, get_or-append cs (c ∷ []) (boolean false) k j, get_or-set_other vs (length before) k x 0 d)
        (a.each k i)
    at k f false e =
        let i : length before ≤ k = ltb-false k (length before) e in
        let g : k < length before + 1 = rw length-append at f in
        last k (omega arith)

-- the five words of the term after those before, read from the pool
term-value :
    (before terms : Pool) (n : Node Ref) (rest inputs vs : List ℕ)
    → length before ≤ most_terms
    → NodeFits before n
    → term_value (pool_bytes (before ++ n ∷ terms) ++ rest) inputs vs (length before) ≡ term_in inputs vs (node_words n)
unfolding term_value term_in
term-value before terms n rest inputs vs h f =
    let k : ℕ = length before in
    let p : List ℕ = pool_bytes (before ++ n ∷ terms) ++ rest in
    let word : (at j : ℕ) → j < 5 → at ≡ term_length * k + 4 * j → word_at p at ≡ get_or (node_words n) j 0 =
    λ at j few e. node-word before terms n rest at j h f few e in
    let e0 : word_at p (term_length * k) ≡ get_or (node_words n) 0 0 = word (term_length * k) 0 (omega arith) (omega arith) in
    let e1 : word_at p (term_length * k + 4) ≡ get_or (node_words n) 1 0 = word (term_length * k + 4) 1 (omega arith) (omega arith) in
    let e2 : word_at p (term_length * k + 8) ≡ get_or (node_words n) 2 0 = word (term_length * k + 8) 2 (omega arith) (omega arith) in
    let e3 : word_at p (term_length * k + 12) ≡ get_or (node_words n) 3 0 = word (term_length * k + 12) 3 (omega arith) (omega arith) in
    let e4 : word_at p (term_length * k + 16) ≡ get_or (node_words n) 4 0 = word (term_length * k + 16) 4 (omega arith) (omega arith) in
    cc

module _ (inputs : List ℕ) (long : length inputs ≡ inputs_length) (bytes : Bytes inputs) where
  -- a sound term's value
  term_as_lem :
      {before : Pool} {cs : List Constant} {vs : List ℕ} {n : Node Ref} → ValuesAs before cs vs → NodeFits before n
      → TermAs n (node_value (input_words inputs) cs n) (term_in inputs vs (node_words n))
  unfolding node_value gives_number sort_of sort_made work_not tag_of word_of
  term_as_lem {vs = vs} a (fits_input {k} h) =
      let f : 4 * k + 4 ≤ length inputs = rw long (omega arith) in
      record {
        is = rw (term-input inputs vs k, ← input-word inputs k f) (a_number (input-small inputs k f bytes));
        sort = refl;
      }
  term_as_lem {cs = cs} {vs = vs} s (fits_not {a} f e) =
      let p : OperandAs a (value_of cs a) (operand_word vs (tag_of a) (word_of a)) = operand_as s f in
      record {
        is = rw (term_not inputs vs a, p.low) (not_as p.is (p.sort ∙ e));
        sort = refl;
      }
  term_as_lem {cs = cs} {vs = vs} s (fits_op {o} {a} {b} f g e) =
      let p : OperandAs a (value_of cs a) (operand_word vs (tag_of a) (word_of a)) = operand_as s f in
      let q : OperandAs b (value_of cs b) (operand_word vs (tag_of b) (word_of b)) = operand_as s g in
      record {
        is = rw (term_op inputs vs o a b, p.low, q.low) (work_law o (rw (p.sort, q.sort) e) p.is q.is);
        sort = work-sort o (value_of cs a) (value_of cs b);
      }

  -- all of them: the values of a sound pool
  values_from_lem :
      (w : Pool) (rest vs₀ : List ℕ) {before terms : Pool} {cs : List Constant} {vs : List ℕ}
      → length w ≤ most_terms
      → w ≡ before ++ terms
      → TermsFit before terms
      → ValuesAs before cs vs
      → vs ≡ values_to (pool_bytes w ++ rest) inputs vs₀ (length before)
      → ValuesAs w (values_from (input_words inputs) cs terms) (values_to (pool_bytes w ++ rest) inputs vs₀ (length w))
  unfolding values_from
  values_from_lem w rest vs₀ {before} {cs = cs} few e no_term a v =
      let i : w ≡ before = e ∙ append-nil before in
      subst (λ (u : Pool). ValuesAs u cs (values_to (pool_bytes w ++ rest) inputs vs₀ (length u))) (sym i) (rw (← v) a)
  values_from_lem w rest vs₀ {before} {vs = vs} few e (next_term {terms = terms} {n = n} f fs) a v =
      let h : length before < most_terms =
      omega (arith, few, simp length-append at (ap length e)) in
      let t : term_value (pool_bytes w ++ rest) inputs vs (length before) ≡ term_in inputs vs (node_words n) =
      ap (λ (u : Pool). term_value (pool_bytes u ++ rest) inputs vs (length before)) e ∙ term-value before terms n rest inputs vs a.few f in
      let more : length before + 1 ≡ length (before ++ (n ∷ [])) = simp length-append in
      values_from_lem w rest vs₀ few (e ∙ sym (append_assoc before (n ∷ []) terms)) fs (step_as a h (term_as_lem a f))
      (ap (λ (x : ℕ). set vs (length before) x) (sym t) ∙ values_more (pool_bytes w ++ rest) inputs vs₀ vs (length before) v
      ∙ ap (λ (k : ℕ). values_to (pool_bytes w ++ rest) inputs vs₀ k) more)

  pub values_as :
      {w : Pool} (rest : List ℕ) → length w ≤ most_terms → TermsFit [] w
      → ValuesAs w (pool_values (input_words inputs) w) (values_to (pool_bytes w ++ rest) inputs (replicate most_terms 0) (length w))
  unfolding pool_values
  values_as {w} rest few f =
      values_from_lem w rest (replicate most_terms 0) few refl f
      (record { count = refl; few = omega arith; wide = length-replicate {A = ℕ} most_terms 0; each = λ k h. absurd (omega arith) })
      (values_start (pool_bytes w ++ rest) inputs (replicate most_terms 0))

-- a condition's term has the truth it must have exactly if its word is that truth's
truth_as :
    {c : Constant} {x : ℕ} → ConstAs c x → sort_of c ≡ booleans → (b : Bool) → eqb (x % 4294967296) (bit b) ≡ same_truth b (truth_in c)
unfolding sort_of truth_in
truth_as (a_number h) e b = let z : ◌≡◌ {A = ℕ} 0 1 = cc in absurd (omega arith)
truth_as (a_truth {b = d}) e b = rw (low-truth d) (same_bits d b)
truth_as (a_location h) e b = let z : ◌≡◌ {A = ℕ} 0 1 = cc in absurd (omega arith)

pub condition_as :
    {w : Pool} {cs : List Constant} {vs : List ℕ} {r : Ref} → ValuesAs w cs vs → RefFits w r → ref_sort r ≡ booleans → (b : Bool)
    → eqb (value_word vs (place_in r)) (bit b) ≡ same_truth b (truth_in (value_of cs (term r)))
unfolding value_of
condition_as {w} {cs} {vs} {r} a f e b =
    let t : TermAs (get_or w (place_in r) (input 0)) (get_or cs (place_in r) (boolean false)) (get_or vs (place_in r) 0) = a.each (place_in r) f.there in
    let k : place_in r < most_terms = omega (arith, f.there, a.few) in
    rw (value-at vs (place_in r) k) (truth_as t.is (t.sort ∙ sym (ap ref_sort f.sort ∙ ref_sort_lem _ _) ∙ e) b)
