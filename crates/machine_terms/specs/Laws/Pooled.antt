-- The pool's model stands in words: the count is the number of terms, and the lent bytes are theirs, as far as there is room. Both hold up to
-- 2^32 terms; a command makes at most 511. Assumes nothing.
use Rattle.std.specs.Prelude.{◌≡◌, ℕ, zero, suc, ◌+◌, ◌-◌, ◌*◌, ◌/◌, ◌%◌, ◌<◌, ◌≤◌, Bool, true, false, List, [], ◌∷◌, ◌++◌, length, take, drop, replicate, nat_le, nat_lt, None, refl}
use Rattle.std.proofs.Common.{sym, ◌∙◌, ap, ap₂, append-nil, mod-eq_of_lt, arith, length-append, length-take, take_all, le-leb, ltb-true, ltb-false}
use Rattle.std.proofs.Math.Nat.{add-mul-div_right, add-mul-mod_self_right, mod-add-mod, sub-zero, zero-sub, suc-sub-suc}
use Rattle.std.proofs.lemmas.List.{length-replicate, take-append-le}
use Rattle.std.proofs.lemmas.List.Edits.{sets, sets-eq}
use Rattle.std.proofs.Math.Seq.{take-append_seam, drop-append-add}
use Rattle.std.proofs.lemmas.Bool.{lt-leb}
use Rattle.gil.specs.Numbers.{most_terms, term_length, pool_length}
use Rattle.gil.specs.Tree.{Op, plus, minus, equal, less, and, or}
use Rattle.gil.specs.Names.{gather}
use Rattle.gil.specs.Values.{Value, term, Node, input, neg, bin, op_gives_number, gives_number}
use Rattle.gil.specs.Pool.{Ref, number_term, boolean_term, ref_sort, place_in, Pool, ref_to, added, pooled}
use Rattle.gil.specs.Layout.{word_bytes, room, bit, constant_words, value_words, ref_tag, op_code, node_words, node_bytes}
use Rattle.gil.proofs.Theory.Gathered.{gather_append}
use Rattle.lent_words.specs.Laws.Row.{node-long, nodes-long}
use Rattle.machine_code.specs.Code.{op_word, equal_node}
use Rattle.machine_code.specs.Mirror.{if?}
use Rattle.machine_values.specs.Mirror.{truth_word}
use Rattle.machine_values.specs.Laws.{a_number, a_truth, a_location}
use Rattle.machine_terms.specs.Mirror.{node_of, pool_with, input_in, term_in}
use Rattle.machine_terms.specs.Laws.Engine.{Engine, ValueAs, const_as, term_as, TermTag, tags_number, tags_boolean, fresh_in}

pub data RefAs : Ref → ℕ → Type 0 where
  a_number_term : {k : ℕ} → RefAs (number_term k) (17179869184 + k % 4294967296)
  a_boolean_term : {k : ℕ} → RefAs (boolean_term k) (21474836480 + k % 4294967296)

pub record PoolAs (w : Pool) (pool : List ℕ) (count : ℕ) : Type 0 where
  pub counted : count ≡ length w % 4294967296
  pub bytes : length w < 4294967296 → pool ≡ room pool_length (gather node_bytes (take most_terms w))

pub ref_tagged : {t : Ref} {x : ℕ} → RefAs t x → TermTag (ref_sort t) x
unfolding ref_sort
ref_tagged (a_number_term {k}) = tags_number {x = 17179869184 + k % 4294967296} (omega arith)
ref_tagged (a_boolean_term {k}) = tags_boolean {x = 21474836480 + k % 4294967296} (omega arith)

-- a word's bytes are those of its lowest 32 bits
byte_kept : (c m k : ℕ) → 0 < c → k ≡ k % 4294967296 + k / 4294967296 * m * 256 * c → k % 4294967296 / c % 256 ≡ k / c % 256
byte_kept c m k h e =
    sym
    (ap (λ (n : ℕ). n / c % 256) e
    ∙ ap (λ (n : ℕ). n % 256) (add-mul-div_right (k % 4294967296) (k / 4294967296 * m * 256) h)
    ∙ add-mul-mod_self_right (k % 4294967296 / c) (k / 4294967296 * m) 256)

word-bytes : (k : ℕ) → word_bytes (k % 4294967296) ≡ word_bytes k
unfolding word_bytes
word-bytes k =
    let f : k ≡ k % 4294967296 + k / 4294967296 * 16777216 * 256 = omega arith in
    let e0 : k % 4294967296 % 256 ≡ k % 256 =
    sym (ap (λ (n : ℕ). n % 256) f ∙ add-mul-mod_self_right (k % 4294967296) (k / 4294967296 * 16777216) 256) in
    let e1 : k % 4294967296 / 256 % 256 ≡ k / 256 % 256 = byte_kept 256 65536 k (omega arith) (omega arith) in
    let e2 : k % 4294967296 / 65536 % 256 ≡ k / 65536 % 256 = byte_kept 65536 256 k (omega arith) (omega arith) in
    let e3 : k % 4294967296 / 16777216 % 256 ≡ k / 16777216 % 256 = byte_kept 16777216 1 k (omega arith) (omega arith) in
    ap₄ e0 e1 e2 e3
  where
    ap₄ : {a b c d e f g h : ℕ} → a ≡ e → b ≡ f → c ≡ g → d ≡ h → a ∷ b ∷ c ∷ d ∷ [] ≡ e ∷ f ∷ g ∷ h ∷ []
    ap₄ p q r s = cc

-- a value's two words
pub value-words : {v : Value Ref} {x : ℕ} → ValueAs RefAs v x
    → gather word_bytes (x / 4294967296 ∷ x % 4294967296 ∷ []) ≡ gather word_bytes (value_words ref_tag place_in v)
unfolding gather value_words constant_words ref_tag place_in truth_word bit
value-words (const_as (a_number {n} h)) =
    let e : (4294967296 + n) / 4294967296 ≡ 1 = omega arith in
    let f : (4294967296 + n) % 4294967296 ≡ n = omega arith in
    rw (e, f)
value-words (const_as (a_truth {b = true})) = refl
value-words (const_as (a_truth {b = false})) = refl
value-words (const_as (a_location {l} h)) =
    let e : (12884901888 + l) / 4294967296 ≡ 3 = omega arith in
    let f : (12884901888 + l) % 4294967296 ≡ l = omega arith in
    rw (e, f)
value-words (term_as (a_number_term {k})) =
    let e : (17179869184 + k % 4294967296) / 4294967296 ≡ 4 = omega arith in
    let f : (17179869184 + k % 4294967296) % 4294967296 ≡ k % 4294967296 = omega arith in
    rw (e, f, word-bytes k)
value-words (term_as (a_boolean_term {k})) =
    let e : (21474836480 + k % 4294967296) / 4294967296 ≡ 5 = omega arith in
    let f : (21474836480 + k % 4294967296) % 4294967296 ≡ k % 4294967296 = omega arith in
    rw (e, f, word-bytes k)

-- a term's bytes
pub two_values : {a b : Value Ref} {x y : ℕ} (k : ℕ) → ValueAs RefAs a x → ValueAs RefAs b y
    → node_of k x y ≡ word_bytes k ++ gather word_bytes (value_words ref_tag place_in a ++ value_words ref_tag place_in b)
unfolding node_of gather
two_values {a} {b} {x} {y} k p q =
    ap (λ (l : List ℕ). word_bytes k ++ l)
    (gather_append word_bytes (x / 4294967296 ∷ x % 4294967296 ∷ []) (y / 4294967296 ∷ y % 4294967296 ∷ [])
    ∙ ap₂ (λ (l m : List ℕ). l ++ m) (value-words p) (value-words q)
    ∙ sym (gather_append word_bytes (value_words ref_tag place_in a) (value_words ref_tag place_in b)))

pub one_value : {a : Value Ref} {x : ℕ} (k : ℕ) → ValueAs RefAs a x
    → node_of k x 0 ≡ word_bytes k ++ gather word_bytes (value_words ref_tag place_in a ++ (0 ∷ 0 ∷ []))
unfolding node_of gather
one_value {a} {x} k p =
    ap (λ (l : List ℕ). word_bytes k ++ l)
    (gather_append word_bytes (x / 4294967296 ∷ x % 4294967296 ∷ []) (0 ∷ 0 ∷ [])
    ∙ ap (λ (l : List ℕ). l ++ gather word_bytes (0 ∷ 0 ∷ [])) (value-words p)
    ∙ sym (gather_append word_bytes (value_words ref_tag place_in a) (0 ∷ 0 ∷ [])))

pub op_code_lem : (o : Op) → (op_word o + 4294967294) % 4294967296 ≡ op_code o
unfolding op_word op_code
op_code_lem plus = refl
op_code_lem minus = refl
op_code_lem equal = refl
op_code_lem less = refl
op_code_lem and = refl
op_code_lem or = refl

-- one more term in the bytes
abbrev zeros : ℕ → List ℕ
zeros m = replicate m 0

zeros-length : (m : ℕ) → length (zeros m) ≡ m
zeros-length m = length-replicate {A = ℕ} m 0

drop-zeros : (k m : ℕ) → drop k (zeros m) ≡ zeros (m - k)
drop-zeros zero m = rw sub-zero
drop-zeros (suc k) zero = rw zero-sub
drop-zeros (suc k) (suc m) = rw suc-sub-suc (drop-zeros k m)

fill : (g b : List ℕ) (m : ℕ) → length b ≤ m → sets (g ++ zeros m) (length g) b ≡ g ++ b ++ zeros (m - length b)
fill g b m h =
    let room : length g + length b ≤ length (g ++ zeros m) = omega (arith, length-append g (zeros m), zeros-length m) in
    sets-eq b (g ++ zeros m) (length g) room
    ∙ ap (λ (l : List ℕ). l ++ b ++ drop (length g + length b) (g ++ zeros m)) (take-append_seam g (zeros m))
    ∙ ap (λ (l : List ℕ). g ++ b ++ l) (drop-append-add g (zeros m) (length b) ∙ drop-zeros (length b) m)

room-length : (n : ℕ) (g : List ℕ) → length g ≤ n → length (room n g) ≡ n
unfolding room
room-length n g h = length-append g (zeros (n - length g)) ∙ omega (arith, zeros-length (n - length g))

fill-room : (n : ℕ) (g b : List ℕ) → length g + length b ≤ n → sets (room n g) (length g) b ≡ room n (g ++ b)
unfolding room
fill-room n g b h =
    let e : n - length g - length b ≡ n - length (g ++ b) = omega (arith, length-append g b) in
    fill g b (n - length g) (omega arith) ∙ ap (λ (k : ℕ). g ++ b ++ zeros k) e

-- the terms that the bytes have room for
abbrev pub kept : Pool → List ℕ
kept w = gather node_bytes (take most_terms w)

kept-few : (w : Pool) → length w ≤ most_terms → kept w ≡ gather node_bytes w
kept-few w h = ap (λ (l : Pool). gather node_bytes l) (take_all most_terms w h)

kept-length : (w : Pool) → length (kept w) ≤ pool_length
kept-length w = omega (arith, nodes-long (take most_terms w), length-take most_terms w)

kept-one : (w : Pool) (n : Node Ref) → length w < most_terms → kept (w ++ (n ∷ [])) ≡ kept w ++ node_bytes n
unfolding gather
kept-one w n h =
    kept-few (w ++ (n ∷ [])) (omega (arith, length-append w (n ∷ [])))
    ∙ gather_append node_bytes w (n ∷ [])
    ∙ ap₂ (λ (l m : List ℕ). l ++ m) (sym (kept-few w (omega arith))) (append-nil (node_bytes n))

kept-no-more : (w : Pool) (n : Node Ref) → most_terms ≤ length w → kept (w ++ (n ∷ [])) ≡ kept w
kept-no-more w n h = ap (λ (l : Pool). gather node_bytes l) (take-append-le most_terms w (n ∷ []) h)

pool-grows : (w : Pool) (n : Node Ref) (b : Bool) → nat_lt (length w) most_terms ≡ b
    → pool_with (node_bytes n) (length w) (room pool_length (kept w)) ≡ room pool_length (kept (w ++ (n ∷ [])))
unfolding pool_with
pool-grows w n true e =
    let h : length w < most_terms = ltb-true _ _ e in
    let g : length (kept w) ≡ term_length * length w = ap length (kept-few w (omega arith)) ∙ nodes-long w in
    let f : nat_le (term_length * length w + term_length) (length (room pool_length (kept w))) ≡ true =
    le-leb (term_length * length w + term_length) (length (room pool_length (kept w))) (omega (arith, room-length pool_length (kept w) (kept-length w))) in
    rw f
    (ap (λ (k : ℕ). sets (room pool_length (kept w)) k (node_bytes n)) (sym g)
    ∙ fill-room pool_length (kept w) (node_bytes n) (omega (arith, node-long n))
    ∙ ap (room pool_length) (sym (kept-one w n h)))
pool-grows w n false e =
    let h : most_terms ≤ length w = ltb-false _ _ e in
    let f : nat_le (term_length * length w + term_length) (length (room pool_length (kept w))) ≡ false =
    lt-leb (term_length * length w + term_length) (length (room pool_length (kept w))) (omega (arith, room-length pool_length (kept w) (kept-length w))) in
    rw f (ap (room pool_length) (sym (kept-no-more w n h)))

pub made_as : {w : Pool} {pool : List ℕ} {count : ℕ} (n : Node Ref) (b : List ℕ) → b ≡ node_bytes n → PoolAs w pool count
    → PoolAs (w ++ (n ∷ [])) (pool_with b count pool) ((count + 1) % 4294967296)
made_as {w} {pool} {count} n b e h =
    record {
      counted =
          ap (λ (k : ℕ). (k + 1) % 4294967296) h.counted
          ∙ mod-add-mod (length w) 4294967296 1
          ∙ ap (λ (k : ℕ). k % 4294967296) (sym (length-append w (n ∷ [])));
      bytes = λ few. grown (omega (arith, length-append w (n ∷ [])));
    }
  where
    grown : length w < 4294967296 → pool_with b count pool ≡ room pool_length (kept (w ++ (n ∷ [])))
    grown few =
        let c : count ≡ length w = h.counted ∙ mod-eq_of_lt few in
        ap₂ (λ (k : ℕ) (l : List ℕ). pool_with b k l) c (h.bytes few)
        ∙ ap (λ (l : List ℕ). pool_with l (length w) (room pool_length (kept w))) e
        ∙ pool-grows w n (nat_lt (length w) most_terms) refl

pub number-made : {w : Pool} {pool : List ℕ} {count : ℕ} → PoolAs w pool count
    → ValueAs RefAs (term (number_term (length w))) (17179869184 + count)
number-made {w} h = rw h.counted (term_as a_number_term)

pub boolean-made : {w : Pool} {pool : List ℕ} {count : ℕ} → PoolAs w pool count
    → ValueAs RefAs (term (boolean_term (length w))) (21474836480 + count)
boolean-made {w} h = rw h.counted (term_as a_boolean_term)

pub op_made : (o : Op) {w : Pool} {pool : List ℕ} {count : ℕ} → PoolAs w pool count
    → ValueAs RefAs (term (ref_to (op_gives_number o) (length w))) (if? (nat_lt (op_word o) equal_node) (17179869184 + count) (21474836480 + count))
unfolding op_gives_number ref_to op_word
op_made plus h = number-made h
op_made minus h = number-made h
op_made equal h = boolean-made h
op_made less h = boolean-made h
op_made and h = boolean-made h
op_made or h = boolean-made h

unfoldable pub pooled_engine : Engine pooled
unfolding pooled added gives_number ref_to term_in input_in fresh_in node_bytes node_words gather value_words
pooled_engine =
    record {
      TermAs = RefAs;
      WorldAs = PoolAs;
      tagged = ref_tagged;
      makes_bin = λ {w} {pool} {count} {a} {b} {x} {y} o t h p q.
          record {
            world = made_as (bin o a b) _ (ap (λ (k : ℕ). node_of k x y) (op_code_lem o) ∙ two_values (op_code o) p q) h;
            value = op_made o h;
          };
      makes_neg = λ h p. record { world = made_as (neg (term _)) _ (one_value 2 (term_as p)) h; value = boolean-made h };
      known = None;
      makes_input = λ i few h.
          record { world = made_as (input i) _ (one_value 1 (const_as (a_number (omega arith)))) h; value = number-made h };
    }
