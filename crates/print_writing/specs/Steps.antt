-- The laws that the functions' own proofs cite: one byte, with room and with none, a text's bytes and its parts, and a number's digits.
-- Assumes nothing.
use Rattle.std.specs.Prelude.{ℕ, zero, suc, ◌+◌, ◌-◌, ◌/◌, ◌%◌, ◌^◌, ◌≤◌, ◌<◌, ◌≡◌, refl, min, Bool, true, false, List, [], ◌∷◌, ◌++◌, length, get_or, set, take, drop, ltb}
use Rattle.std.specs.Fmt as std
use Rattle.std.proofs.Common.{arith, add-one, sub-one, sym, ◌∙◌, ap, ap₂, length-drop, drop_of_length-le, take-suc, take_all, pow-suc, lt-ltb, le-ltb, ltb-true, ltb-false}
use Rattle.std.proofs.Math.Seq.{set_out, take-nil}
use Rattle.std.proofs.lemmas.Fmt.{decimal_digit, decimal_step}
use Rattle.gil.specs.Text.{part}
use Rattle.gil.specs.Printed.{digits, decimal}
use Rattle.machine_code.specs.Mirror.{if?}
use Rattle.print_writing.specs.Mirror.{last_place, next, reached, filled, Wrote, Writes}
use Rattle.print_writing.specs.Laws.{join, wrote_as, writes_as, write_on}
use Rattle.print_writing.specs.declared.Page.{Page}

-- the next place is the sum, or the last one
pub next_as : (at : ℕ) → at ≤ last_place → min (at + 1) last_place ≡ next at
unfolding next
next_as at h = by (ltb at last_place) refl
  where
    by : (d : Bool) → ltb at last_place ≡ d → min (at + 1) last_place ≡ if? d (at + 1) at
    by true e = omega (arith, ltb-true at last_place e)
    by false e = omega (arith, ltb-false at last_place e)

-- one byte, with room and with none
pub wrote_in : {r : ℕ} (b : List ℕ) (at x : ℕ) → r ≡ next at → Wrote b at (x ∷ []) (set b at x) r
unfolding filled reached
wrote_in b at x e = record { bytes = refl; place = e }

pub wrote_out : {r : ℕ} (b : List ℕ) (at x : ℕ) → length b ≤ at → r ≡ next at → Wrote b at (x ∷ []) b r
unfolding filled reached
wrote_out b at x h e = record { bytes = sym (set_out b at x h); place = e }

-- the part of a text that is there
pub part-past : (s : List ℕ) (from n : ℕ) → length s < from → part s from n ≡ []
unfolding part
part-past s from n h = let g : length s ≤ from = omega arith in ap (take n) (drop_of_length-le s g) ∙ take-nil n

pub part-short : (s : List ℕ) (from n : ℕ) → length s < from + n → take (length s - from) (drop from s) ≡ part s from n
unfolding part
part-short s from n h =
    take_all (length s - from) (drop from s) (simp length-drop (omega arith)) ∙ sym (take_all n (drop from s) (simp length-drop (omega arith)))

pub part-whole : (s : List ℕ) (from n : ℕ) → take (from + n - from) (drop from s) ≡ part s from n
unfolding part
part-whole s from n = let e : from + n - from ≡ n = omega arith in ap (λ (k : ℕ). take k (drop from s)) e

pub part_there :
    (s : List ℕ) (from n : ℕ) → take (min (from + n) (length s) - min from (length s)) (drop (min from (length s)) s) ≡ part s from n
part_there s from n = by (ltb (length s) from) (ltb (length s) (from + n)) refl refl
  where
    by :
        (d e : Bool) → ltb (length s) from ≡ d → ltb (length s) (from + n) ≡ e
        → take (min (from + n) (length s) - min from (length s)) (drop (min from (length s)) s) ≡ part s from n
    by true e p q =
        let h : length s < from = ltb-true (length s) from p in
        let m : min (from + n) (length s) - min from (length s) ≡ 0 = omega arith in
        ap (λ (k : ℕ). take k (drop (min from (length s)) s)) m ∙ sym (part-past s from n h)
    by false true p q =
        let h : from ≤ length s = ltb-false (length s) from p in
        let g : length s < from + n = ltb-true (length s) (from + n) q in
        let i : min from (length s) ≡ from = omega arith in
        let j : min (from + n) (length s) ≡ length s = omega arith in
        ap₂ (λ (k m : ℕ). take (k - m) (drop m s)) j i ∙ part-short s from n g
    by false false p q =
        let h : from ≤ length s = ltb-false (length s) from p in
        let g : from + n ≤ length s = ltb-false (length s) (from + n) q in
        let i : min from (length s) ≡ from = omega arith in
        let j : min (from + n) (length s) ≡ from + n = omega arith in
        ap₂ (λ (k m : ℕ). take (k - m) (drop m s)) j i ∙ part-whole s from n

-- a text's bytes, one after another: in memory, and on a page
pub byte_more :
    (s : List ℕ) (i : ℕ) {b b' b'' : List ℕ} {at m r : ℕ} → i < length s → Wrote b at (take i s) b' m → Wrote b' m (get_or s i 0 ∷ []) b'' r
    → Wrote b at (take (i + 1) s) b'' r
byte_more s i h v w = wrote_as (sym (ap (λ (k : ℕ). take k s) (add-one i) ∙ take-suc s i 0 h)) (join v w)

pub all_more :
    (s : List ℕ) (i : ℕ) {p q r : Page} → i < length s → Writes p (take i s) q → Writes q (get_or s i 0 ∷ []) r
    → Writes p (take (i + 1) s) r
all_more s i h v w = writes_as (sym (ap (λ (k : ℕ). take k s) (add-one i) ∙ take-suc s i 0 h)) (write_on v w)

pub all_end : (s : List ℕ) (i : ℕ) {b b' : List ℕ} {at r : ℕ} → length s ≤ i → Wrote b at (take i s) b' r → Wrote b at s b' r
all_end s i h w = wrote_as (take_all i s h) w

-- decimal digits
pub digits-none : (k n : ℕ) → k ≡ 0 → digits k n ≡ (48 + n % 10) ∷ []
unfolding digits
digits-none k n e = ap (λ (k : ℕ). digits k n) e

pub digits-few : (k n : ℕ) → (k ≡ 0 → ⊥) → n < 10 → digits k n ≡ (48 + n) ∷ []
unfolding digits
digits-few zero n nz h = absurd (nz refl)
digits-few (suc k) n nz h = simp (lt-ltb n 10 h, digits)

pub digits_more : (k n : ℕ) → (k ≡ 0 → ⊥) → 10 ≤ n → digits k n ≡ digits (k - 1) (n / 10) ++ ((48 + n % 10) ∷ [])
unfolding digits
digits_more zero n nz h = absurd (nz refl)
digits_more (suc k) n nz h = simp (le-ltb n 10 h, digits, sub-one)

-- the digits are std's
digits_are : (k n : ℕ) → n < 10 ^ suc k → n < 2 ^ 64 → std.decimal n ≡ digits k n
unfolding digits
digits_are zero n h small = let e : n % 10 ≡ n = omega arith in decimal_digit n (omega arith) ∙ ap (λ (m : ℕ). (48 + m) ∷ []) (sym e)
digits_are (suc k) n h small = by (ltb n 10) refl
    (λ (g : 10 ≤ n).
    let less : n / 10 < 10 ^ suc k = omega (arith, pow-suc 10 (suc k)) in
    decimal_step n g small ∙ ap (λ (l : List ℕ). l ++ ((48 + n % 10) ∷ [])) (digits_are k (n / 10) less (omega arith)))
  where
    by :
        (d : Bool) → ltb n 10 ≡ d → (10 ≤ n → std.decimal n ≡ digits k (n / 10) ++ ((48 + n % 10) ∷ []))
        → std.decimal n ≡ elim d [ true ↦ (48 + n) ∷ [] | false ↦ digits k (n / 10) ++ ((48 + n % 10) ∷ []) ]
    by true e more = decimal_digit n (ltb-true n 10 e)
    by false e more = more (ltb-false n 10 e)

pub decimal_is : (n : ℕ) → n < 2 ^ 32 → std.decimal n ≡ decimal n
unfolding decimal
decimal_is n h = digits_are 9 n (omega arith) (omega arith)
