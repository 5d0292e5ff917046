-- What other crates cite of texts that are written: two written one after the other are their join; a pass over no memory gives a text's
-- length; what stands at the front of the memory, with room for all of it or not; and how long a number's text is. Assumes nothing.
use Rattle.std.specs.Prelude.{ℕ, zero, suc, ◌+◌, ◌/◌, ◌%◌, ◌≤◌, ◌<◌, ◌≡◌, refl, Bool, true, false, List, [], ◌∷◌, ◌++◌, length, set, take, drop, ltb}
use Rattle.std.proofs.Common.{arith, add-one, sym, ◌∙◌, ap, ap₂, length-append, length-set, take-append-drop, drop_of_length-le, take_all, length-take-le, lt-ltb, ltb-true, ltb-false}
use Rattle.std.proofs.Math.Seq.{set_out}
use Rattle.std.proofs.lemmas.List.Edits.{sets, sets-eq}
use Rattle.gil.specs.Printed.{digits, decimal}
use Rattle.machine_code.specs.Mirror.{if?}
use Rattle.print_writing.specs.Mirror.{last_place, next, reached, filled, Wrote, Writes}
use Rattle.print_writing.specs.declared.Page.{Page}

length-filled : (b : List ℕ) (at : ℕ) (t : List ℕ) → length (filled b at t) ≡ length b
unfolding filled
length-filled b at [] = refl
length-filled b at (x ∷ t) = length-filled (set b at x) (next at) t ∙ length-set b at x

reached-append : (at : ℕ) (s t : List ℕ) → reached at (s ++ t) ≡ reached (reached at s) t
unfolding reached
reached-append at [] t = refl
reached-append at (x ∷ s) t = reached-append (next at) s t

filled-append : (b : List ℕ) (at : ℕ) (s t : List ℕ) → filled b at (s ++ t) ≡ filled (filled b at s) (reached at s) t
unfolding filled reached
filled-append b at [] t = refl
filled-append b at (x ∷ s) t = filled-append (set b at x) (next at) s t

pub wrote_none : (b : List ℕ) (at : ℕ) → Wrote b at [] b at
unfolding filled reached
wrote_none b at = record { bytes = refl; place = refl }

pub join :
    {b b' c s t : List ℕ} {at m r : ℕ} → Wrote b at s b' m → Wrote b' m t c r → Wrote b at (s ++ t) c r
join {b} {b'} {c} {s} {t} {at} {m} {r} v w =
    record {
      bytes = w.bytes ∙ ap₂ (λ (l : List ℕ) (k : ℕ). filled l k t) v.bytes v.place ∙ sym (filled-append b at s t);
      place = w.place ∙ ap (λ (k : ℕ). reached k t) v.place ∙ sym (reached-append at s t);
    }

-- the same, of a text that is known to be another
pub wrote_as : {b b' s t : List ℕ} {at r : ℕ} → s ≡ t → Wrote b at s b' r → Wrote b at t b' r
wrote_as e w = rw (← e) w

-- the same of pages
pub write_none : (p : Page) → Writes p [] p
write_none p = record { same = refl; wrote = wrote_none p.out.now p.at }

pub write_on : {p q r : Page} {s t : List ℕ} → Writes p s q → Writes q t r → Writes p (s ++ t) r
write_on v w = record { same = w.same ∙ v.same; wrote = join v.wrote w.wrote }

pub writes_as : {p q : Page} {s t : List ℕ} → s ≡ t → Writes p s q → Writes p t q
writes_as e w = rw (← e) w

-- what a page over `b` leaves is what was written into `b`
pub wrote_page :
    {b b' t : List ℕ} {p q : Page} {r : ℕ} → p.out.now ≡ b → p.at ≡ 0 → Writes p t q → b' ≡ q.out.now → r ≡ q.at → Wrote b 0 t b' r
wrote_page {b} {b'} {t} {p} {q} {r} bytes front w e f = rw (e, f, ← bytes, ← front) w.wrote

-- the next place, and the last
pub next_in : (at : ℕ) → at < last_place → next at ≡ at + 1
unfolding next
next_in at h = simp (lt-ltb at last_place h, next)

next_up : (at : ℕ) → at ≤ next at
unfolding next
next_up at = by (ltb at last_place)
  where
    by : (d : Bool) → at ≤ if? d (at + 1) at
    by true = omega arith
    by false = omega arith

-- How many bytes a text has, whatever the memory
reached-far : (at : ℕ) (t : List ℕ) → at + length t ≤ last_place → reached at t ≡ at + length t
unfolding reached
reached-far at [] h = omega arith
reached-far at (x ∷ t) h =
    let i : at < last_place = omega arith in
    let g : at + 1 + length t ≤ last_place = omega arith in
    ap (λ (n : ℕ). reached n t) (next_in at i) ∙ reached-far (at + 1) t g ∙ omega arith

pub counted : {t b b' : List ℕ} {r : ℕ} → length t ≤ last_place → Wrote b 0 t b' r → r ≡ length t
counted {t} h w = let g : 0 + length t ≤ last_place = omega arith in w.place ∙ reached-far 0 t g ∙ omega arith

-- With room, and with none left. No memory is longer than `last_place`
filled-room : (b : List ℕ) (at : ℕ) (t : List ℕ) → at + length t ≤ length b → length b ≤ last_place → filled b at t ≡ sets b at t
unfolding filled
filled-room b at [] h l = refl
filled-room b at (x ∷ t) h l =
    let i : at < last_place = omega arith in
    let g : suc at + length t ≤ length (set b at x) = simp length-set (omega arith) in
    let m : length (set b at x) ≤ last_place = simp length-set (omega arith) in
    ap (λ (n : ℕ). filled (set b at x) n t) (next_in at i ∙ add-one at) ∙ filled-room (set b at x) (suc at) t g m

filled-full : (b : List ℕ) (at : ℕ) (t : List ℕ) → length b ≤ at → filled b at t ≡ b
unfolding filled
filled-full b at [] h = refl
filled-full b at (x ∷ t) h =
    let g : length b ≤ next at = omega (arith, next_up at) in
    ap (λ (l : List ℕ). filled l (next at) t) (set_out b at x h) ∙ filled-full b (next at) t g

-- Over no memory the place is the text's length, and nothing is written
pub measured : {t b' : List ℕ} {r : ℕ} → length t ≤ last_place → Wrote [] 0 t b' r → (r ≡ length t) × (b' ≡ [])
measured {t} h w = (counted h w, w.bytes ∙ filled-full [] 0 t (omega arith))

-- so a page's place is the text's length
pub page_measured : {p q : Page} {t : List ℕ} → length t ≤ last_place → p.at ≡ 0 → Writes p t q → q.at ≡ length t
page_measured {p} {q} {t} h front w = let g : 0 + length t ≤ last_place = omega arith in w.wrote.place ∙ ap (λ (n : ℕ). reached n t) front ∙ reached-far 0 t g ∙ omega arith

-- As much of a text as there is room for stands at the front of a memory, and the rest is as it was; all of it is counted
pub record Front (t b b' : List ℕ) (r : ℕ) : Type 0 where
  pub count : r ≡ length t
  pub bytes : b' ≡ take (length b) t ++ drop (length t) b

module _ {t b b' : List ℕ} {r : ℕ} (told : length t ≤ last_place) (held : length b ≤ last_place) (w : Wrote b 0 t b' r) where
  front-all : (s : List ℕ) → length s ≤ length b → filled b 0 s ≡ s ++ drop (length s) b
  front-all s h =
      let g : 0 + length s ≤ length b = omega arith in
      let e : 0 + length s ≡ length s = omega arith in
      filled-room b 0 s g held ∙ sets-eq s b 0 g ∙ ap (λ (n : ℕ). s ++ drop n b) e

  front_fits : length t ≤ length b → filled b 0 t ≡ take (length b) t ++ drop (length t) b
  front_fits h = front-all t h ∙ ap (λ (l : List ℕ). l ++ drop (length t) b) (sym (take_all (length b) t h))

  front-over : length b < length t → filled b 0 t ≡ take (length b) t ++ drop (length t) b
  front-over h =
      let s : List ℕ = take (length b) t in
      let g : length b ≤ length t = omega arith in
      let n : length s ≡ length b = length-take-le (length b) t g in
      let m : length s ≤ length b = omega arith in
      let k : 0 + length s ≤ last_place = omega arith in
      let p : reached 0 s ≡ length b = reached-far 0 s k ∙ omega arith in
      let q : t ≡ s ++ drop (length b) t = sym (take-append-drop (length b) t) in
      let full : length (filled b 0 s) ≤ reached 0 s = omega (arith, length-filled b 0 s) in
      let y : drop (length s) b ≡ drop (length t) b = drop_of_length-le b {i = length s} (omega arith) ∙ sym (drop_of_length-le b g) in
      ap (filled b 0) q
      ∙ filled-append b 0 s (drop (length b) t)
      ∙ filled-full (filled b 0 s) (reached 0 s) (drop (length b) t) full
      ∙ front-all s m
      ∙ ap (λ (l : List ℕ). s ++ l) y

  front_by : (d : Bool) → ltb (length b) (length t) ≡ d → filled b 0 t ≡ take (length b) t ++ drop (length t) b
  front_by true e = front-over (ltb-true (length b) (length t) e)
  front_by false e = front_fits (ltb-false (length b) (length t) e)

  pub front : Front t b b' r
  front = record { count = counted told w; bytes = w.bytes ∙ front_by (ltb (length b) (length t)) refl }

-- All of a text stands at the front of a memory, and the rest is as it was
pub record Whole (t b b' : List ℕ) (r : ℕ) : Type 0 where
  pub count : r ≡ length t
  pub bytes : b' ≡ t ++ drop (length t) b

pub whole : {t b b' : List ℕ} {r : ℕ} → Front t b b' r → length t ≤ length b → Whole t b b' r
whole {t} {b} f h = record { count = f.count; bytes = f.bytes ∙ ap (λ (l : List ℕ). l ++ drop (length t) b) (take_all (length b) t h) }

-- "decimal": at most ten bytes
digits-length : (k n : ℕ) → length (digits k n) ≤ k + 1
unfolding digits
digits-length zero n = omega arith
digits-length (suc k) n = by (ltb n 10) (digits-length k (n / 10))
  where
    by : (t : Bool) → length (digits k (n / 10)) ≤ k + 1
        → length {A = ℕ} (elim t [ true ↦ (48 + n) ∷ [] | false ↦ digits k (n / 10) ++ ((48 + n % 10) ∷ []) ]) ≤ suc k + 1
    by true h = omega arith
    by false h = simp length-append (omega arith)

pub decimal-length : (n : ℕ) → length (decimal n) ≤ 10
unfolding decimal
decimal-length n = digits-length 9 n
