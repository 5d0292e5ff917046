-- Reserved words as the code finds them come to those of the definitions. Assumes nothing.
use Rattle.std.specs.Prelude.{ℕ, zero, suc, ◌+◌, ◌≤◌, ◌<◌, ◌≡◌, refl, Bool, true, false, List, [], ◌∷◌, map, drop, get_or, length, Option, Some, None}
use Rattle.std.proofs.Common.{sym, ap, ◌∙◌, ne_eqb, arith, add-one, drop-cons, drop_of_length-le}
use Rattle.std.proofs.Math.Option as M
use Rattle.gil.specs.Text as Text
use Rattle.gil.specs.Text.{find, same, bytes, reserved_words, k_ifgoto}
use Rattle.gil.proofs.Theory.Tests.{no_false}
use Rattle.text_words.specs.declared.keys.Key.{Key}
use Rattle.text_words.specs.declared.keys.Key.TheVariants.{Ifgoto, Return, Fail, Vanish, True, False, Not, And, Or, Lookup, Mutate, Dispose}
use Rattle.text_words.specs.Mirror.Keys.{Entry, entry, key_is, keyed, reserved, started_by, taken_in}
use Rattle.text_words.specs.Laws.Words.{same-is}

-- a reserved word is found by its first letter and its length
started-is : (k : Key) → started_by (get_or (reserved k) 0 0) (length (reserved k)) ≡ Some k
unfolding started_by reserved bytes
started-is Ifgoto = refl
started-is Return = refl
started-is Fail = refl
started-is Vanish = refl
started-is True = refl
started-is False = refl
started-is Not = refl
started-is And = refl
started-is Or = refl
started-is Lookup = refl
started-is Mutate = refl
started-is Dispose = refl

words-of : (l : List Entry) (k : ℕ) → get_or (map (λ (e : Entry). e.0.now) l) k [] ≡ (get_or (map entry l) k ([], k_ifgoto)).0
words-of [] k = refl
words-of (e ∷ l) zero = refl
words-of (e ∷ l) (suc k) = words-of l k

-- a table that holds the definitions' reserved words, as `find` says of the code's, has each by its number
pub table_is : (l : List Entry) → map entry l ≡ reserved_words → (k : ℕ) → get_or (map (λ (e : Entry). e.0.now) l) k [] ≡ (get_or reserved_words k ([], k_ifgoto)).0
table_is l e k = words-of l k ∙ ap (λ (m : List (List ℕ × Text.Key)). (get_or m k ([], k_ifgoto)).0) e

found-is : (k : Key) → find (reserved k) reserved_words ≡ M.some (key_is k)
unfolding find same reserved reserved_words bytes key_is
found-is Ifgoto = refl
found-is Return = refl
found-is Fail = refl
found-is Vanish = refl
found-is True = refl
found-is False = refl
found-is Not = refl
found-is And = refl
found-is Or = refl
found-is Lookup = refl
found-is Mutate = refl
found-is Dispose = refl

-- the reserved words one by one
pub find-end : (w : List ℕ) (k : ℕ) → length reserved_words ≤ k → find w (drop k reserved_words) ≡ keyed None
unfolding find keyed
find-end w k h = rw (drop_of_length-le reserved_words h)

module _ (w : List ℕ) (k : ℕ) (h : k < length reserved_words) where
  find-step : find w (drop k reserved_words) ≡ elim (same w (get_or reserved_words k ([], k_ifgoto)).0) [ true ↦ M.some (get_or reserved_words k ([], k_ifgoto)).1 | false ↦ find w (drop (suc k) reserved_words) ]
  unfolding find
  find-step = ap (find w) (drop-cons reserved_words k ([], k_ifgoto) h)

  pub find-more : same w (get_or reserved_words k ([], k_ifgoto)).0 ≡ false → find w (drop k reserved_words) ≡ find w (drop (k + 1) reserved_words)
  find-more e = rw (add-one k) (find-step ∙ rw e)

key_or : Key → Option Key → Key
key_or d None = d
key_or d (Some k) = k

refuted : (b : Bool) → (b ≡ true → ⊥) → b ≡ false
refuted true n = absurd (n refl)
refuted false n = refl

module _ (w : List ℕ) where
  started : (k : Key) → same w (reserved k) ≡ true → started_by (get_or w 0 0) (length w) ≡ Some k
  started k e = ap (λ (x : List ℕ). started_by (get_or x 0 0) (length x)) (same-is w (reserved k) e) ∙ started-is k

  -- no other word, and none at all
  pub only : (j : Key) → started_by (get_or w 0 0) (length w) ≡ Some j → (k : Key) → same w (reserved k) ≡ true → k ≡ j
  unfolding key_or
  only j e k h = ap (key_or j) (sym (started k h) ∙ e)

  pub none : started_by (get_or w 0 0) (length w) ≡ None → (k : Key) → same w (reserved k) ≡ false
  none e k = refuted (same w (reserved k)) (λ h. apart (sym (started k h) ∙ e))
    where
      apart : Some k ≡ None → ⊥
      apart q = cc

  pub key-found : (k : Key) → same w (reserved k) ≡ true → find w reserved_words ≡ keyed (Some k)
  unfolding keyed
  key-found k e = ap (λ (x : List ℕ). find x reserved_words) (same-is w (reserved k) e) ∙ found-is k

  pub key-none : ((k : Key) → same w (reserved k) ≡ false) → find w reserved_words ≡ keyed None
  unfolding find reserved_words reserved keyed
  key-none h = rw (h Ifgoto, find) (rw (h Return, find) (rw (h Fail, find) (rw (h Vanish, find) (rw (h True, find) (rw (h False, find) (rw (h Not, find) (rw (h And, find) (rw (h Or, find) (rw (h Lookup, find) (rw (h Mutate, find) (rw (h Dispose, find) refl)))))))))))

  -- the one word that it may be is another
  pub key-other : (j : Key) → ((k : Key) → same w (reserved k) ≡ true → k ≡ j) → same w (reserved j) ≡ false → find w reserved_words ≡ keyed None
  key-other j h e = key-none (λ k. refuted (same w (reserved k)) (λ t. no_false (ap (λ (i : Key). same w (reserved i)) (sym (h k t)) ∙ t) e))

  -- the run looked up by the one entry that it may be
  pub key-by : {r : Option Key} (k : Key) (word : List ℕ) → (word ≡ reserved k) × ((j : Key) → same w (reserved j) ≡ true → j ≡ k) → r ≡ taken_in w word k → find w reserved_words ≡ keyed r
  unfolding taken_in
  key-by k word (e, h) q = by (same w (reserved k)) refl (q ∙ ap (λ (x : List ℕ). taken_in w x k) e)
    where
      by : {r : Option Key} (b : Bool) → same w (reserved k) ≡ b → r ≡ elim b [ true ↦ Some k | false ↦ None ] → find w reserved_words ≡ keyed r
      by true z q = key-found k z ∙ ap keyed (sym q)
      by false z q = key-other k h z ∙ ap keyed (sym q)

by_truth : Bool → Key → Option Key
by_truth b k = elim b [ true ↦ Some k | false ↦ None ]

pub taken-yes : (w word : List ℕ) (k : Key) → same w word ≡ true → Some k ≡ taken_in w word k
unfolding taken_in by_truth
taken-yes w word k e = sym (ap (λ (b : Bool). by_truth b k) e)

pub taken-no : (w word : List ℕ) (k : Key) → same w word ≡ false → None ≡ taken_in w word k
unfolding taken_in by_truth
taken-no w word k e = sym (ap (λ (b : Bool). by_truth b k) e)

off : {t : Bool} (x : Option Key) {y : Option Key} → t ≡ false → elim t [ true ↦ x | false ↦ y ] ≡ y
off x e = rw e

pub started_none : (b n : ℕ) → (b ≡ 105 → ⊥) → (b ≡ 114 → ⊥) → (b ≡ 102 → ⊥) → (b ≡ 118 → ⊥) → (b ≡ 116 → ⊥) → (b ≡ 110 → ⊥) → (b ≡ 97 → ⊥) → (b ≡ 111 → ⊥) → (b ≡ 108 → ⊥) → (b ≡ 109 → ⊥) → (b ≡ 100 → ⊥) → started_by b n ≡ None
unfolding started_by
started_none b n h105 h114 h102 h118 h116 h110 h97 h111 h108 h109 h100 = off (Some Ifgoto) (ne_eqb b 105 h105) ∙ off (Some Return) (ne_eqb b 114 h114) ∙ off _ (ne_eqb b 102 h102) ∙ off (Some Vanish) (ne_eqb b 118 h118) ∙ off (Some True) (ne_eqb b 116 h116) ∙ off (Some Not) (ne_eqb b 110 h110) ∙ off (Some And) (ne_eqb b 97 h97) ∙ off (Some Or) (ne_eqb b 111 h111) ∙ off (Some Lookup) (ne_eqb b 108 h108) ∙ off (Some Mutate) (ne_eqb b 109 h109) ∙ off (Some Dispose) (ne_eqb b 100 h100)

pub started_empty : (w : List ℕ) → length w ≡ 0 → started_by (get_or w 0 0) (length w) ≡ None
unfolding started_by
started_empty [] e = refl
started_empty (a ∷ w) e = absurd (omega arith)

pub started_false : (w : List ℕ) → get_or w 0 0 ≡ 102 → length w ≡ 5 → started_by (get_or w 0 0) (length w) ≡ Some False
unfolding started_by
started_false w e l = rw (e, l)

pub started_fail : (w : List ℕ) → get_or w 0 0 ≡ 102 → (length w ≡ 5 → ⊥) → started_by (get_or w 0 0) (length w) ≡ Some Fail
unfolding started_by
started_fail w e l = rw e (rw (ne_eqb (length w) 5 l, started_by))
