-- The token at a place, by the byte that stands there: a run, a quote, a colon, another mark, the end. Assumes nothing.
use Rattle.std.specs.Prelude.{ℕ, suc, ◌+◌, ◌-◌, ◌≤◌, ◌<◌, ◌≡◌, ◌≢◌, refl, Bool, true, false, ◌&&◌, List, [], ◌∷◌, take, drop, length, get_or, leb, eqb}
use Rattle.std.proofs.Common.{sym, ap, ◌∙◌, subst, arith, add-one, length-drop, drop_of_length-le, drop-cons, drop-drop, eq-eqb, ne_eqb, le-leb}
use Rattle.std.proofs.lemmas.Bool.{lt-leb}
use Rattle.gil.specs.Text.{in_run, white, span, part, word, property, becomes, mark, Lexeme, quoted, coloned, marked, token_from, skip_white, lexeme, word_of}
use Rattle.gil.specs.Numbers.{most_characters}
use Rattle.text_tokens.specs.declared.tokens.Place.{Place}
use Rattle.text_tokens.specs.declared.tokens.Token.{Token}
use Rattle.text_tokens.specs.declared.tokens.Token.TheVariants.{Property, Becomes, Mark, Ended}
use Rattle.text_tokens.specs.Mirror.Seen.{name_at, Seen, a_property, becoming, a_mark, the_end, Found}

and_false : (a : Bool) → a && false ≡ false
and_false true = refl
and_false false = refl

pub place_is : (s : List ℕ) (p : Place) (start end : ℕ) → p.start ≡ start → p.start + p.size ≡ end → name_at s p ≡ part s start (end - start)
unfolding name_at
place_is s p start end e f = let g : p.size ≡ end - start = omega arith in rw (e, g)

pub span_fits : (p : ℕ → Bool) (l : List ℕ) → span p l ≤ length l
unfolding span
span_fits p [] = omega arith
span_fits p (b ∷ l) = at (p b) (span_fits p l)
  where
    at : (t : Bool) → span p l ≤ length l → elim t [ true ↦ suc (span p l) | false ↦ 0 ] ≤ suc (length l)
    at true h = omega arith
    at false h = omega arith

-- where a run or white space ends, in the text
pub past_fits : (p : ℕ → Bool) (s : List ℕ) (at : ℕ) → at ≤ length s → at + span p (drop at s) ≤ length s
past_fits p s at h = omega (arith, span_fits p (drop at s), length-drop at s)

-- the end of the text
pub found-end : (s : List ℕ) (i : ℕ) → length s ≤ i → Found s i (token_from s i (drop i s)) Ended i
unfolding token_from
found-end s i h = subst (λ (r : List ℕ). Found s i (token_from s i r) Ended i) (sym (drop_of_length-le s h)) (record { seen = the_end; next = refl; on = omega arith; more = λ n. absurd (n refl); within = λ l. l; ends = λ l. refl })

module _ (s : List ℕ) (i : ℕ) (h : i < length s) where
  token-at : token_from s i (drop i s) ≡ token_from s i (get_or s i 0 ∷ drop (suc i) s)
  token-at = ap (token_from s i) (drop-cons s i 0 h)

  mark-at : in_run (get_or s i 0) ≡ false → token_from s i (drop i s) ≡ marked s i (get_or s i 0) (drop (suc i) s)
  unfolding token_from
  mark-at e = token-at ∙ rw (e, token_from)

  found-mark : (b : ℕ) → b < 256 → token_from s i (drop i s) ≡ record { token = mark b; next = suc i } → Found s i (token_from s i (drop i s)) (Mark b) (i + 1)
  found-mark b l e =
      rw e
      (record {
        seen = a_mark l;
        next = omega arith;
        on = omega arith;
        more = λ n. omega arith;
        within = λ g. omega arith;
        ends = λ g. absurd (omega arith);
      })

  -- a byte in no run that is neither a quote nor a colon
  pub found_plain : (b : ℕ) → get_or s i 0 ≡ b → b < 256 → in_run b ≡ false → (b ≡ 34 → ⊥) → (b ≡ 58 → ⊥) → Found s i (token_from s i (drop i s)) (Mark b) (i + 1)
  unfolding marked
  found_plain b d l e q c =
      found-mark b l (mark-at (rw d e) ∙ ap (λ (a : ℕ). marked s i a (drop (suc i) s)) d ∙ rw (ne_eqb b 34 q, marked) (rw (ne_eqb b 58 c)))

  -- a colon
  colon_at : get_or s i 0 ≡ 58 → token_from s i (drop i s) ≡ coloned i (drop (suc i) s)
  unfolding marked in_run Rattle.gil.specs.Text.letter Rattle.gil.specs.Text.digit
  colon_at d = mark-at (rw d) ∙ ap (λ (a : ℕ). marked s i a (drop (suc i) s)) d

  pub found_colon_last : get_or s i 0 ≡ 58 → length s ≤ i + 1 → Found s i (token_from s i (drop i s)) (Mark 58) (i + 1)
  unfolding coloned
  found_colon_last d l =
      let g : length s ≤ suc i = omega arith in
      found-mark 58 (omega arith) (colon_at d ∙ rw (drop_of_length-le s g))

  pub found_colon : get_or s i 0 ≡ 58 → i + 1 < length s → (get_or s (i + 1) 0 ≡ 61 → ⊥) → Found s i (token_from s i (drop i s)) (Mark 58) (i + 1)
  unfolding coloned
  found_colon d l n =
      let g : suc i < length s = omega arith in
      let m : get_or s (suc i) 0 ≡ 61 → ⊥ = rw add-one at n in
      found-mark 58 (omega arith) (colon_at d ∙ rw (drop-cons s (suc i) 0 g) (rw (ne_eqb (get_or s (suc i) 0) 61 m, coloned)))

  pub found-becomes : get_or s i 0 ≡ 58 → i + 1 < length s → get_or s (i + 1) 0 ≡ 61 → Found s i (token_from s i (drop i s)) Becomes (i + 1 + 1)
  found-becomes d l n =
      rw lexed
      (record {
        seen = becoming;
        next = omega arith;
        on = omega arith;
        more = λ m. omega arith;
        within = λ m. omega arith;
        ends = λ m. absurd (omega arith);
      })
    where
      g : suc i < length s
      g = omega arith

      m : get_or s (suc i) 0 ≡ 61
      m = rw add-one at n

      lexed : token_from s i (drop i s) ≡ record { token = becomes; next = suc (suc i) }
      lexed = unfold coloned in colon_at d ∙ rw (drop-cons s (suc i) 0 g) (rw (m, coloned))

  -- a quote; `n` characters of a run stand after it
  quote_at : (n : ℕ) → get_or s i 0 ≡ 34 → n ≡ span in_run (drop (suc i) s) → token_from s i (drop i s) ≡ quoted s i n (drop n (drop (suc i) s))
  unfolding marked in_run Rattle.gil.specs.Text.letter Rattle.gil.specs.Text.digit
  quote_at n d e = mark-at (rw d) ∙ ap (λ (a : ℕ). marked s i a (drop (suc i) s)) d ∙ ap (λ (m : ℕ). quoted s i m (drop m (drop (suc i) s))) (sym e)

  found_quote_last : (n : ℕ) → get_or s i 0 ≡ 34 → n ≡ span in_run (drop (suc i) s) → length s ≤ i + 1 + n → Found s i (token_from s i (drop i s)) (Mark 34) (i + 1)
  unfolding quoted
  found_quote_last n d e l =
      let g : length s ≤ suc i + n = omega arith in
      found-mark 34 (omega arith) (quote_at n d e ∙ rw (drop-drop n (suc i) s) (rw (drop_of_length-le s g)))

  module _ (n : ℕ) (d : get_or s i 0 ≡ 34) (e : n ≡ span in_run (drop (suc i) s)) (l : i + 1 + n < length s) where
    quote_then : token_from s i (drop i s) ≡ quoted s i n (get_or s (suc i + n) 0 ∷ drop (suc (suc i + n)) s)
    quote_then = let g : suc i + n < length s = omega arith in quote_at n d e ∙ rw (drop-drop n (suc i) s) (ap (quoted s i n) (drop-cons s (suc i + n) 0 g))

    no-property : eqb (get_or s (suc i + n) 0) 34 && (leb 1 n && leb n most_characters) ≡ false → Found s i (token_from s i (drop i s)) (Mark 34) (i + 1)
    unfolding quoted
    no-property f = found-mark 34 (omega arith) (quote_then ∙ rw (f, quoted))

    found_quote_open : (get_or s (i + 1 + n) 0 ≡ 34 → ⊥) → Found s i (token_from s i (drop i s)) (Mark 34) (i + 1)
    found_quote_open m = no-property (rw (ne_eqb (get_or s (suc i + n) 0) 34 (rw add-one at m)))

    found_quote_empty : n ≤ 0 → Found s i (token_from s i (drop i s)) (Mark 34) (i + 1)
    found_quote_empty z = no-property (rw (lt-leb 1 n (omega arith)) (and_false (eqb (get_or s (suc i + n) 0) 34)))

    found_quote_long : most_characters < n → Found s i (token_from s i (drop i s)) (Mark 34) (i + 1)
    found_quote_long z = no-property (rw (lt-leb n most_characters (omega arith), le-leb 1 n (omega arith)) (and_false (eqb (get_or s (suc i + n) 0) 34)))

    found-property : get_or s (i + 1 + n) 0 ≡ 34 → 0 < n → n ≤ most_characters → (p : Place) → name_at s p ≡ part s (i + 1) n → Found s i (token_from s i (drop i s)) (Property p) (i + 1 + n + 1)
    found-property q a b p w =
        rw lexed
        (record {
          seen = a_property named;
          next = omega arith;
          on = omega arith;
          more = λ m. omega arith;
          within = λ m. omega arith;
          ends = λ m. absurd (omega arith);
        })
      where
        named : name_at s p ≡ part s (suc i) n
        named = rw add-one at w

        lexed : token_from s i (drop i s) ≡ record { token = property (part s (suc i) n); next = suc (suc (i + n)) }
        lexed = unfold quoted in quote_then ∙ rw (eq-eqb (get_or s (suc i + n) 0) 34 (rw add-one at q), le-leb 1 n a, le-leb n most_characters (omega arith), quoted)

  -- the same as the code counts: the run after the quote ends at `end`
  module _ (end : ℕ) (d : get_or s i 0 ≡ 34) (e : end ≡ i + 1 + span in_run (drop (i + 1) s)) where
    count : end - (i + 1) ≡ span in_run (drop (suc i) s)
    count = let f : end ≡ suc i + span in_run (drop (suc i) s) = rw add-one at e in omega arith

    ending : i + 1 + (end - (i + 1)) ≡ end
    ending = omega arith

    pub quote_last : length s ≤ end → Found s i (token_from s i (drop i s)) (Mark 34) (i + 1)
    quote_last l = found_quote_last (end - (i + 1)) d count (omega (arith, ending))

    pub quote_open : end < length s → (get_or s end 0 ≡ 34 → ⊥) → Found s i (token_from s i (drop i s)) (Mark 34) (i + 1)
    quote_open l m = found_quote_open (end - (i + 1)) d count (omega (arith, ending)) (subst (λ (j : ℕ). get_or s j 0 ≡ 34 → ⊥) (sym ending) m)

    pub quote_empty : end < length s → end - (i + 1) ≤ 0 → Found s i (token_from s i (drop i s)) (Mark 34) (i + 1)
    quote_empty l z = found_quote_empty (end - (i + 1)) d count (omega (arith, ending)) z

    pub quote_long : end < length s → most_characters < end - (i + 1) → Found s i (token_from s i (drop i s)) (Mark 34) (i + 1)
    quote_long l z = found_quote_long (end - (i + 1)) d count (omega (arith, ending)) z

    pub quote_property : (p : Place) → p.start ≡ i + 1 → p.start + p.size ≡ end → end < length s → get_or s end 0 ≡ 34 → 0 < end - (i + 1) → end - (i + 1) ≤ most_characters → Found s i (token_from s i (drop i s)) (Property p) (end + 1)
    quote_property p f g l q a b =
        subst (λ (j : ℕ). Found s i (token_from s i (drop i s)) (Property p) (j + 1)) ending
        (found-property (end - (i + 1)) d count (omega (arith, ending)) (subst (λ (j : ℕ). get_or s j 0 ≡ 34) (sym ending) q) a b p (place_is s p (i + 1) end f g))

  -- a run; it ends at `end`
  pub found-run : (t : Token) (end : ℕ) → (t ≢ Ended) → in_run (get_or s i 0) ≡ true → end ≡ i + span in_run (drop i s) → Seen s (word (part s i (end - i))) t → Found s i (token_from s i (drop i s)) t end
  unfolding part
  found-run t end a r e seen =
      rw lexed
      (record {
        seen = seen;
        next = omega arith;
        on = omega arith;
        more = λ m. omega (arith, one);
        within = λ m. omega (arith, past_fits in_run s i (omega arith));
        ends = λ m. absurd (omega arith);
      })
    where
      one : span in_run (drop i s) ≡ suc (span in_run (drop (suc i) s))
      one = unfold span in ap (span in_run) (drop-cons s i 0 h) ∙ rw (r, span)

      is : end - i ≡ suc (span in_run (drop (suc i) s))
      is = omega (arith, one)

      lexed : token_from s i (drop i s) ≡ record { token = word (take (end - i) (drop i s)); next = i + (end - i) }
      lexed = unfold token_from in token-at ∙ rw (r, token_from) (rw is)

-- past the white space
pub found-past : (s : List ℕ) (at i : ℕ) (t : Token) (n : ℕ) → i ≡ at + span white (drop at s) → Found s i (token_from s i (drop i s)) t n → Found s at (lexeme s at) t n
found-past s at i t n e f =
    let g : at ≤ i = omega (arith, e) in
    record {
      seen = subst (λ (l : Lexeme). Seen s l.token t) lexed f.seen;
      next = f.next ∙ ap (λ (l : Lexeme). l.next) lexed;
      on = omega (arith, f.on);
      more = λ m. omega (arith, f.more m);
      within = λ m. f.within (rw e (past_fits white s at m));
      ends = λ m. f.ends (omega arith);
    }
  where
    lexed : token_from s i (drop i s) ≡ lexeme s at
    lexed = unfold lexeme skip_white in ap (λ (j : ℕ). token_from s j (drop j s)) e
