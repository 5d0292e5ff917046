-- The token that a run of characters is, by the word that the code finds in it. Assumes nothing.
use Rattle.std.specs.Prelude.{ℕ, ◌+◌, ◌-◌, ◌≤◌, ◌<◌, ◌≡◌, true, List, [], ◌∷◌, take, drop, length, get_or, leb, Some, None}
use Rattle.std.proofs.Common.{sym, ap, ◌∙◌, arith, leb-true, length-take, length-drop}
use Rattle.std.proofs.Math.Option as M
use Rattle.gil.specs.Numbers.{most_characters, largest_number}
use Rattle.gil.specs.Text as Text
use Rattle.gil.specs.Text.{in_run, span, part, name, token_from, word_of, letter, numeral, numbered, identifier}
use Rattle.gil.proofs.Theory.Tests.{chosen}
use Rattle.text_words.specs.declared.keys.Key.{Key}
use Rattle.text_words.specs.declared.words.Word.TheVariants as Word
use Rattle.text_words.specs.Mirror.Words.{said}
use Rattle.text_tokens.specs.declared.tokens.Place.{Place}
use Rattle.text_tokens.specs.declared.tokens.Token.TheVariants.{Name, Number, Reserved, USite, ISite, Fault}
use Rattle.text_tokens.specs.Mirror.Seen.{a_name, a_number, a_key, a_u_site, an_i_site, a_fault, Found}
use Rattle.text_tokens.specs.Steps.Seen.{past_fits, place_is, found-run}

-- a run that is a name is of at most 16 characters
no-number : (o : M.Option ℕ) (x : List ℕ) → numbered o Text.number ≡ name x → ⊥
unfolding numbered
no-number M.none x e = let q : Text.fault ≡ name x = e in cc
no-number (M.some n) x e = let q : Text.number n ≡ name x = e in cc

name-short : (w x : List ℕ) → word_of w ≡ name x → length w ≤ most_characters
unfolding word_of identifier
name-short [] x e = absurd (let q : Text.fault ≡ name x = e in cc)
name-short (b ∷ w) x q =
    chosen (λ (v : Text.Word). v ≡ name x → length (b ∷ w) ≤ most_characters) (letter b)
    (λ _. chosen (λ (v : Text.Word). v ≡ name x → length (b ∷ w) ≤ most_characters) (leb (length (b ∷ w)) most_characters)
    (λ h _. leb-true (length (b ∷ w)) most_characters h)
    (λ _ e. absurd (let z : Text.fault ≡ name x = e in cc)))
    (λ _ e. absurd (no-number (numeral largest_number (b ∷ w)) x e))
    q

module _ (s : List ℕ) (i : ℕ) (h : i < length s) (r : in_run (get_or s i 0) ≡ true) (end : ℕ) (e : end ≡ i + span in_run (drop i s)) where
  pub run_short : word_of (take (end - i) (drop i s)) ≡ said (take (end - i) (drop i s)) (Some Word.Name) → end ≤ i + most_characters
  unfolding said
  run_short w = omega (arith, e, past_fits in_run s i (omega arith), name-short (take (end - i) (drop i s)) (take (end - i) (drop i s)) w, length-take (end - i) (drop i s), length-drop i s)

  pub run_name : (p : Place) → p.start ≡ i → p.start + p.size ≡ end → word_of (take (end - i) (drop i s)) ≡ said (take (end - i) (drop i s)) (Some Word.Name) → Found s i (token_from s i (drop i s)) (Name p) end
  unfolding said part
  run_name p f g w = found-run s i h (Name p) end (λ q. cc) r e (a_name (w ∙ ap name (sym (place_is s p i end f g))))

  pub run_number : (n : ℕ) → word_of (take (end - i) (drop i s)) ≡ said (take (end - i) (drop i s)) (Some (Word.Number n)) → Found s i (token_from s i (drop i s)) (Number n) end
  unfolding said part
  run_number n w = found-run s i h (Number n) end (λ q. cc) r e (a_number w)

  pub run_key : (k : Key) → word_of (take (end - i) (drop i s)) ≡ said (take (end - i) (drop i s)) (Some (Word.Reserved k)) → Found s i (token_from s i (drop i s)) (Reserved k) end
  unfolding said part
  run_key k w = found-run s i h (Reserved k) end (λ q. cc) r e (a_key w)

  pub run_u_site : (n : ℕ) → word_of (take (end - i) (drop i s)) ≡ said (take (end - i) (drop i s)) (Some (Word.USite n)) → Found s i (token_from s i (drop i s)) (USite n) end
  unfolding said part
  run_u_site n w = found-run s i h (USite n) end (λ q. cc) r e (a_u_site w)

  pub run_i_site : (n : ℕ) → word_of (take (end - i) (drop i s)) ≡ said (take (end - i) (drop i s)) (Some (Word.ISite n)) → Found s i (token_from s i (drop i s)) (ISite n) end
  unfolding said part
  run_i_site n w = found-run s i h (ISite n) end (λ q. cc) r e (an_i_site w)

  pub run_fault : word_of (take (end - i) (drop i s)) ≡ said (take (end - i) (drop i s)) None → Found s i (token_from s i (drop i s)) Fault end
  unfolding said part
  run_fault w = found-run s i h Fault end (λ q. cc) r e (a_fault w)
