-- A mark that no other token starts with is told by its byte. Assumes nothing.
use Rattle.std.specs.Prelude.{ℕ, suc, ◌+◌, ◌≤◌, ◌<◌, ◌≡◌, refl, Bool, true, false, not, ◌&&◌, ◌||◌, List, [], ◌∷◌, length, drop, get_or, eqb, Some, None}
use Rattle.std.proofs.Common.{sym, ap, ◌∙◌, drop_of_length-le, drop-cons, ne_eqb, eqb-true}
use Rattle.gil.specs.Text.{letter, digit, in_run, white, span, within, property, becomes, mark, Lexeme, quoted, coloned, marked, token_from, skip_white, lexeme}
use Rattle.gil.specs.Reading.{is_mark}
use Rattle.gil.specs.Numbers.{most_characters}
use Rattle.gil.proofs.Theory.Tests.{no_false, both}
use Rattle.text_tokens.specs.declared.tokens.Token.TheVariants.{Mark}
use Rattle.text_tokens.specs.Mirror.Marks.{lone, Marked}
use Rattle.text_tokens.specs.Steps.Seen.{found_plain, found-past}

-- no other token starts with one of them
unfoldable plain : ℕ → Bool
plain b = not (in_run b) && (not (eqb b 34) && not (eqb b 58))

either : {P : Type 0} (b n : ℕ) {t : Bool} → (b ≡ n → P) → (t ≡ true → P) → eqb b n || t ≡ true → P
either {P} b n {t} f g = at (eqb b n) refl
  where
    at : (u : Bool) → eqb b n ≡ u → u || t ≡ true → P
    at true e h = f (eqb-true b n e)
    at false e h = g h

lone-plain : (b : ℕ) → lone b ≡ true → plain b ≡ true
unfolding plain in_run letter digit
lone-plain b =
    either b 40 (λ e. rw e) (either b 41 (λ e. rw e) (either b 44 (λ e. rw e) (either b 59 (λ e. rw e)
    (either b 91 (λ e. rw e) (either b 93 (λ e. rw e) (either b 123 (λ e. rw e) (λ h. rw (eqb-true b 125 h))))))))

denied : (t : Bool) → not t ≡ true → t ≡ false
denied true e = sym e
denied false e = refl

module _ (b : ℕ) (h : lone b ≡ true) where
  no_run : in_run b ≡ false
  unfolding plain
  no_run = denied (in_run b) (both (not (in_run b)) (not (eqb b 34) && not (eqb b 58)) (lone-plain b h)).0

  neither : (not (eqb b 34) ≡ true) × (not (eqb b 58) ≡ true)
  unfolding plain
  neither = both (not (eqb b 34)) (not (eqb b 58)) (both (not (in_run b)) (not (eqb b 34) && not (eqb b 58)) (lone-plain b h)).1

  no_quote : eqb b 34 ≡ false
  no_quote = denied (eqb b 34) neither.0

  no_colon : eqb b 58 ≡ false
  no_colon = denied (eqb b 58) neither.1

  in_quotes : (s : List ℕ) (i n : ℕ) (rest : List ℕ) → is_mark b (quoted s i n rest).token ≡ false
  unfolding quoted is_mark
  in_quotes s i n [] = no_quote
  in_quotes s i n (c ∷ rest) = at (eqb c 34 && within 1 most_characters n)
    where
      at : (t : Bool) → is_mark b (Lexeme.token (elim t [ true ↦ record { token = property (Rattle.gil.specs.Text.part s (suc i) n); next = suc (suc (i + n)) } | false ↦ record { token = mark 34; next = suc i } ])) ≡ false
      at true = refl
      at false = no_quote

  at_colon : (i : ℕ) (rest : List ℕ) → is_mark b (coloned i rest).token ≡ false
  unfolding coloned is_mark
  at_colon i [] = no_colon
  at_colon i (c ∷ rest) = at (eqb c 61)
    where
      at : (t : Bool) → is_mark b (Lexeme.token (elim t [ true ↦ record { token = becomes; next = suc (suc i) } | false ↦ record { token = mark 58; next = suc i } ])) ≡ false
      at true = refl
      at false = no_colon

  byte_of : (s : List ℕ) (i c : ℕ) (rest : List ℕ) (u v : Bool) → (c ≡ b → ⊥)
      → is_mark b (Lexeme.token (elim u [ true ↦ quoted s i (span in_run rest) (drop (span in_run rest) rest) | false ↦ elim v [ true ↦ coloned i rest | false ↦ record { token = mark c; next = suc i } ] ])) ≡ false
  unfolding is_mark
  byte_of s i c rest true v d = in_quotes s i (span in_run rest) (drop (span in_run rest) rest)
  byte_of s i c rest false true d = at_colon i rest
  byte_of s i c rest false false d = ne_eqb b c (λ e. d (sym e))

  another : (s : List ℕ) (i c : ℕ) (rest : List ℕ) → (c ≡ b → ⊥) → is_mark b (token_from s i (c ∷ rest)).token ≡ false
  unfolding token_from marked is_mark
  another s i c rest d = at (in_run c) refl
    where
      at : (t : Bool) → in_run c ≡ t → is_mark b (token_from s i (c ∷ rest)).token ≡ false
      at true e = rw (e, token_from)
      at false e = rw (e, token_from) (byte_of s i c rest (eqb c 34) (eqb c 58) d)

  module _ (s : List ℕ) (at i : ℕ) (e : i ≡ at + span white (drop at s)) where
    none-there : is_mark b (token_from s i (drop i s)).token ≡ false → Marked s at b None
    unfolding lexeme skip_white
    none-there g = ap (λ (j : ℕ). is_mark b (token_from s j (drop j s)).token) (sym e) ∙ g

    pub marked-end : length s ≤ i → Marked s at b None
    unfolding token_from is_mark
    marked-end l = none-there (ap (λ (r : List ℕ). is_mark b (token_from s i r).token) (drop_of_length-le s l))

    pub marked_other : i < length s → (get_or s i 0 ≡ b → ⊥) → Marked s at b None
    marked_other l d = none-there (ap (λ (r : List ℕ). is_mark b (token_from s i r).token) (drop-cons s i 0 l) ∙ another s i (get_or s i 0) (drop (suc i) s) d)

    pub marked-there : i < length s → get_or s i 0 ≡ b → b < 256 → Marked s at b (Some (i + 1))
    marked-there l d small = found-past s at i (Mark b) (i + 1) e (found_plain s i l b d small no_run (λ z. no_false (ap (λ (c : ℕ). eqb c 34) z) no_quote) (λ z. no_false (ap (λ (c : ℕ). eqb c 58) z) no_colon))
