-- Symbols and identifiers as the code finds them: each comes to what the definitions say a run is. Assumes nothing.
use Rattle.std.specs.Prelude.{ℕ, ◌≤◌, ◌<◌, ◌≡◌, refl, true, false, List, [], ◌∷◌, take, drop, length, get_or, eqb, Option, Some, None}
use Rattle.std.specs.Cmp.Lexicographic.{pointwise}
use Rattle.std.proofs.Common.{sym, ap, ◌∙◌, arith, le-leb, length-take}
use Rattle.std.proofs.lemmas.Bool.{lt-leb}
use Rattle.std.proofs.Math.Option as M
use Rattle.gil.specs.Text.{bytes, number, u_site, i_site, reserved_words, find, numeral, numbered, letter, symbol, u_sym_prefix, i_sym_prefix, identifier, identified, word_of}
use Rattle.gil.specs.Numbers.{largest_number, largest_site, most_characters}
use Rattle.text_words.specs.declared.keys.Key.{Key}
use Rattle.text_words.specs.declared.words.Word.{Word}
use Rattle.text_words.specs.declared.words.Word.TheVariants.{Name, Number, Reserved, USite, ISite}
use Rattle.text_words.specs.Mirror.Keys.{keyed}
use Rattle.text_words.specs.Mirror.Numbers.{counted}
use Rattle.text_words.specs.Mirror.Words.{said}
use Rattle.text_words.specs.Laws.Words.{same-eq}
use Rattle.text_words.specs.Steps.Same.{same_lengths}

-- a number, as each word that holds one
unfoldable pub with_number : (ℕ → Word) → Option ℕ → Option Word
with_number f None = None
with_number f (Some n) = Some (f n)

module _ (w : List ℕ) where
  said-u : (o : Option ℕ) → numbered (counted o) u_site ≡ said w (with_number USite o)
  unfolding numbered counted said with_number
  said-u None = refl
  said-u (Some n) = refl

  said-i : (o : Option ℕ) → numbered (counted o) i_site ≡ said w (with_number ISite o)
  unfolding numbered counted said with_number
  said-i None = refl
  said-i (Some n) = refl

  said-number : (o : Option ℕ) → numbered (counted o) number ≡ said w (with_number Number o)
  unfolding numbered counted said with_number
  said-number None = refl
  said-number (Some n) = refl

  -- fresh symbols: the digits `d` after the prefix
  pub symbol-u : (d : List ℕ) (o : Option ℕ) → pointwise eqb (take 5 w) u_sym_prefix ≡ true → d ≡ drop 5 w → numeral largest_site d ≡ counted o → symbol w ≡ said w (with_number USite o)
  unfolding symbol
  symbol-u d o e f g = rw (sym (same-eq (take 5 w) u_sym_prefix) ∙ e, symbol) (ap (λ (x : List ℕ). numbered (numeral largest_site x) u_site) (sym f) ∙ ap (λ (x : M.Option ℕ). numbered x u_site) g ∙ said-u o)

  pub symbol-i : (d : List ℕ) (o : Option ℕ) → pointwise eqb (take 5 w) u_sym_prefix ≡ false → pointwise eqb (take 5 w) i_sym_prefix ≡ true → d ≡ drop 5 w → numeral largest_site d ≡ counted o → symbol w ≡ said w (with_number ISite o)
  unfolding symbol
  symbol-i d o n e f g = rw (sym (same-eq (take 5 w) u_sym_prefix) ∙ n, symbol) (rw (sym (same-eq (take 5 w) i_sym_prefix) ∙ e) (ap (λ (x : List ℕ). numbered (numeral largest_site x) i_site) (sym f) ∙ ap (λ (x : M.Option ℕ). numbered x i_site) g ∙ said-i o))

  pub symbol-short : length w < 5 → symbol w ≡ said w (Some Name)
  unfolding symbol said
  symbol-short h =
      rw (same_lengths (take 5 w) u_sym_prefix (unfold u_sym_prefix bytes in (λ e. omega (arith, length-take 5 w))), symbol)
      (rw (same_lengths (take 5 w) i_sym_prefix (unfold i_sym_prefix bytes in (λ e. omega (arith, length-take 5 w)))))

  pub symbol-name : pointwise eqb (take 5 w) u_sym_prefix ≡ false → pointwise eqb (take 5 w) i_sym_prefix ≡ false → symbol w ≡ said w (Some Name)
  unfolding symbol said
  symbol-name e f = rw (sym (same-eq (take 5 w) u_sym_prefix) ∙ e, symbol) (rw (sym (same-eq (take 5 w) i_sym_prefix) ∙ f))

  -- identifiers
  pub identifier-long : most_characters < length w → identifier w ≡ said w None
  unfolding identifier said
  identifier-long h = rw (lt-leb (length w) most_characters h, identifier)

  pub identifier-key : (k : Key) → length w ≤ most_characters → find w reserved_words ≡ keyed (Some k) → identifier w ≡ said w (Some (Reserved k))
  unfolding identifier identified said keyed
  identifier-key k h e = rw (le-leb (length w) most_characters h, identifier) (rw e)

  pub identifier-other : (r : Option Word) → length w ≤ most_characters → find w reserved_words ≡ keyed None → symbol w ≡ said w r → identifier w ≡ said w r
  unfolding identifier identified keyed
  identifier-other r h e g = rw (le-leb (length w) most_characters h, identifier) (rw e g)

-- a run by its first character
pub word-none : (w : List ℕ) → length w ≡ 0 → word_of w ≡ said w None
unfolding word_of said
word-none [] h = refl
word-none (b ∷ w) h = absurd (omega arith)

pub word-letter : (w : List ℕ) (r : Option Word) → (length w ≡ 0 → ⊥) → letter (get_or w 0 0) ≡ true → identifier w ≡ said w r → word_of w ≡ said w r
unfolding word_of
word-letter [] r n e g = absurd (n refl)
word-letter (b ∷ w) r n e g = rw (e, word_of) g

pub word-number : (w : List ℕ) (o : Option ℕ) → (length w ≡ 0 → ⊥) → letter (get_or w 0 0) ≡ false → numeral largest_number w ≡ counted o → word_of w ≡ said w (with_number Number o)
unfolding word_of
word-number [] o n e g = absurd (n refl)
word-number (b ∷ w) o n e g = rw (e, word_of) (ap (λ (x : M.Option ℕ). numbered x number) g ∙ said-number (b ∷ w) o)
