-- What a token of the code says of a token of the definitions, and of the place after it. Assumes nothing.
use Rattle.std.specs.Prelude.{ℕ, ◌≤◌, ◌<◌, ◌≡◌, ◌≢◌, List, length}
use Rattle.gil.specs.Text
use Rattle.gil.specs.Text.{part, word, property, becomes, mark, ended, Lexeme, word_of, name, number, key, u_site, i_site, fault}
use Rattle.text_words.specs.declared.keys.Key.{Key}
use Rattle.text_words.specs.Mirror.Keys.{key_is}
use Rattle.text_tokens.specs.declared.tokens.Place.{Place}
use Rattle.text_tokens.specs.declared.tokens.Token.{Token}
use Rattle.text_tokens.specs.declared.tokens.Token.TheVariants.{Name, Number, Reserved, USite, ISite, Fault, Property, Becomes, Mark, Ended}

-- the name or property at a place
unfoldable pub name_at : List ℕ → Place → List ℕ
name_at s p = part s p.start p.size

-- the code's token says what the token of the definitions is, and of a run what word it is
pub data Seen (s : List ℕ) : Text.Token → Token → Type 0 where
  a_name : {w : List ℕ} {p : Place} → word_of w ≡ name (name_at s p) → Seen s (word w) (Name p)
  a_number : {w : List ℕ} {n : ℕ} → word_of w ≡ number n → Seen s (word w) (Number n)
  a_key : {w : List ℕ} {k : Key} → word_of w ≡ key (key_is k) → Seen s (word w) (Reserved k)
  a_u_site : {w : List ℕ} {n : ℕ} → word_of w ≡ u_site n → Seen s (word w) (USite n)
  an_i_site : {w : List ℕ} {n : ℕ} → word_of w ≡ i_site n → Seen s (word w) (ISite n)
  a_fault : {w : List ℕ} → word_of w ≡ fault → Seen s (word w) Fault
  a_property : {w : List ℕ} {p : Place} → name_at s p ≡ w → Seen s (property w) (Property p)
  becoming : Seen s becomes Becomes
  a_mark : {b : ℕ} → b < 256 → Seen s (mark b) (Mark b)
  the_end : Seen s ended Ended

-- a lexeme found from a place on; a token within the text is followed by a place within the text
pub record Found (s : List ℕ) (at : ℕ) (l : Lexeme) (t : Token) (n : ℕ) : Type 0 where
  pub seen : Seen s l.token t
  pub next : n ≡ l.next
  pub on : at ≤ n
  pub more : (t ≢ Ended) → at < n
  pub within : at ≤ length s → n ≤ length s
  pub ends : length s ≤ at → t ≡ Ended
