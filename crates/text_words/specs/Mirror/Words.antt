-- What the code's word says of a run, as the definitions have it. Assumes nothing.
use Rattle.std.specs.Prelude.{ℕ, List, Option, Some, None}
use Rattle.gil.specs.Text
use Rattle.gil.specs.Text.{name, number, key, u_site, i_site, fault}
use Rattle.text_words.specs.declared.words.Word.{Word}
use Rattle.text_words.specs.declared.words.Word.TheVariants.{Name, Number, Reserved, USite, ISite}
use Rattle.text_words.specs.Mirror.Keys.{key_is}

-- the word that the run `w` is
unfoldable pub said : List ℕ → Option Word → Text.Word
said w None = fault
said w (Some Name) = name w
said w (Some (Number n)) = number n
said w (Some (Reserved k)) = key (key_is k)
said w (Some (USite n)) = u_site n
said w (Some (ISite n)) = i_site n
