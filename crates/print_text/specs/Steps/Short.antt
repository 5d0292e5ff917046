-- The names of an accepted text's procedures are of at most 16 characters, as every identifier is. Assumes nothing.
use Rattle.std.specs.Prelude.{ℕ, zero, suc, ◌≤◌, ◌<◌, ◌≡◌, Bool, true, false, List, [], ◌∷◌, map, length, get_or, take, leb}
use Rattle.std.proofs.Common.{arith, leb-true}
use Rattle.std.proofs.Math.Option.{Option, none, some}
use Rattle.gil.specs.Numbers.{most_characters}
use Rattle.gil.specs.Text.{Token, word, property, becomes, mark, ended, Word, number, u_site, i_site, Key, letter, same, u_sym_prefix, i_sym_prefix, numbered, symbol, identified, identifier, word_of}
use Rattle.gil.specs.Tree.{Proc, Name}
use Rattle.gil.specs.Reading.{Read, faulty, read, Reader, after, ◌>>=◌, ◌>>◌, done, nothing, is_ended, as_word, name_of, the_name, or_more, one_or_more, procedure, procedures_of, procedures}
use Rattle.gil.specs.Names.{Program, accepted, check_text, number_proc, number_program}
use Rattle.gil.specs.Machine.{procedure_at}
use Rattle.gil.proofs.Theory.Tests.{chosen}
use Rattle.machine_code.specs.WellFormed.{Each}
use Rattle.machine_code.specs.WellFormed as each
use Rattle.machine_code.proofs.Accepted.{Passed, accepted-passed}
use Rattle.print_laws.specs.Laws.Printable.{name_range}

-- what holds of what a reader read, if it read anything
data Gives {A : Type 0} (P : A → Type 0) : Read A → Type 0 where
  nought : Gives P faulty
  gives : {a : A} {next : ℕ} → P a → Gives P (read a next)

given : {A : Type 0} {P : A → Type 0} {a : A} {next : ℕ} → Gives P (read a next) → P a
given (gives h) = h

-- readers in a row, where something is known of what the first one read, and where nothing is
module _ {A B : Type 0} {Q : B → Type 0} (s : List ℕ) (f : A → Reader B) where
  gives_then : {P : A → Type 0} {r : Read A} → Gives P r → ((a : A) (n : ℕ) → P a → Gives Q (f a s n)) → Gives Q (after s r f)
  unfolding after
  gives_then nought k = nought
  gives_then (gives h) k = k _ _ h

  gives_on : (r : Read A) → ((a : A) (n : ℕ) → Gives Q (f a s n)) → Gives Q (after s r f)
  unfolding after
  gives_on faulty k = nought
  gives_on (read a n) k = k a n

abbrev Short : Name → Type 0
Short w = length w ≤ most_characters

abbrev ShortProc : Proc Name → Type 0
ShortProc p = Short p.name

module _ (s : List ℕ) (at : ℕ) where
  -- a word is no name, or a short one
  abbrev Named : Word → Type 0
  Named w = Gives Short (name_of w s at)

  no_name : (o : Option ℕ) (f : ℕ → Word) → ((n : ℕ) → Named (f n)) → Named (numbered o f)
  unfolding numbered name_of nothing
  no_name none f k = nought
  no_name (some n) f k = k n

  symbol_short : (w : List ℕ) → Short w → Named (symbol w)
  unfolding symbol name_of nothing done
  symbol_short w h =
      chosen Named (same (take 5 w) u_sym_prefix)
      (λ _. no_name _ u_site (λ n. nought))
      (λ _. chosen Named (same (take 5 w) i_sym_prefix) (λ _. no_name _ i_site (λ n. nought)) (λ _. gives h))

  identified_short : (w : List ℕ) (o : Option Key) → Short w → Named (identified w o)
  unfolding identified name_of nothing
  identified_short w none h = symbol_short w h
  identified_short w (some k) h = nought

  word_short : (w : List ℕ) → Named (word_of w)
  unfolding word_of identifier name_of nothing
  word_short [] = nought
  word_short (b ∷ w) =
      chosen Named (letter b)
      (λ _. chosen Named (leb (length (b ∷ w)) most_characters) (λ e. identified_short (b ∷ w) _ (leb-true _ _ e)) (λ _. nought))
      (λ _. no_name _ number (λ n. nought))

  token_short : (t : Token) → Named (as_word t)
  unfolding as_word name_of nothing
  token_short (word w) = word_short w
  token_short (property p) = nought
  token_short becomes = nought
  token_short (mark b) = nought
  token_short ended = nought

module _ (s : List ℕ) where
  name_short : (at : ℕ) → Gives Short (the_name s at)
  unfolding the_name ◌>>=◌
  name_short at = gives_on s _ _ (λ t n. token_short s n t)

  procedure_short : (at : ℕ) → Gives ShortProc (procedure s at)
  unfolding procedure ◌>>=◌ ◌>>◌ done
  procedure_short at =
      gives_then s _ (name_short at) λ f _ h.
      gives_on s _ _ λ _ _. gives_on s _ _ λ _ _. gives_on s _ _ λ _ _. gives_on s _ _ λ _ _. gives_on s _ _ λ _ _. gives_on s _ _ λ _ _. gives h

  -- one procedure or more
  more_short :
      (more : Reader (List (Proc Name))) (p : Proc Name) (at : ℕ) → ShortProc p → ((n : ℕ) → Gives (Each ShortProc) (more s n)) → (last : Bool)
      → Gives (Each ShortProc) (or_more more p last s at)
  unfolding or_more ◌>>=◌ done
  more_short more p at h rest true = gives (each.more h each.none)
  more_short more p at h rest false = gives_then s _ (rest at) λ _ _ hs. gives (each.more h hs)

  procedures_short : (fuel at : ℕ) → Gives (Each ShortProc) (procedures_of fuel s at)
  unfolding procedures_of one_or_more ◌>>=◌
  procedures_short zero at = nought
  procedures_short (suc n) at =
      gives_then s _ (procedure_short at) λ p _ h. gives_on s _ _ λ t m. more_short _ p m h (procedures_short n) (is_ended t)

-- numbering keeps the names
numbered_short :
    {ps : List (Proc Name)} (q f : Name → ℕ) (k : ℕ) → Each ShortProc ps
    → Short (get_or (map (number_proc q f) ps) k (record { name = []; variables = 0; body = [] })).name
unfolding number_proc
numbered_short q f k each.none = omega arith
numbered_short q f zero (each.more h hs) = h
numbered_short q f (suc k) (each.more h hs) = numbered_short q f k hs

kept : (ps : List (Proc Name)) (k : ℕ) → Each ShortProc ps → Short (procedure_at (number_program ps) k).name
unfolding procedure_at number_program
kept ps k h = numbered_short _ _ k h

pub names_short :
    (text : List ℕ) (p : Program) → check_text text ≡ accepted p → (k : ℕ) → k < length p.procedures → length (procedure_at p k).name < name_range
unfolding procedures
names_short text p e k _ =
    let a : Passed text p = accepted-passed text p e in
    let all : Each ShortProc a.procs = given (rw a.is at (procedures_short text (suc (length text)) 0)) in
    let h : Short (procedure_at p k).name = rw a.numbered (kept a.procs k all) in
    omega (arith, h)
