-- Lists of items: one or more, read until a token that ends the list. The count of items read is the fuel used of the definitions. Assumes nothing.
use Rattle.std.specs.Prelude.{ℕ, ◌≡◌, Bool, true, false, List, [], ◌∷◌, ◌++◌}
use Rattle.std.proofs.Math.Path.{refl, ap}
use Rattle.std.proofs.Common.{sym, ◌∙◌, append_assoc}
use Rattle.gil.specs.Text.{Token, lexeme}
use Rattle.gil.specs.Reading.{Read, faulty, read, Reader, after, ◌>>=◌, done, ahead, or_more, one_or_more}

-- items before those of a list
unfoldable pub join : {A : Type 0} → List A → Read (List A) → Read (List A)
join so faulty = faulty
join so (read l n) = read (so ++ l) n

pub join-join : {A : Type 0} (so us : List A) (r : Read (List A)) → join so (join us r) ≡ join (so ++ us) r
unfolding join
join-join so us faulty = refl
join-join so us (read l n) = ap (λ (x : List _). read x n) (sym (append_assoc so us l))

pub join-none : {A : Type 0} (r : Read (List A)) → r ≡ join [] r
unfolding join
join-none faulty = refl
join-none (read l n) = refl

module _ {A : Type 0} (s : List ℕ) (item : Reader A) (last : Token → Bool) (more : Reader (List A)) (i : ℕ) where
  pub list_fault : item s i ≡ faulty → one_or_more item last more s i ≡ faulty
  unfolding one_or_more ◌>>=◌ after
  list_fault e = rw (e, after)

  pub list_last : {n : ℕ} (a : A) → item s i ≡ read a n → last (lexeme s n).token ≡ true → one_or_more item last more s i ≡ read (a ∷ []) n
  unfolding one_or_more ◌>>=◌ after ahead or_more done
  list_last {n} a e l = ap (λ (r : Read A). after s r (λ b. ahead >>= λ t. or_more more b (last t))) e ∙ ap (λ (b : Bool). or_more more a b s n) l

  pub list_more : {n : ℕ} (a : A) → item s i ≡ read a n → last (lexeme s n).token ≡ false → one_or_more item last more s i ≡ join (a ∷ []) (more s n)
  unfolding one_or_more ◌>>=◌ after ahead or_more done
  list_more {n} a e l = ap (λ (r : Read A). after s r (λ b. ahead >>= λ t. or_more more b (last t))) e ∙ ap (λ (b : Bool). or_more more a b s n) l ∙ onto (more s n)
    where
      onto : (r : Read (List A)) → after s r (λ l. done (a ∷ l)) ≡ join (a ∷ []) r
      onto faulty = unfold join in refl
      onto (read l m) = unfold join in refl
