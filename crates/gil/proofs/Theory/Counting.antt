-- How many of a list pass a test, and the one that does where it is one. Assumes nothing.
use Rattle.std.specs.Prelude.{ℕ, suc, ◌+◌, Bool, ◌&&◌, ◌≡◌}
use Rattle.std.proofs.Math.Bool.{true, false}
use Rattle.std.proofs.Math.Path.{refl, ap, subst}
use mathlib.Core.List.{List, [], ◌∷◌, ◌++◌}
use native.Mathlib.Omega.{arith}
use Rattle.gil.specs.Values.{same_truth}
use Rattle.gil.specs.Accounts.{Stands, here, further}
use Rattle.gil.proofs.Theory.Tests.{no_false}

-- how many of a list pass a test
unfoldable pub one : Bool → ℕ
one true = 1
one false = 0

unfoldable pub many : {A : Type 0} → (A → Bool) → List A → ℕ
many f [] = 0
many f (a ∷ l) = one (f a) + many f l

pub data All {A : Type 0} (P : A → Type 0) : List A → Type 0 where
  nil : All P []
  cons : {a : A} {l : List A} → P a → All P l → All P (a ∷ l)

module _ {A : Type 0} where
  pub many-append : (f : A → Bool) (l m : List A) → many f (l ++ m) ≡ many f l + many f m
  unfolding many
  many-append f [] m = omega arith
  many-append f (a ∷ l) m = let e : many f (l ++ m) ≡ many f l + many f m = many-append f l m in omega arith

  pub all_append : {P : A → Type 0} {l m : List A} → All P l → All P m → All P (l ++ m)
  all_append nil q = q
  all_append (cons a p) q = cons a (all_append p q)

  pub all-at : {P : A → Type 0} {l : List A} {k : ℕ} {a : A} → All P l → Stands k a l → P a
  all-at nil s = elim s [ ]
  all-at (cons h hs) here = h
  all-at (cons h hs) (further s) = all-at hs s

  -- if none passes the test, what stands somewhere does not
  none_passes : (f : A → Bool) {k : ℕ} {a : A} {l : List A} → many f l ≡ 0 → Stands k a l → f a ≡ true → ⊥
  unfolding many one
  none_passes f {a} e (here {l}) h =
      let d : one (f a) ≡ 1 = ap one h in
      let e' : one (f a) + many f l ≡ 0 = e in
      omega arith
  none_passes f e (further {b} {l} s) h =
      let e' : one (f b) + many f l ≡ 0 = e in
      none_passes f (omega arith) s h

  -- what passes a test that only one passes, with its place
  pub record Only (f : A → Bool) (l : List A) : Type 0 where
    pub place : ℕ
    pub found : A
    pub stands : Stands place found l
    pub passes : f found ≡ true
    pub only : (k : ℕ) (a : A) → Stands k a l → f a ≡ true → k ≡ place

  only_here : (f : A → Bool) (a : A) (l : List A) → f a ≡ true → many f l ≡ 0 → Only f (a ∷ l)
  only_here f a l h e = record { place = 0; found = a; stands = here; passes = h; only = λ k b s i. first e s i }
    where
      first : {k : ℕ} {b : A} → many f l ≡ 0 → Stands k b (a ∷ l) → f b ≡ true → k ≡ 0
      first e here i = refl
      first e (further s) i = absurd (none_passes f e s i)

  only-further : (f : A → Bool) (a : A) (l : List A) → f a ≡ false → Only f l → Only f (a ∷ l)
  only-further f a l h o =
      record {
        place = suc o.place;
        found = o.found;
        stands = further o.stands;
        passes = o.passes;
        only = λ k b s i. second s i;
      }
    where
      second : {k : ℕ} {b : A} → Stands k b (a ∷ l) → f b ≡ true → k ≡ suc o.place
      second here i = no_false i h
      second (further {k} {a = b} s) i = ap suc (o.only k b s i)

  pub only_one : (f : A → Bool) (l : List A) → many f l ≡ 1 → Only f l
  unfolding many one
  only_one f [] e = absurd (omega arith)
  only_one f (a ∷ l) e = at (f a) refl (only_one f l)
    where
      at : (b : Bool) → f a ≡ b → (many f l ≡ 1 → Only f l) → Only f (a ∷ l)
      at true h rest =
          let d : one true + many f l ≡ 1 = subst (λ (b : Bool). one b + many f l ≡ 1) h e in
          only_here f a l h (omega arith)
      at false h rest =
          let d : one false + many f l ≡ 1 = subst (λ (b : Bool). one b + many f l ≡ 1) h e in
          only-further f a l h (rest (omega arith))

pub halves : (a x : Bool) → one (a && same_truth true x) + one (a && same_truth false x) ≡ one a
unfolding one same_truth
halves true true = refl
halves true false = refl
halves false x = refl
