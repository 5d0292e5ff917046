-- Readers in a row. Assumes nothing.
use Rattle.std.specs.Prelude.{ℕ, suc, ◌≤◌, ◌≡◌, refl, List, length, Option, None, Some}
use Rattle.std.proofs.Common.{sym, ap, ◌∙◌, subst, arith}
use Rattle.gil.specs.Reading.{Read, faulty, read, Reader, after, done}
use Rattle.text_forms.specs.Mirror.Goes.{Goes, fails, goes, Passes, following}

pub weaken : {s : List ℕ} {low lower : ℕ} {A B : Type 0} {next : B → ℕ} {Q : B → A → Type 0} {r : Read A} {o : Option B} → lower ≤ low → Goes s low next Q r o → Goes s lower next Q r o
weaken h fails = fails
weaken h (goes e l w q) = goes e (omega arith) w q

-- what holds of all that has `Q` holds of what was read
pub onto : {s : List ℕ} {low : ℕ} {A B C : Type 0} {next : B → ℕ} {next' : C → ℕ} {Q : B → A → Type 0} {P : C → A → Type 0} {r : Read A} {b : B} {c : C} → next' c ≡ next b → ((a : A) → Q b a → P c a) → Goes s low next Q r (Some b) → Goes s low next' P r (Some c)
onto z h (goes {a = a} e l w q) = goes (z ∙ e) l w (h a q)

-- what follows from all that was to hold holds
pub implied : {s : List ℕ} {low : ℕ} {A : Type 0} {Q P : A → Type 0} {r : Read A} {o : Option ℕ} → ((a : A) → Q a → P a) → Passes s low Q r o → Passes s low P r o
implied h fails = fails
implied h (goes e l w q) = goes e l w (h _ q)

-- a fault is one whatever was to hold
pub fault : {s : List ℕ} {low lower : ℕ} {A B C : Type 0} {next : B → ℕ} {next' : C → ℕ} {Q : B → A → Type 0} {P : C → A → Type 0} {r : Read A} → Goes s low next Q r None → Goes s lower next' P r None
fault fails = fails

-- what was read, and that nothing was
pub record Item (s : List ℕ) (low : ℕ) {A : Type 0} (Q : A → Type 0) (r : Read A) (n : ℕ) : Type 0 where
  pub item : A
  pub is : r ≡ read item n
  pub has : Q item
  pub on : low ≤ n
  pub within : n ≤ length s

pub was_fault : {s : List ℕ} {low : ℕ} {A B : Type 0} {next : B → ℕ} {Q : B → A → Type 0} {r : Read A} → Goes s low next Q r None → r ≡ faulty
was_fault fails = refl

pub was_read : {s : List ℕ} {low : ℕ} {A B : Type 0} {next : B → ℕ} {Q : B → A → Type 0} {r : Read A} {b : B} → Goes s low next Q r (Some b) → Item s low (Q b) r (next b)
was_read {s} {low} {r = r} (goes {a} {m = m} e l w q) =
    record {
      item = a;
      is = ap (read a) (sym e);
      has = q;
      on = subst (λ (n : ℕ). low ≤ n) (sym e) l;
      within = subst (λ (n : ℕ). n ≤ length s) (sym e) w;
    }

-- what a row comes to, past what was read
pub lost : {s : List ℕ} {low : ℕ} {A B C : Type 0} {next : B → ℕ} {Q : B → A → Type 0} {r : Read A} (f : A → Reader C) → Goes s low next Q r None → after s r f ≡ faulty
unfolding after
lost f fails = refl

pub past : {s : List ℕ} {low n : ℕ} {A C : Type 0} {Q : A → Type 0} {r : Read A} (f : A → Reader C) (i : Item s low Q r n) → after s r f ≡ f i.item s n
unfolding after
past {s} {A = A} f i = ap (λ (x : Read A). after s x f) i.is

-- readers in a row: a fault of the first is one of the row
pub stops : {s : List ℕ} {low low' : ℕ} {A B C D : Type 0} {next : B → ℕ} {Q : B → A → Type 0} {next' : D → ℕ} {P : D → C → Type 0} {r : Read A} (f : A → Reader C) → Goes s low next Q r None → Goes s low' next' P (after s r f) None
unfolding after
stops f fails = fails

-- the first of them, and each that follows
module _ {s : List ℕ} {at : ℕ} {A B C D : Type 0} {next : B → ℕ} {Q : B → A → Type 0} {next' : D → ℕ} {P : D → C → Type 0} {r : Read A} {b : B} {o : Option D} (f : A → Reader C) (g : Goes s (suc at) next Q r (Some b)) (k : (a : A) → next b ≤ length s → Q b a → Goes s (next b) next' P (f a s (next b)) o) where
  pub first : Goes s (suc at) next' P (after s r f) o
  unfolding after
  first = let i = was_read g in subst (λ (x : Read A). Goes s (suc at) next' P (after s x f) o) (sym i.is) (weaken i.on (k i.item i.within i.has))

  pub then : Goes s at next' P (after s r f) o
  then = weaken (omega arith) first

-- the end of a row
pub ended : {s : List ℕ} {C D : Type 0} {next : D → ℕ} {P : D → C → Type 0} (c : C) (d : D) → next d ≤ length s → P d c → Goes s (next d) next P (done c s (next d)) (Some d)
unfolding done
ended {next = next} c d w p = goes {m = next d} refl (omega arith) w p

-- the end of a row that a mark ends
pub closes : {s : List ℕ} {at : ℕ} {A C : Type 0} {Q : A → Type 0} {P : C → Type 0} {r : Read A} {o : Option ℕ} (c : C) → Passes s (suc at) Q r o → P c → Passes s at P (after s r (λ a. done c)) o
unfolding after done
closes c fails p = fails
closes c (goes e l w q) p = goes e (omega arith) w p

-- the same where the row ends in what the last reader read
pub closes-with : {s : List ℕ} {at : ℕ} {A C : Type 0} {Q : A → Type 0} {P : C → Type 0} {r : Read A} {o : Option ℕ} (c : A → C) → ((a : A) → Q a → P (c a)) → Passes s (suc at) Q r o → Passes s (suc at) P (after s r (λ a. done (c a))) o
unfolding after done
closes-with c h fails = fails
closes-with c h (goes e l w q) = goes e l w (h _ q)

-- a reader of a row, whatever it answers, and what follows where it read something: at the row's beginning, and further on
module _ {s : List ℕ} {at : ℕ} {A C : Type 0} {Q : A → Type 0} {P : C → Type 0} {r : Read A} where
  pub row : {o p : Option ℕ} (f : A → Reader C) → Passes s (suc at) Q r o → ((a : A) (n : ℕ) → o ≡ Some n → Q a → Passes s n P (f a s n) p) → Passes s (suc at) P (after s r f) (following o p)
  unfolding following
  row {o = None} f g k = stops f g
  row {o = Some n} f g k = first f g (λ a w q. k a n refl q)

  pub next : {o p : Option ℕ} (f : A → Reader C) → Passes s (suc at) Q r o → ((a : A) (n : ℕ) → o ≡ Some n → Q a → Passes s n P (f a s n) p) → Passes s at P (after s r f) (following o p)
  next f g k = weaken (omega arith) (row f g k)
