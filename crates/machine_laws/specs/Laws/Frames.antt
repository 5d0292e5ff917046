-- A frame opened for a call: its words, and that the frames stand in the store again. Assumes nothing.
use Rattle.std.specs.Prelude.{ℕ, zero, suc, ◌+◌, ◌*◌, ◌<◌, ◌≤◌, ◌≡◌, refl, Bool, true, false, List, ◌∷◌, length, get_or, set, replicate, eqb}
use Rattle.std.proofs.Common.{◌∙◌, ap, arith, add-one, length-set, get_or-set_same, get_or-set_other, lt-ltb, eqb-true}
use Rattle.std.proofs.Math.Option.{Option, none, some}
use Rattle.std.proofs.Math.ListN.{length-replicate}
use Rattle.std.proofs.lemmas.Bool.{eqb-false}
use Rattle.gil.specs.Numbers.{most_variables, most_frames}
use Rattle.gil.specs.Names.{Program}
use Rattle.gil.specs.Values.{Value}
use Rattle.gil.specs.Machine.{Caller, Store, frame, procedure_at}
use Rattle.machine_code.specs.Code.{frame_words, store_words, returns_at}
use Rattle.machine_terms.specs.Laws.Engine.{ValueAs}
use Rattle.machine_evaluate.specs.Laws.{SlotAs, unbound, bound}
use Rattle.machine_commands.specs.Mirror.{put_in, zeros_in, frame_in}
use Rattle.machine_laws.specs.Laws.State.{FramesAs, called_frame, frames-kept}

-- a word stored
pub put_is : (at v : ℕ) (store : List ℕ) → at < store_words → put_in at v store ≡ set store at v
unfolding put_in
put_is at v store h = simp (lt-ltb at store_words h)

put-length : (at v : ℕ) (store : List ℕ) → at < store_words → length (put_in at v store) ≡ length store
put-length at v store h = ap length (put_is at v store h) ∙ length-set store at v

put_same : (at v : ℕ) (store : List ℕ) → length store ≡ store_words → at < store_words → get_or (put_in at v store) at 0 ≡ v
put_same at v store whole h = ap (λ (l : List ℕ). get_or l at 0) (put_is at v store h) ∙ get_or-set_same store at v 0 (omega arith)

put_other : (at v i : ℕ) (store : List ℕ) → at < store_words → (i ≡ at → ⊥) → get_or (put_in at v store) i 0 ≡ get_or store i 0
put_other at v i store h other = ap (λ (l : List ℕ). get_or l i 0) (put_is at v store h) ∙ get_or-set_other store at i v 0 other

-- words zeroed
zeros-length : (k at : ℕ) (store : List ℕ) → at + k ≤ store_words → length (zeros_in k at store) ≡ length store
unfolding zeros_in
zeros-length zero at store h = refl
zeros-length (suc k) at store h = zeros-length k (at + 1) (put_in at 0 store) (omega arith) ∙ put-length at 0 store (omega arith)

zeros-below : (k at i : ℕ) (store : List ℕ) → at + k ≤ store_words → i < at → get_or (zeros_in k at store) i 0 ≡ get_or store i 0
unfolding zeros_in
zeros-below zero at i store h few = refl
zeros-below (suc k) at i store h few =
    zeros-below k (at + 1) i (put_in at 0 store) (omega arith) (omega arith) ∙ put_other at 0 i store (omega arith) (λ e. absurd (omega arith))

zeros-step : (k at i : ℕ) (store : List ℕ) (b : Bool) → eqb i at ≡ b → length store ≡ store_words → at + suc k ≤ store_words → at ≤ i
    → (at + 1 ≤ i → get_or (zeros_in k (at + 1) (put_in at 0 store)) i 0 ≡ 0)
    → get_or (zeros_in k (at + 1) (put_in at 0 store)) i 0 ≡ 0
zeros-step k at i store true e whole h low rest =
    let same : i ≡ at = eqb-true i at e in
    zeros-below k (at + 1) i (put_in at 0 store) (omega arith) (omega arith)
    ∙ ap (λ (j : ℕ). get_or (put_in at 0 store) j 0) same
    ∙ put_same at 0 store whole (omega arith)
zeros-step k at i store false e whole h low rest = let other : i ≡ at → ⊥ = eqb-false i at e in rest (omega arith)

zeros_in_lem : (k at i : ℕ) (store : List ℕ) → length store ≡ store_words → at + k ≤ store_words → at ≤ i → i < at + k → get_or (zeros_in k at store) i 0 ≡ 0
unfolding zeros_in
zeros_in_lem zero at i store whole h low high = absurd (omega arith)
zeros_in_lem (suc k) at i store whole h low high =
    zeros-step k at i store (eqb i at) refl whole (omega arith) low
    (λ lower.
    zeros_in_lem k (at + 1) i (put_in at 0 store) (put-length at 0 store (omega arith) ∙ whole) (omega arith) lower (omega arith))

-- a frame's words
module _ (base v procedure next x : ℕ) (store : List ℕ) (whole : length store ≡ store_words) (room : base + 19 ≤ store_words) where
  s1 : List ℕ
  s1 = zeros_in 16 base store

  s2 : List ℕ
  s2 = put_in base v s1

  s3 : List ℕ
  s3 = put_in (base + returns_at) procedure s2

  s4 : List ℕ
  s4 = put_in (base + returns_at + 1) next s3

  whole1 : length s1 ≡ store_words
  unfolding s1
  whole1 = zeros-length 16 base store (omega arith) ∙ whole

  whole2 : length s2 ≡ store_words
  unfolding s2
  whole2 = put-length base v s1 (omega arith) ∙ whole1

  whole3 : length s3 ≡ store_words
  unfolding s3
  whole3 = put-length (base + returns_at) procedure s2 (omega arith) ∙ whole2

  whole4 : length s4 ≡ store_words
  unfolding s4
  whole4 = put-length (base + returns_at + 1) next s3 (omega arith) ∙ whole3

  pub frame-whole : length (frame_in base v procedure next x store) ≡ store_words
  unfolding frame_in s4 s3 s2 s1
  frame-whole = put-length (base + returns_at + 2) x s4 (omega arith) ∙ whole4

  -- below the return place nothing but the zeros and the parameter is written
  in_front : (i : ℕ) → i < base + returns_at → get_or (frame_in base v procedure next x store) i 0 ≡ get_or s2 i 0
  unfolding frame_in s4 s3 s2 s1
  in_front i h =
      put_other (base + returns_at + 2) x i s4 (omega arith) (λ e. absurd (omega arith))
      ∙ put_other (base + returns_at + 1) next i s3 (omega arith) (λ e. absurd (omega arith))
      ∙ put_other (base + returns_at) procedure i s2 (omega arith) (λ e. absurd (omega arith))

  pub frame_below : (i : ℕ) → i < base → get_or (frame_in base v procedure next x store) i 0 ≡ get_or store i 0
  unfolding s2 s1
  frame_below i h =
      in_front i (omega arith)
      ∙ put_other base v i s1 (omega arith) (λ e. absurd (omega arith))
      ∙ zeros-below 16 base i store (omega arith) h

  pub frame-parameter : get_or (frame_in base v procedure next x store) base 0 ≡ v
  unfolding s2
  frame-parameter = in_front base (omega arith) ∙ put_same base v s1 whole1 (omega arith)

  pub frame-unbound : (z : ℕ) → 0 < z → z < most_variables → get_or (frame_in base v procedure next x store) (base + z) 0 ≡ 0
  unfolding s2 s1
  frame-unbound z pos few =
      in_front (base + z) (omega arith)
      ∙ put_other base v (base + z) s1 (omega arith) (λ e. absurd (omega arith))
      ∙ zeros_in_lem 16 base (base + z) store whole (omega arith) (omega arith) (omega arith)

  pub frame-procedure : get_or (frame_in base v procedure next x store) (base + returns_at) 0 ≡ procedure
  unfolding frame_in s4 s3 s2 s1
  frame-procedure =
      put_other (base + returns_at + 2) x (base + returns_at) s4 (omega arith) (λ e. absurd (omega arith))
      ∙ put_other (base + returns_at + 1) next (base + returns_at) s3 (omega arith) (λ e. absurd (omega arith))
      ∙ put_same (base + returns_at) procedure s2 whole2 (omega arith)

  pub frame-next : get_or (frame_in base v procedure next x store) (base + returns_at + 1) 0 ≡ next
  unfolding frame_in s4 s3 s2 s1
  frame-next =
      put_other (base + returns_at + 2) x (base + returns_at + 1) s4 (omega arith) (λ e. absurd (omega arith))
      ∙ put_same (base + returns_at + 1) next s3 whole3 (omega arith)

  pub frame-target : get_or (frame_in base v procedure next x store) (base + returns_at + 2) 0 ≡ x
  unfolding frame_in s4 s3 s2 s1
  frame-target = put_same (base + returns_at + 2) x s4 whole4 (omega arith)

-- "a frame in which only the parameter is bound"
module _ {T : Type 0} (TermAs : T → ℕ → Type 0) {v : Value T} {y : ℕ} (held : ValueAs TermAs v y) where
  pub new-slot : (variables z : ℕ) (F : List ℕ) (base : ℕ) → 1 ≤ variables → z < most_variables → get_or F base 0 ≡ y
      → ((z : ℕ) → 0 < z → z < most_variables → get_or F (base + z) 0 ≡ 0)
      → SlotAs TermAs (get_or (frame variables v) z none) (get_or F (base + z) 0)
  unfolding frame
  new-slot zero z F base pos few e h = absurd (omega arith)
  new-slot (suc m) zero F base pos few e h = let a : base + 0 ≡ base = omega arith in rw (a, e) (bound held)
  new-slot (suc m) (suc z) F base pos few e h = rw (h (suc z) (omega arith) few) (rw (nothing m z) unbound)
    where
      nothing : (m z : ℕ) → ◌≡◌ {A = Option (Value T)} (get_or (replicate m none) z none) none
      nothing zero z = refl
      nothing (suc m) zero = refl
      nothing (suc m) (suc z) = nothing m z

  pub frames-entered : {p : Program} {store : List ℕ} {n f : ℕ} {ρ : Store T} {ks : List Caller} {σs : List (Store T)} (g command x : ℕ)
      → length store ≡ store_words
      → suc n < most_frames
      → g < length p.procedures
      → 1 ≤ (procedure_at p g).variables
      → x < (procedure_at p f).variables
      → command + 1 < 4294967296
      → FramesAs TermAs p store n f ρ ks σs
      → FramesAs TermAs p (frame_in (frame_words * suc n) y f (command + 1) x store) (suc n) g (frame (procedure_at p g).variables v)
      (record { procedure = f; next = suc command; target = x } ∷ ks) (ρ ∷ σs)
  unfolding frame
  frames-entered {p} {store} {n} {f} {ρ} g command x whole low there pos few small hs =
      let base = frame_words * suc n in
      let room : frame_words * suc n + 19 ≤ store_words = omega arith in
      let F = frame_in base y f (command + 1) x store in
      called_frame
      (record {
        slots = λ z hz.
            new-slot (procedure_at p g).variables z F base pos hz (frame-parameter base y f (command + 1) x store whole room)
            (frame-unbound base y f (command + 1) x store whole room);
        size = length-set (replicate (procedure_at p g).variables none) 0 (some v) ∙ length-replicate (procedure_at p g).variables none;
        there = there;
      })
      (record {
        procedure = frame-procedure base y f (command + 1) x store whole room;
        next = frame-next base y f (command + 1) x store whole room ∙ add-one command;
        target = frame-target base y f (command + 1) x store whole room;
        small = omega arith;
        bound = few;
      })
      (frames-kept TermAs F (λ i h. frame_below base y f (command + 1) x store whole room i h) hs)
