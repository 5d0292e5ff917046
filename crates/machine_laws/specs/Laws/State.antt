-- How a state of document 01's machine stands in words: the frames in the store, the memory's counters and cells. Over any model of terms that
-- stands in words. Assumes nothing.
use Rattle.std.specs.Prelude.{ℕ, suc, ◌+◌, ◌*◌, ◌<◌, Bool, true, false, ◌≡◌, refl, List, [], ◌∷◌, length, get_or, set, eqb}
use Rattle.std.proofs.Common.{◌∙◌, ap, arith, length-set, get_or-set_same, get_or-set_other, eqb-true}
use Rattle.std.proofs.Math.Option.{none, some}
use Rattle.std.proofs.lemmas.Bool.{eqb-false}
use Rattle.gil.specs.Numbers.{most_variables, most_frames}
use Rattle.gil.specs.Names.{Program}
use Rattle.gil.specs.Values.{Value, term}
use Rattle.gil.specs.Machine as Machine
use Rattle.gil.specs.Machine.{Caller, Store, Memory, procedure_at}
use Rattle.machine_code.specs.Code.{frame_words, store_words, returns_at}
use Rattle.machine_values.specs.declared.Input.{Input}
use Rattle.machine_values.specs.declared.Location.{Location}
use Rattle.machine_terms.specs.Laws.Engine.{ValueAs}
use Rattle.machine_evaluate.specs.Laws.{SlotAs, bound, FrameAs}

module _ {T : Type 0} (TermAs : T → ℕ → Type 0) where
  -- cells and their words
  pub data CellsAs : List (Machine.Cell T) → List (Machine.Cell ℕ) → Type 0 where
    no_cells : CellsAs [] []
    a_cell :
        {l q x : ℕ} {v : Value T} {cs : List (Machine.Cell T)} {ds : List (Machine.Cell ℕ)}
        → ValueAs TermAs v x
        → CellsAs cs ds
        → CellsAs (record { location = l; property = q; value = v } ∷ cs) (record { location = l; property = q; value = term x } ∷ ds)

  -- a memory: inputs and locations counted, the cells in use
  pub record MemoryAs (m : Memory T) (i : Input) (l : Location) (ds : List (Machine.Cell ℕ)) : Type 0 where
    pub inputs : i.0 ≡ m.counters.inputs
    pub locations : l.0 ≡ m.counters.locations
    pub cells : CellsAs m.cells ds

  -- a frame of a procedure: its variables, as many as the procedure has
  pub record FrameAt (p : Program) (store : List ℕ) (n f : ℕ) (ρ : Store T) : Type 0 where
    pub slots : FrameAs TermAs ρ store n
    pub size : length ρ ≡ (procedure_at p f).variables
    pub there : f < length p.procedures

  -- where a frame returns to
  pub record ReturnAt (p : Program) (store : List ℕ) (n : ℕ) (k : Caller) : Type 0 where
    pub procedure : get_or store (frame_words * n + returns_at) 0 ≡ k.procedure
    pub next : get_or store (frame_words * n + returns_at + 1) 0 ≡ k.next
    pub target : get_or store (frame_words * n + returns_at + 2) 0 ≡ k.target
    pub small : k.next < 4294967296
    pub bound : k.target < (procedure_at p k.procedure).variables

  -- the frames from the n-th down to main's
  pub data FramesAs (p : Program) (store : List ℕ) : ℕ → ℕ → Store T → List Caller → List (Store T) → Type 0 where
    main_frame : {f : ℕ} {ρ : Store T} → FrameAt p store 0 f ρ → FramesAs p store 0 f ρ [] []
    called_frame :
        {n f : ℕ} {ρ σ : Store T} {k : Caller} {ks : List Caller} {σs : List (Store T)}
        → FrameAt p store (suc n) f ρ
        → ReturnAt p store (suc n) k
        → FramesAs p store n k.procedure σ ks σs
        → FramesAs p store (suc n) f ρ (k ∷ ks) (σ ∷ σs)

  pub top : {p : Program} {store : List ℕ} {n f : ℕ} {ρ : Store T} {ks : List Caller} {σs : List (Store T)}
      → FramesAs p store n f ρ ks σs
      → FrameAt p store n f ρ
  top (main_frame h) = h
  top (called_frame h r hs) = h

  pub depth : {p : Program} {store : List ℕ} {n f : ℕ} {ρ : Store T} {ks : List Caller} {σs : List (Store T)}
      → FramesAs p store n f ρ ks σs
      → length ks ≡ n
  depth (main_frame h) = refl
  depth (called_frame h r hs) = ap suc (depth hs)

  -- frames whose words are the same
  module _ {p : Program} {s : List ℕ} (t : List ℕ) where
    frame-kept : {n f : ℕ} {ρ : Store T} → ((i : ℕ) → i < frame_words * suc n → get_or t i 0 ≡ get_or s i 0) → FrameAt p s n f ρ → FrameAt p t n f ρ
    frame-kept {n} {f} {ρ} same h =
        record {
          slots = λ x few. rw (same (frame_words * n + x) (omega arith)) (h.slots x few);
          size = h.size;
          there = h.there;
        }

    return_kept : {n : ℕ} {k : Caller} → ((i : ℕ) → i < frame_words * suc n → get_or t i 0 ≡ get_or s i 0) → ReturnAt p s n k → ReturnAt p t n k
    return_kept {n} same r =
        record {
          procedure = same (frame_words * n + returns_at) (omega arith) ∙ r.procedure;
          next = same (frame_words * n + returns_at + 1) (omega arith) ∙ r.next;
          target = same (frame_words * n + returns_at + 2) (omega arith) ∙ r.target;
          small = r.small;
          bound = r.bound;
        }

    pub frames-kept : {n f : ℕ} {ρ : Store T} {ks : List Caller} {σs : List (Store T)}
        → ((i : ℕ) → i < frame_words * suc n → get_or t i 0 ≡ get_or s i 0)
        → FramesAs p s n f ρ ks σs
        → FramesAs p t n f ρ ks σs
    frames-kept same (main_frame h) = main_frame (frame-kept same h)
    frames-kept {n} same (called_frame {n = m} h r hs) =
        called_frame (frame-kept same h) (return_kept same r) (frames-kept (λ i few. same i (omega arith)) hs)

  -- a variable assigned
  module _ (p : Program) (store : List ℕ) (whole : length store ≡ store_words) {v : Value T} {y : ℕ} (held : ValueAs TermAs v y) where
    slot-set : (ρ : Store T) (n x z : ℕ) (b : Bool) → eqb z x ≡ b → n < most_frames → x < most_variables → z < most_variables → x < length ρ → FrameAs TermAs ρ store n
        → SlotAs TermAs (get_or (set ρ x (some v)) z none) (get_or (set store (frame_words * n + x) y) (frame_words * n + z) 0)
    slot-set ρ n x z true e low hx hz inside h =
        let same : z ≡ x = eqb-true z x e in
        rw (same, get_or-set_same ρ x (some v) none inside, get_or-set_same store (frame_words * n + x) y 0 (omega arith)) (bound held)
    slot-set ρ n x z false e low hx hz inside h =
        let other : z ≡ x → ⊥ = eqb-false z x e in
        let elsewhere : frame_words * n + z ≡ frame_words * n + x → ⊥ = λ f. other (omega arith) in
        rw (get_or-set_other ρ x z (some v) none other, get_or-set_other store (frame_words * n + x) (frame_words * n + z) y 0 elsewhere) (h z hz)

    frame-set : {n f : ℕ} {ρ : Store T} (x : ℕ) → n < most_frames → x < most_variables → x < length ρ → FrameAt p store n f ρ
        → FrameAt p (set store (frame_words * n + x) y) n f (set ρ x (some v))
    frame-set {n} {f} {ρ} x low hx inside h =
        record {
          slots = λ z hz. slot-set ρ n x z (eqb z x) refl low hx hz inside h.slots;
          size = length-set ρ x (some v) ∙ h.size;
          there = h.there;
        }

    return-set : {n : ℕ} {k : Caller} (x : ℕ) → x < most_variables → ReturnAt p store n k → ReturnAt p (set store (frame_words * n + x) y) n k
    return-set {n} x hx r =
        record {
          procedure = get_or-set_other store (frame_words * n + x) (frame_words * n + returns_at) y 0 (λ e. absurd (omega arith)) ∙ r.procedure;
          next = get_or-set_other store (frame_words * n + x) (frame_words * n + returns_at + 1) y 0 (λ e. absurd (omega arith)) ∙ r.next;
          target = get_or-set_other store (frame_words * n + x) (frame_words * n + returns_at + 2) y 0 (λ e. absurd (omega arith)) ∙ r.target;
          small = r.small;
          bound = r.bound;
        }

    pub frames-set : {n f : ℕ} {ρ : Store T} {ks : List Caller} {σs : List (Store T)} (x : ℕ) → n < most_frames → x < most_variables → x < length ρ
        → FramesAs p store n f ρ ks σs
        → FramesAs p (set store (frame_words * n + x) y) n f (set ρ x (some v)) ks σs
    frames-set x low hx inside (main_frame h) = main_frame (frame-set x low hx inside h)
    frames-set {n} x low hx inside (called_frame {n = m} h r hs) =
        called_frame (frame-set x low hx inside h) (return-set x hx r)
        (frames-kept (set store (frame_words * n + x) y)
        (λ i few. get_or-set_other store (frame_words * n + x) i y 0 (λ e. absurd (omega arith))) hs)
