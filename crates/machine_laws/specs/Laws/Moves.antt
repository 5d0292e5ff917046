-- How a state stands in words, whole; and each command over words that is no action on the memory is that command of document 01's
-- machine: from a state that stands in words to what stands in words again. The actions are Actions'. Assumes nothing.
use Rattle.std.specs.Prelude as Std
use Rattle.std.specs.Prelude.{ℕ, suc, ◌+◌, ◌-◌, ◌*◌, ◌/◌, ◌%◌, ◌<◌, ◌≤◌, Bool, true, false, ◌≡◌, refl, List, length, get_or, ltb}
use Rattle.std.proofs.Common.{◌∙◌, ap, add-one, mod-eq_of_lt, arith, length-set, eq-eqb, ne_eqb, lt-ltb, le-leb, ltb-true, ltb-false}
use Rattle.std.proofs.lemmas.Bool.{lt-leb}
use Rattle.gil.specs.Numbers.{most_procedures, most_variables, most_frames, wrong_sort, ninth_frame, boolean_tag, boolean_term_tag}
use Rattle.gil.specs.declared.errors.Error as Errors
use Rattle.gil.specs.declared.errors.Error.TheVariants.{WrongSort, NinthFrame}
use Rattle.gil.specs.Codes.{error_number}
use Rattle.gil.specs.Names.{Program}
use Rattle.gil.specs.Values.{Value, Sort, numbers, booleans, locations, same_sort}
use Rattle.gil.specs.Machine as Machine
use Rattle.gil.specs.Machine.{Model, Caller, Store, Memory, State, Moved, settled, on, ends, fork, returned, failed, vanished, error, Result, ok, err, and_then, ◌>>◌, give, stop, must, procedure_at, goto, onward, entered, back_to, frames, steer, assigned, with_memory, answered, top_store, below_top, opened, closed, returns_to, jump}
use Rattle.machine_code.specs.Code.{frame_words, store_words, returns_at}
use Rattle.machine_values.specs.declared.Input.{Input}
use Rattle.machine_values.specs.declared.Location.{Location}
use Rattle.machine_values.specs.Mirror.{truth_word}
use Rattle.machine_values.specs.Laws.{a_number, a_truth, a_location}
use Rattle.machine_terms.specs.Mirror.{Did}
use Rattle.machine_terms.specs.Laws.Engine.{Engine, const_as, term_as, TermTag, tags_number, tags_boolean, As, EvalAs, gives, errs}
use Rattle.machine_commands.specs.declared.Control.{Control}
use Rattle.machine_commands.specs.declared.Next.{Next}
use Rattle.machine_commands.specs.declared.Next.TheVariants.{On, Returned, Failed, Vanished, Error, Fork}
use Rattle.machine_commands.specs.Mirror.{moved_in, counted_in, goto_in, onward_in, put_in, word_in, frame_in, Acted, assign_in, jump_in, enter_in, leave_in, After, after, after_acted, on_value}
use Rattle.machine_actions.specs.Laws.Changed.{Changed, on_operand}
use Rattle.machine_laws.specs.Laws.State.{MemoryAs, FrameAt, FramesAs, main_frame, called_frame, top, depth, frames-set}
use Rattle.machine_laws.specs.Laws.Frames.{put_is, frame-whole, frames-entered}

pub tag_low : {o : Sort} {x : ℕ} → TermTag o x → 4 ≤ x / 4294967296
tag_low (tags_number e) = omega arith
tag_low (tags_boolean e) = omega arith

module _ {M : Model} (E : Engine M) (p : Program) where
  -- a state in words: control by value, with the counters in it, the store, the cells in use
  pub record StateAs (s : State M.Term) (c : Control) (store : List ℕ) (ds : List (Machine.Cell ℕ)) : Type 0 where
    pub procedure : c.procedure ≡ s.control.procedure
    pub command : c.command ≡ s.control.command
    pub whole : length store ≡ store_words
    pub low : c.frame < most_frames
    pub frames : FramesAs E.TermAs p store c.frame s.control.procedure s.variables s.control.callers s.saved
    pub memory : MemoryAs E.TermAs s.memory c.inputs c.locations ds

  -- what a command comes to: where it does not go on, the store and the cells are as they were
  pub data NextAs (store : List ℕ) (ds : List (Machine.Cell ℕ)) : Machine.Next M.Term → Next → List ℕ → List (Machine.Cell ℕ) → Type 0 where
    goes_on :
        {s : State M.Term} {c : Control} {store' : List ℕ} {ds' : List (Machine.Cell ℕ)}
        → StateAs s c store' ds'
        → NextAs store ds (on s) (On c) store' ds'
    has_returned : {v : Value M.Term} {x : ℕ} → As E v x → NextAs store ds (ends (returned v)) (Returned (x / 4294967296) (x % 4294967296)) store ds
    has_failed : {v : Value M.Term} {x : ℕ} → As E v x → NextAs store ds (ends (failed v)) (Failed (x / 4294967296) (x % 4294967296)) store ds
    has_vanished : NextAs store ds (ends vanished) Vanished store ds
    has_erred : (e : Errors.Error) → NextAs store ds (ends (error (error_number e))) (Error e) store ds
    has_forked :
        {t : M.Term} {x : ℕ} {a b : State M.Term} {ca cb : Control}
        → E.TermAs t x
        → StateAs a ca store ds
        → StateAs b cb store ds
        → NextAs store ds (fork t a b) (Fork (x % 4294967296) ca cb) store ds

  pub record MovedAs (store : List ℕ) (ds : List (Machine.Cell ℕ)) (m : Moved M) (r : Next) (store' : List ℕ)
      (ds' : List (Machine.Cell ℕ)) (pool : List ℕ) (count : ℕ) : Type 0 where
    pub world : E.WorldAs m.world pool count
    pub next : NextAs store ds m.next r store' ds'

  -- a move whose answer is an `After` of commands, and one whose answer is a `Changed` of actions
  abbrev pub SteppedAs : List ℕ → List (Machine.Cell ℕ) → Result M.World (Machine.Next M.Term) → After → Type 0
  SteppedAs store ds r a = MovedAs store ds (settled M r) a.next a.store ds a.pool a.count

  abbrev pub ChangedAs : List ℕ → List (Machine.Cell ℕ) → Result M.World (Machine.Next M.Term) → Changed → Type 0
  ChangedAs store ds r k = MovedAs store ds (settled M r) k.kept.next k.kept.store k.kept.cells k.pool k.count

  pub erred : {store : List ℕ} {ds : List (Machine.Cell ℕ)} {w : M.World} {pool : List ℕ} {count : ℕ} (e : Errors.Error) → E.WorldAs w pool count
      → SteppedAs store ds (err w (error_number e)) (after (Error e) store pool count)
  unfolding settled
  erred e h = record { world = h; next = has_erred e }

  pub went : {store store' : List ℕ} {ds ds' : List (Machine.Cell ℕ)} {w : M.World} {pool : List ℕ} {count : ℕ} {s : State M.Term} {c : Control}
      → E.WorldAs w pool count
      → StateAs s c store' ds'
      → MovedAs store ds (settled M (ok w (on s))) (On c) store' ds' pool count
  unfolding settled
  went h a = record { world = h; next = goes_on a }

  -- an operand evaluated, and what is done with its value
  pub value_as : {store : List ℕ} {ds : List (Machine.Cell ℕ)} {r : Result M.World (Value M.Term)} {d : Did (Std.Result ℕ Errors.Error)}
      (f : Value M.Term → M.World → Result M.World (Machine.Next M.Term)) (g : ℕ → Acted)
      → EvalAs E r d
      → ((w : M.World) (v : Value M.Term) (x : ℕ) (pool : List ℕ) (count : ℕ) → E.WorldAs w pool count → As E v x
      → SteppedAs store ds (f v w) (after_acted (g x) pool count))
      → SteppedAs store ds (and_then r f) (on_value d store g)
  unfolding and_then on_value
  value_as f g (gives {w} {v} {x} {pool} {count} h a) k = k w v x pool count h a
  value_as f g (errs e h) k = erred e h

  pub operand_as : {store : List ℕ} {ds : List (Machine.Cell ℕ)} {r : Result M.World (Value M.Term)} {d : Did (Std.Result ℕ Errors.Error)}
      (f : Value M.Term → M.World → Result M.World (Machine.Next M.Term)) (g : ℕ → List ℕ → ℕ → Changed)
      → EvalAs E r d
      → ((w : M.World) (v : Value M.Term) (x : ℕ) (pool : List ℕ) (count : ℕ) → E.WorldAs w pool count → As E v x
      → ChangedAs store ds (f v w) (g x pool count))
      → ChangedAs store ds (and_then r f) (on_operand d store ds g)
  unfolding and_then on_operand
  operand_as f g (gives {w} {v} {x} {pool} {count} h a) k = k w v x pool count h a
  operand_as f g (errs e h) k = erred e h

  module _ {s : State M.Term} {c : Control} {store : List ℕ} {ds : List (Machine.Cell ℕ)} (h : StateAs s c store ds) where
    -- control that moves within a procedure
    pub goto_as : (n : ℕ) → StateAs (steer (goto n) s) (goto_in n c) store ds
    unfolding steer goto goto_in
    goto_as n =
        record {
          procedure = h.procedure;
          command = refl;
          whole = h.whole;
          low = h.low;
          frames = h.frames;
          memory = h.memory;
        }

    next-command : s.control.command < 4294967295 → (c.command + 1) % 4294967296 ≡ suc s.control.command
    next-command small = ap (λ (k : ℕ). (k + 1) % 4294967296) h.command ∙ mod-eq_of_lt (omega arith) ∙ add-one s.control.command

    pub onward_as : s.control.command < 4294967295 → StateAs (steer onward s) (onward_in c) store ds
    unfolding steer onward onward_in goto goto_in
    onward_as small =
        record {
          procedure = h.procedure;
          command = next-command small;
          whole = h.whole;
          low = h.low;
          frames = h.frames;
          memory = h.memory;
        }

    module _ (few : (procedure_at p s.control.procedure).variables ≤ most_variables) (small : s.control.command < 4294967295) where
      -- an answer: a variable of the frame assigned, and a memory
      pub answered_as : {v : Value M.Term} {m : Memory M.Term} {y : ℕ} {ds' : List (Machine.Cell ℕ)} (i : Input) (l : Location) (x : ℕ)
          → x < (procedure_at p s.control.procedure).variables
          → As E v y
          → MemoryAs E.TermAs m i l ds'
          → StateAs (answered x (record { value = v; memory = m }) s) (onward_in (counted_in c i l)) (put_in (frame_words * c.frame + x) y store) ds'
      unfolding answered assigned with_memory onward onward_in goto goto_in
      answered_as {y = y} i l x hx a k =
          let t = top E.TermAs h.frames in
          let at : frame_words * c.frame + x < store_words = omega (arith, h.low) in
          rw (put_is (frame_words * c.frame + x) y store at)
          (record {
            procedure = h.procedure;
            command = next-command small;
            whole = length-set store (frame_words * c.frame + x) y ∙ h.whole;
            low = h.low;
            frames = frames-set E.TermAs p store h.whole a x h.low (omega arith) (omega (arith, t.size)) h.frames;
            memory = k;
          })

      assigned_as : {v : Value M.Term} {y : ℕ} (x : ℕ) → x < (procedure_at p s.control.procedure).variables → As E v y
          → StateAs (assigned x v s) (onward_in c) (put_in (frame_words * c.frame + x) y store) ds
      unfolding answered with_memory
      assigned_as x hx a = answered_as c.inputs c.locations x hx a h.memory

      -- `v := e`
      pub assign_as : {w : M.World} {v : Value M.Term} {y : ℕ} {pool : List ℕ} {count : ℕ} (x : ℕ)
          → x < (procedure_at p s.control.procedure).variables
          → E.WorldAs w pool count
          → As E v y
          → SteppedAs store ds (give (on (assigned x v s)) w) (after_acted (assign_in c x y store) pool count)
      unfolding give assign_in
      assign_as x hx world a = went world (assigned_as x hx a)

      -- `ifgoto e n`
      jump_term : {w : M.World} {t : M.Term} {y : ℕ} {pool : List ℕ} {count : ℕ} (n : ℕ) (o : Sort) → TermTag o y
          → E.WorldAs w pool count
          → E.TermAs t y
          → SteppedAs store ds ((must (same_sort booleans o) wrong_sort >> give (fork t (steer (goto n) s) (steer onward s))) w)
          (after (jump_in c n y) store pool count)
      unfolding must same_sort stop give and_then ◌>>◌ jump_in settled
      jump_term {y} n numbers (tags_number e) world a =
          simp (ne_eqb (y / 4294967296) boolean_tag (λ f. absurd (omega arith)), ne_eqb (y / 4294967296) boolean_term_tag (λ f. absurd (omega arith))) (erred WrongSort world)
      jump_term {y} n booleans (tags_boolean e) world a =
          simp (ne_eqb (y / 4294967296) boolean_tag (λ f. absurd (omega arith)), eq-eqb (y / 4294967296) boolean_term_tag e)
          (record { world = world; next = has_forked a (goto_as n) (onward_as small) })
      jump_term n locations tag world a = elim tag [ ]

      pub jump_as : {w : M.World} {v : Value M.Term} {y : ℕ} {pool : List ℕ} {count : ℕ} (n : ℕ)
          → E.WorldAs w pool count
          → As E v y
          → SteppedAs store ds (jump M n s v w) (after (jump_in c n y) store pool count)
      unfolding jump jump_in stop give truth_word
      jump_as {y} n world (const_as (a_number {n = k} few)) =
          let e : (4294967296 + k) / 4294967296 ≡ 1 = omega arith in
          simp e (erred WrongSort world)
      jump_as n world (const_as (a_truth {b = true})) = went world (goto_as n)
      jump_as n world (const_as (a_truth {b = false})) = went world (onward_as small)
      jump_as n world (const_as (a_location {l} few)) =
          let e : (12884901888 + l) / 4294967296 ≡ 3 = omega arith in
          simp e (erred WrongSort world)
      jump_as n world (term_as {t} a) = jump_term n (M.sort t) (E.tagged a) world a

      -- `v := f(e)`
      opened_as : {v : Value M.Term} {y : ℕ} (x f : ℕ)
          → c.frame < 7
          → x < (procedure_at p s.control.procedure).variables
          → f < length p.procedures
          → 1 ≤ (procedure_at p f).variables
          → As E v y
          → StateAs (opened p x f v s) (moved_in c (c.frame + 1) f 0) (frame_in (frame_words * (c.frame + 1)) y c.procedure (c.command + 1) x store) ds
      unfolding opened entered
      opened_as {v} {y} x f low hx there pos a =
          rw (add-one c.frame, h.procedure, h.command)
          (record {
            procedure = refl;
            command = refl;
            whole = frame-whole (frame_words * suc c.frame) y s.control.procedure (s.control.command + 1) x store h.whole (omega arith);
            low = omega arith;
            frames = frames-entered E.TermAs a f s.control.command x h.whole (omega arith) there pos hx (omega arith) h.frames;
            memory = h.memory;
          })

      pub enter_by : {w : M.World} {v : Value M.Term} {y : ℕ} {pool : List ℕ} {count : ℕ} (x f : ℕ) (b : Bool)
          → ltb (frames s.control) most_frames ≡ b
          → x < (procedure_at p s.control.procedure).variables
          → f < length p.procedures
          → 1 ≤ (procedure_at p f).variables
          → E.WorldAs w pool count
          → As E v y
          → SteppedAs store ds ((must b ninth_frame >> give (on (opened p x f v s))) w) (after_acted (enter_in c x f y store) pool count)
      unfolding must stop give and_then ◌>>◌ enter_in frames
      enter_by {v} {y} x f true e hx there pos world a =
          let low : c.frame < 7 = omega (arith, ltb-true (suc (length s.control.callers)) most_frames e, depth E.TermAs h.frames) in
          simp (lt-leb 7 c.frame low) (went world (opened_as x f low hx there pos a))
      enter_by {v} {y} x f false e hx there pos world a =
          let high : 7 ≤ c.frame = omega (arith, ltb-false (suc (length s.control.callers)) most_frames e, depth E.TermAs h.frames) in
          simp (le-leb 7 c.frame high) (erred NinthFrame world)

    -- `return e`
    word-is : (at k : ℕ) → at < store_words → k < 4294967296 → get_or store at 0 ≡ k → word_in at store ≡ k
    unfolding word_in
    word-is at k hat hk e = simp (lt-ltb at store_words hat, e) (mod-eq_of_lt hk)

    leave-by : {w : M.World} {v : Value M.Term} {y n f : ℕ} {pool : List ℕ} {count : ℕ} {ρ : Store M.Term} {ks : List Caller} {σs : List (Store M.Term)}
        → length p.procedures ≤ most_procedures
        → ((g : ℕ) → (procedure_at p g).variables ≤ most_variables)
        → FramesAs E.TermAs p store n f ρ ks σs
        → c.frame ≡ n
        → s.control.callers ≡ ks
        → s.saved ≡ σs
        → E.WorldAs w pool count
        → As E v y
        → SteppedAs store ds (give (returns_to ks v s) w) (after_acted (leave_in c y store) pool count)
    unfolding give returns_to leave_in settled closed back_to top_store below_top
    leave-by procedures variables (main_frame t) e ek es world a =
        simp (eq-eqb c.frame 0 e) (record { world = world; next = has_returned a })
    leave-by {v = v} {y = y} procedures variables (called_frame {n = m} {σ = σ} {k = k} {ks = ks} {σs = σs} t r hs) e ek es world a =
        simp (ne_eqb c.frame 0 (λ z. absurd (omega arith))) (went world back)
      where
        under : FrameAt E.TermAs p store m k.procedure σ
        under = top E.TermAs hs

        at : frame_words * c.frame + returns_at + 2 < store_words
        at = omega (arith, h.low)

        target : k.target < most_variables
        target = omega (arith, r.bound, variables k.procedure)

        place : frame_words * c.frame + returns_at ≡ frame_words * suc m + returns_at
        place = ap (λ (i : ℕ). frame_words * i + returns_at) e

        w0 : word_in (frame_words * c.frame + returns_at) store ≡ k.procedure
        w0 = word-is _ _ (omega (arith, at)) (omega (arith, under.there)) (ap (λ (i : ℕ). get_or store i 0) place ∙ r.procedure)

        w1 : word_in (frame_words * c.frame + returns_at + 1) store ≡ k.next
        w1 = word-is _ _ (omega (arith, at)) r.small (ap (λ (i : ℕ). get_or store (i + 1) 0) place ∙ r.next)

        w2 : word_in (frame_words * c.frame + returns_at + 2) store ≡ k.target
        w2 = word-is _ _ at (omega (arith, target)) (ap (λ (i : ℕ). get_or store (i + 2) 0) place ∙ r.target)

        slot : frame_words * c.frame - frame_words + word_in (frame_words * c.frame + returns_at + 2) store ≡ frame_words * m + k.target
        slot = omega (arith, w2)

        below : c.frame - 1 ≡ m
        below = omega arith

        back : StateAs (closed k ks v s) (moved_in c (c.frame - 1) (word_in (frame_words * c.frame + returns_at) store) (word_in (frame_words * c.frame + returns_at + 1) store))
            (put_in (frame_words * c.frame - frame_words + word_in (frame_words * c.frame + returns_at + 2) store) y store) ds
        back =
            rw (w0, w1, below, slot, put_is (frame_words * m + k.target) y store (omega (arith, at, target)))
            (record {
              procedure = refl;
              command = refl;
              whole = length-set store (frame_words * m + k.target) y ∙ h.whole;
              low = omega (arith, h.low);
              frames = rw es (frames-set E.TermAs p store h.whole a k.target (omega (arith, h.low)) target (omega (arith, under.size, r.bound)) hs);
              memory = h.memory;
            })

    pub leave_as : {w : M.World} {v : Value M.Term} {y : ℕ} {pool : List ℕ} {count : ℕ}
        → length p.procedures ≤ most_procedures
        → ((g : ℕ) → (procedure_at p g).variables ≤ most_variables)
        → E.WorldAs w pool count
        → As E v y
        → SteppedAs store ds (give (returns_to s.control.callers v s) w) (after_acted (leave_in c y store) pool count)
    leave_as procedures variables world a = leave-by procedures variables h.frames refl refl refl world a
