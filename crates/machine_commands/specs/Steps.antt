-- Laws of the store's words, of an evaluation that errs and one that gives a value, and of a kind read from a word. Assumes nothing.
use Rattle.std.specs.Prelude.{refl, ◌⊎◌, Result, Ok, Err, ◌≡◌, ◌≢◌, ℕ, suc, ◌+◌, ◌-◌, ◌*◌, ◌<◌, ◌≤◌, List}
use Rattle.std.specs.Result.{result_unwrap_or}
use Rattle.std.proofs.Common.{inl, inr, ◌∙◌, ap, ap₂, arith, ne_eqb}
use Rattle.std.proofs.lemmas.Bool.{lt-leb}
use Rattle.gil.specs.Numbers.{most_variables}
use Rattle.gil.specs.declared.errors.Error as Errors
use Rattle.gil.specs.declared.Unknown.{Unknown}
use Rattle.machine_code.specs.Code.{frame_words, returns_at, vanish_kind}
use Rattle.machine_code.specs.Kinds.{command_number, IsCommandOf}
use Rattle.machine_code.specs.declared.kinds.CommandKind.{CommandKind}
use Rattle.machine_code.specs.declared.kinds.CommandKind.TheVariants.{Assign, Jump, Call, Lookup, Mutate, Dispose, USym, ISym, Return, Fail, Vanish}
use Rattle.machine_terms.specs.Mirror.{Did, did}
use Rattle.machine_commands.specs.declared.Control.{Control}
use Rattle.machine_commands.specs.declared.Next.{Next}
use Rattle.machine_commands.specs.declared.Next.TheVariants.{On, Error}
use Rattle.machine_commands.specs.Mirror.{moved_in, kind_of, put_in, word_in, zeros_in, frame_in, Acted, acted, enter_in, leave_in, after, after_acted, on_value}

-- sixteen words zeroed one after the other
pub zeros-none : (base : ℕ) (store : List ℕ) → zeros_in most_variables base store ≡ zeros_in (most_variables - 0) (base + 0) store
zeros-none base store = let e : base ≡ base + 0 = omega arith in ap (λ (n : ℕ). zeros_in most_variables n store) e

pub zeros-more : (i base : ℕ) (store : List ℕ) → i < 16
    → zeros_in (16 - i) (base + i) store ≡ zeros_in (16 - (i + 1)) (base + (i + 1)) (put_in (base + i) 0 store)
unfolding zeros_in
zeros-more i base store h =
    let e : 16 - i ≡ suc (16 - (i + 1)) = omega arith in
    let f : base + i + 1 ≡ base + (i + 1) = omega arith in
    ap (λ (k : ℕ). zeros_in k (base + i) store) e ∙ ap (λ (n : ℕ). zeros_in (16 - (i + 1)) n (put_in (base + i) 0 store)) f

pub zeros-end : (i base : ℕ) (store : List ℕ) → 16 ≤ i → zeros_in (16 - i) (base + i) store ≡ store
unfolding zeros_in
zeros-end i base store h = let e : 16 - i ≡ 0 = omega arith in ap (λ (k : ℕ). zeros_in k (base + i) store) e

-- a frame opened, store by store
pub frame_chain : (base v procedure next x : ℕ) (s0 s1 s2 s3 s4 s5 : List ℕ)
    → s1 ≡ zeros_in most_variables base s0
    → s2 ≡ put_in base v s1
    → s3 ≡ put_in (base + returns_at) procedure s2
    → s4 ≡ put_in (base + returns_at + 1) next s3
    → s5 ≡ put_in (base + returns_at + 2) x s4
    → s5 ≡ frame_in base v procedure next x s0
unfolding frame_in
frame_chain base v procedure next x s0 s1 s2 s3 s4 s5 e1 e2 e3 e4 e5 = cc

pub entered : (c : Control) (x f v : ℕ) (s : List ℕ) {t : List ℕ} {d : Control} → c.frame < 7
    → d ≡ moved_in c (c.frame + 1) f 0
    → t ≡ frame_in (frame_words * (c.frame + 1)) v c.procedure (c.command + 1) x s
    → acted (On d) t ≡ enter_in c x f v s
unfolding enter_in
entered c x f v s h e k = simp (lt-leb 7 c.frame h) (ap₂ (λ (d : Control) (t : List ℕ). acted (On d) t) e k)

pub left : (c : Control) (v : ℕ) (s : List ℕ) {t : List ℕ} {d : Control} → (c.frame ≢ 0)
    → d ≡ moved_in c (c.frame - 1) (word_in (frame_words * c.frame + returns_at) s) (word_in (frame_words * c.frame + returns_at + 1) s)
    → t ≡ put_in (frame_words * c.frame - frame_words + word_in (frame_words * c.frame + returns_at + 2) s) v s
    → acted (On d) t ≡ leave_in c v s
unfolding leave_in
left c v s h e k = simp (ne_eqb c.frame 0 h) (ap₂ (λ (d : Control) (t : List ℕ). acted (On d) t) e k)

-- an evaluation that errs, and one that gives a value
pub value-errs : {z : Errors.Error} {n : ℕ} {p : List ℕ} {D : Did (Result ℕ Errors.Error)} (store : List ℕ) (f : ℕ → Acted) → did (Err z) p n ≡ D
    → after (Error z) store p n ≡ on_value D store f
unfolding on_value
value-errs store f e = rw (← e) refl

pub value_acts : {x n : ℕ} {p s : List ℕ} {r : Next} {D : Did (Result ℕ Errors.Error)} (store : List ℕ) (f : ℕ → Acted) → did (Ok x) p n ≡ D
    → acted r s ≡ f x
    → after r s p n ≡ on_value D store f
unfolding on_value
value_acts {n = n} {p = p} store f e k = rw (← e) (ap (λ (a : Acted). after_acted a p n) k)

-- a kind read from a word
kind-known : (k : CommandKind) → k ≡ kind_of (command_number k)
unfolding kind_of
kind-known Assign = refl
kind-known Jump = refl
kind-known Call = refl
kind-known Lookup = refl
kind-known Mutate = refl
kind-known Dispose = refl
kind-known USym = refl
kind-known ISym = refl
kind-known Return = refl
kind-known Fail = refl
kind-known Vanish = refl

kind-unknown : (w : ℕ) → (w ≡ 0) ⊎ (vanish_kind < w) → Fail ≡ kind_of w
unfolding kind_of
kind-unknown w (inl e) = rw e refl
kind-unknown w (inr h) =
    simp
    (ne_eqb w 1 (λ e. omega (arith, e, h)), ne_eqb w 2 (λ e. omega (arith, e, h)), ne_eqb w 3 (λ e. omega (arith, e, h)), ne_eqb w 4 (λ e. omega (arith, e, h)), ne_eqb w 5 (λ e. omega (arith, e, h)), ne_eqb w 6 (λ e. omega (arith, e, h)), ne_eqb w 7 (λ e. omega (arith, e, h)), ne_eqb w 8 (λ e. omega (arith, e, h)), ne_eqb w 9 (λ e. omega (arith, e, h)), ne_eqb w 11 (λ e. omega (arith, e, h)))

pub kind-read : (w : ℕ) (r : Result CommandKind Unknown) → IsCommandOf w r → result_unwrap_or r Fail ≡ kind_of w
kind-read w (Ok k) e = rw (← e) (kind-known k)
kind-read w (Err u) e = kind-unknown w e.1
