-- Stores within the words: what they come to, one by one and in runs. Assumes nothing.
use Rattle.std.specs.Prelude.{ℕ, suc, ◌+◌, ◌≤◌, ◌<◌, ◌≡◌, refl, Bool, true, false, List, [], ◌∷◌, ◌++◌, length, set, ltb}
use Rattle.std.proofs.Common.{sym, ap, ◌∙◌, arith, add-zero, lt-ltb, ltb-false, length-set}
use Rattle.std.proofs.Math.Numerals.{towards_suc}
use Rattle.std.proofs.lemmas.List.Edits.{sets}
use Rattle.std.proofs.Math.Seq.{set_out}
use Rattle.std.proofs.lemmas.List.{set_comm}
use Rattle.machine_code.specs.Code.{code_words, command_at, procedure_at}
use Rattle.gil.specs.Numbers.{most_commands, most_procedures}
use Rattle.text_forms.specs.Mirror.Stores.{put, up_from, put_command, put_procedure}

-- within the words a store is a store, and keeps their length
pub put-long : (ws : List ℕ) (at v : ℕ) → length (put ws at v) ≡ length ws
unfolding put
put-long ws at v = pick (ltb at code_words)
  where
    pick : (b : Bool) → length {A = ℕ} (elim b [ true ↦ set ws at v | false ↦ ws ]) ≡ length ws
    pick true = length-set ws at v
    pick false = refl

pub put-set : (ws : List ℕ) (at v : ℕ) → length ws ≡ code_words → put ws at v ≡ set ws at v
unfolding put
put-set ws at v l = pick (ltb at code_words) refl
  where
    pick : (b : Bool) → ltb at code_words ≡ b → ◌≡◌ {A = List ℕ} (elim b [ true ↦ set ws at v | false ↦ ws ]) (set ws at v)
    pick true e = refl
    pick false e = sym (set_out ws at v (omega (arith, ltb-false at code_words e)))

pub up_room : (at : ℕ) → at + 1 ≤ code_words → up_from at ≡ at + 1
unfolding up_from
up_room at h = rw (lt-ltb at code_words (omega arith), up_from)

-- runs of stores
pub sets-append : (l : List ℕ) (i : ℕ) (a b : List ℕ) → sets l i (a ++ b) ≡ sets (sets l i a) (i + length a) b
sets-append l i [] b = ap (λ (n : ℕ). sets l n b) (sym (add-zero i))
sets-append l i (x ∷ a) b = sets-append (set l i x) (suc i) a b ∙ (let e : suc i + length a ≡ i + suc (length a) = omega arith in ap (λ (n : ℕ). sets (sets (set l i x) (suc i) a) n b) e)

pub set-sets : (l : List ℕ) (i v j : ℕ) (ws : List ℕ) → i < j → set (sets l j ws) i v ≡ sets (set l i v) j ws
set-sets l i v j [] h = refl
set-sets l i v j (x ∷ ws) h = set-sets (set l j x) i v (suc j) ws (omega arith) ∙ ap (λ (m : List ℕ). sets m (suc j) ws) (set_comm l j i x v (λ e. omega arith))

-- a command's five words
pub command-long : (ws : List ℕ) (n a b c d e : ℕ) → length (put_command ws n a b c d e) ≡ length ws
unfolding put_command
command-long ws n a b c d e = pick (ltb n most_commands)
  where
    pick : (t : Bool) → length {A = ℕ} (elim t [ true ↦ put (put (put (put (put ws (command_at n) a) (command_at n + 1) b) (command_at n + 2) c) (command_at n + 3) d) (command_at n + 4) e | false ↦ ws ]) ≡ length ws
    pick true =
        put-long (put (put (put (put ws (command_at n) a) (command_at n + 1) b) (command_at n + 2) c) (command_at n + 3) d) (command_at n + 4) e
        ∙ put-long (put (put (put ws (command_at n) a) (command_at n + 1) b) (command_at n + 2) c) (command_at n + 3) d
        ∙ put-long (put (put ws (command_at n) a) (command_at n + 1) b) (command_at n + 2) c
        ∙ put-long (put ws (command_at n) a) (command_at n + 1) b
        ∙ put-long ws (command_at n) a
    pick false = refl

puts_five : (ws : List ℕ) (at a b c d e : ℕ) → length ws ≡ code_words → put (put (put (put (put ws at a) (at + 1) b) (at + 2) c) (at + 3) d) (at + 4) e ≡ sets ws at (a ∷ b ∷ c ∷ d ∷ e ∷ [])
puts_five ws at a b c d e l =
    put-set (put (put (put (put ws at a) (at + 1) b) (at + 2) c) (at + 3) d) (at + 4) e l₄
    ∙ ap (λ (x : List ℕ). set x (at + 4) e) (put-set (put (put (put ws at a) (at + 1) b) (at + 2) c) (at + 3) d l₃
    ∙ ap (λ (x : List ℕ). set x (at + 3) d) (put-set (put (put ws at a) (at + 1) b) (at + 2) c l₂
    ∙ ap (λ (x : List ℕ). set x (at + 2) c) (put-set (put ws at a) (at + 1) b l₁
    ∙ ap (λ (x : List ℕ). set x (at + 1) b) (put-set ws at a l))))
    ∙ simp towards_suc
  where
    l₁ : length (put ws at a) ≡ code_words
    l₁ = put-long ws at a ∙ l

    l₂ : length (put (put ws at a) (at + 1) b) ≡ code_words
    l₂ = put-long (put ws at a) (at + 1) b ∙ l₁

    l₃ : length (put (put (put ws at a) (at + 1) b) (at + 2) c) ≡ code_words
    l₃ = put-long (put (put ws at a) (at + 1) b) (at + 2) c ∙ l₂

    l₄ : length (put (put (put (put ws at a) (at + 1) b) (at + 2) c) (at + 3) d) ≡ code_words
    l₄ = put-long (put (put (put ws at a) (at + 1) b) (at + 2) c) (at + 3) d ∙ l₃

pub command-sets : (ws : List ℕ) (n a b c d e : ℕ) → length ws ≡ code_words → n < most_commands → put_command ws n a b c d e ≡ sets ws (command_at n) (a ∷ b ∷ c ∷ d ∷ e ∷ [])
unfolding put_command
command-sets ws n a b c d e l h = rw (lt-ltb n most_commands h, put_command) (puts_five ws (command_at n) a b c d e l)

-- a procedure's three words
pub procedure-long : (ws : List ℕ) (n a b c : ℕ) → length (put_procedure ws n a b c) ≡ length ws
unfolding put_procedure
procedure-long ws n a b c = pick (ltb n most_procedures)
  where
    pick : (t : Bool) → length {A = ℕ} (elim t [ true ↦ put (put (put ws (procedure_at n) a) (procedure_at n + 1) b) (procedure_at n + 2) c | false ↦ ws ]) ≡ length ws
    pick true = put-long (put (put ws (procedure_at n) a) (procedure_at n + 1) b) (procedure_at n + 2) c ∙ put-long (put ws (procedure_at n) a) (procedure_at n + 1) b ∙ put-long ws (procedure_at n) a
    pick false = refl

puts_three : (ws : List ℕ) (at a b c : ℕ) → length ws ≡ code_words → put (put (put ws at a) (at + 1) b) (at + 2) c ≡ sets ws at (a ∷ b ∷ c ∷ [])
puts_three ws at a b c l =
    put-set (put (put ws at a) (at + 1) b) (at + 2) c (put-long (put ws at a) (at + 1) b ∙ put-long ws at a ∙ l)
    ∙ ap (λ (x : List ℕ). set x (at + 2) c) (put-set (put ws at a) (at + 1) b (put-long ws at a ∙ l)
    ∙ ap (λ (x : List ℕ). set x (at + 1) b) (put-set ws at a l))
    ∙ simp towards_suc

pub procedure-sets : (ws : List ℕ) (n a b c : ℕ) → length ws ≡ code_words → n < most_procedures → put_procedure ws n a b c ≡ sets ws (procedure_at n) (a ∷ b ∷ c ∷ [])
unfolding put_procedure
procedure-sets ws n a b c l h = rw (lt-ltb n most_procedures h, put_procedure) (puts_three ws (procedure_at n) a b c l)

-- runs of stores at places apart
pub sets_swap : (l : List ℕ) (i : ℕ) (a : List ℕ) (j : ℕ) (b : List ℕ) → i + length a ≤ j → sets (sets l i a) j b ≡ sets (sets l j b) i a
sets_swap l i [] j b h = refl
sets_swap l i (x ∷ a) j b h = sets_swap (set l i x) (suc i) a j b (omega arith) ∙ ap (λ (m : List ℕ). sets m (suc i) a) (sym (set-sets l i x j b (omega arith)))
