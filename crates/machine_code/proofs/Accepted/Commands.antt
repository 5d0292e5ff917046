-- What the readers of commands, procedures and texts give: what was read is small, and twice the words of its expressions are fewer than its bytes.
-- Assumes nothing.
use Rattle.std.specs.Prelude.{ℕ, zero, suc, ◌+◌, ◌*◌, ◌≤◌, ◌<◌, ◌≡◌, refl, Bool, List, [], ◌∷◌, length}
use native.Mathlib.Omega.{arith}
use Rattle.std.proofs.Math.Bool.{true, false}
use Rattle.gil.specs.Text.{Token, word, property, becomes, mark, ended, Word, Key, k_ifgoto, k_return, k_fail, k_vanish, k_true, k_false, k_not, k_and, k_or, k_lookup, k_mutate, k_dispose}
use Rattle.gil.specs.Tree.{Expr, var, Cmd, assign, ifgoto, call, lookup, mutate, dispose, u_sym, i_sym, return, fail, vanish, Name}
use Rattle.gil.specs.Reading.{Reader, nothing, is_mark, is_ended, assignment, call_of, call_or_var, named, lookup_of, mutate_of, dispose_of, value_key, value_word, value_from, setting_of, jump_of, ending_of, command_key, command_word, command, or_more, one_or_more, commands_of, commands, procedure, procedures_of, procedures}
use Rattle.machine_code.specs.WellFormed.{Each, none, more}
use Rattle.machine_code.proofs.Accepted.Lists.{total}
use Rattle.machine_code.proofs.Accepted.Tokens.{WordFits, a_name, a_number, a_key, a_u_site, an_i_site, a_fault, word_of-fits, as_word-fits}
use Rattle.machine_code.proofs.Accepted.Sizes.{expr_size, cmd_size, proc_size, ExprSmall, small_variable, CmdSmall, small_assign, small_jump, small_call, small_lookup, small_mutate, small_dispose, small_u_sym, small_i_sym, small_return, small_fail, small_vanish, ProcSmall}
use Rattle.machine_code.proofs.Accepted.Readers.{Given, Reads, nothing-reads, done-reads, reads-to, reads_then, reads_on, token-reads, ahead-reads, the_mark-reads, the_becomes-reads, the_name-reads, the_number-reads, the_property-reads, expr-reads}

-- a command past its first token: twice its words are at most its bytes and one
pub record CmdRead (at : ℕ) (c : Cmd Name) (next : ℕ) : Type 0 where
  pub small : CmdSmall c
  pub takes : 2 * cmd_size c + at ≤ suc next

-- the forms that follow `v :=`, read at `at` in a command that began at `from` or after
module _ (s : List ℕ) (v : Name) (from at : ℕ) (b : from ≤ at) (h : at ≤ length s) where
  assignment-reads : Reads s (CmdRead from) (assignment v) at
  unfolding assignment cmd_size
  assignment-reads =
      reads_then (expr-reads s at h) λ e n k p.
      done-reads (assign v e) k (record { small = small_assign p.small; takes = omega arith })

  call_of-reads : (f : Name) → Reads s (CmdRead from) (call_of v f) at
  unfolding call_of cmd_size
  call_of-reads f =
      reads_on (the_mark-reads s at h 40) λ _ n₁ h₁ p₁.
      reads_then (expr-reads s n₁ h₁) λ e n₂ h₂ p₂.
      reads_on (the_mark-reads s n₂ h₂ 41) λ _ n₃ h₃ p₃.
      done-reads (call v f e) h₃ (record { small = small_call p₂.small; takes = omega arith })

  lookup_of-reads : Reads s (CmdRead from) (lookup_of v) at
  unfolding lookup_of cmd_size
  lookup_of-reads =
      reads_on (the_mark-reads s at h 40) λ _ n₁ h₁ p₁.
      reads_on (the_mark-reads s n₁ h₁ 91) λ _ n₂ h₂ p₂.
      reads_then (expr-reads s n₂ h₂) λ e n₃ h₃ p₃.
      reads_on (the_mark-reads s n₃ h₃ 44) λ _ n₄ h₄ p₄.
      reads_then (the_property-reads s n₄ h₄) λ q n₅ h₅ p₅.
      reads_on (the_mark-reads s n₅ h₅ 93) λ _ n₆ h₆ p₆.
      reads_on (the_mark-reads s n₆ h₆ 41) λ _ n₇ h₇ p₇.
      done-reads (lookup v e q) h₇ (record { small = small_lookup p₃.small; takes = omega arith })

  mutate_of-reads : Reads s (CmdRead from) (mutate_of v) at
  unfolding mutate_of cmd_size
  mutate_of-reads =
      reads_on (the_mark-reads s at h 40) λ _ n₁ h₁ p₁.
      reads_on (the_mark-reads s n₁ h₁ 91) λ _ n₂ h₂ p₂.
      reads_then (expr-reads s n₂ h₂) λ e n₃ h₃ p₃.
      reads_on (the_mark-reads s n₃ h₃ 44) λ _ n₄ h₄ p₄.
      reads_then (the_property-reads s n₄ h₄) λ q n₅ h₅ p₅.
      reads_on (the_mark-reads s n₅ h₅ 44) λ _ n₆ h₆ p₆.
      reads_then (expr-reads s n₆ h₆) λ d n₇ h₇ p₇.
      reads_on (the_mark-reads s n₇ h₇ 93) λ _ n₈ h₈ p₈.
      reads_on (the_mark-reads s n₈ h₈ 41) λ _ n₉ h₉ p₉.
      done-reads (mutate v e q d) h₉ (record { small = small_mutate p₃.small p₇.small; takes = omega arith })

  dispose_of-reads : Reads s (CmdRead from) (dispose_of v) at
  unfolding dispose_of cmd_size
  dispose_of-reads =
      reads_on (the_mark-reads s at h 40) λ _ n₁ h₁ p₁.
      reads_then (expr-reads s n₁ h₁) λ e n₂ h₂ p₂.
      reads_on (the_mark-reads s n₂ h₂ 41) λ _ n₃ h₃ p₃.
      done-reads (dispose v e) h₃ (record { small = small_dispose p₂.small; takes = omega arith })

  -- a variable takes a byte
  call_or_var-reads : from < at → (f : Name) (t : Bool) → Reads s (CmdRead from) (call_or_var v f t) at
  unfolding call_or_var cmd_size expr_size
  call_or_var-reads k f true = call_of-reads f
  call_or_var-reads k f false = done-reads (assign v (var f)) h (record { small = small_assign small_variable; takes = omega arith })

module _ (s : List ℕ) (v : Name) (from at : ℕ) (b : from ≤ at) (h : at ≤ length s) where
  named-reads : Reads s (CmdRead from) (named v) at
  unfolding named
  named-reads =
      reads_then (the_name-reads s at h) λ f n₁ h₁ p₁.
      reads_then (ahead-reads s n₁ h₁) λ t n₂ h₂ p₂.
      call_or_var-reads s v from n₂ (omega arith) h₂ (omega arith) f (is_mark 40 t)

  value_key-reads : (k : Key) → Reads s (CmdRead from) (value_key v k) at
  unfolding value_key
  value_key-reads k_lookup = reads_on (token-reads s at h) λ _ n k p. lookup_of-reads s v from n (omega arith) k
  value_key-reads k_mutate = reads_on (token-reads s at h) λ _ n k p. mutate_of-reads s v from n (omega arith) k
  value_key-reads k_dispose = reads_on (token-reads s at h) λ _ n k p. dispose_of-reads s v from n (omega arith) k
  value_key-reads k_true = assignment-reads s v from at b h
  value_key-reads k_false = assignment-reads s v from at b h
  value_key-reads k_not = assignment-reads s v from at b h
  value_key-reads k_ifgoto = nothing-reads
  value_key-reads k_return = nothing-reads
  value_key-reads k_fail = nothing-reads
  value_key-reads k_vanish = nothing-reads
  value_key-reads k_and = nothing-reads
  value_key-reads k_or = nothing-reads

  value_word-reads : {size : ℕ} {w : Word} → WordFits size w → Reads s (CmdRead from) (value_word v w) at
  unfolding value_word cmd_size
  value_word-reads (a_name c) = named-reads
  value_word-reads (a_number c k w) = assignment-reads s v from at b h
  value_word-reads (a_key {k} c) = value_key-reads k
  value_word-reads (a_u_site {j} c i) =
      reads_on (token-reads s at h) λ _ n k p. done-reads (u_sym v j) k (record { small = small_u_sym i; takes = omega arith })
  value_word-reads (an_i_site {j} c i) =
      reads_on (token-reads s at h) λ _ n k p. done-reads (i_sym v j) k (record { small = small_i_sym i; takes = omega arith })
  value_word-reads a_fault = nothing-reads

  value_from-reads : (t : Token) → Reads s (CmdRead from) (value_from v t) at
  unfolding value_from
  value_from-reads (word w) = value_word-reads (word_of-fits w)
  value_from-reads (property p) = nothing-reads
  value_from-reads becomes = nothing-reads
  value_from-reads (mark c) = assignment-reads s v from at b h
  value_from-reads ended = nothing-reads

-- what follows a command's first token
module _ (s : List ℕ) (at : ℕ) (h : at ≤ length s) where
  setting_of-reads : (v : Name) → Reads s (CmdRead at) (setting_of v) at
  unfolding setting_of
  setting_of-reads v =
      reads_on (the_becomes-reads s at h) λ _ n₁ h₁ p₁.
      reads_then (ahead-reads s n₁ h₁) λ t n₂ h₂ p₂.
      value_from-reads s v at n₂ (omega arith) h₂ t

  jump_of-reads : Reads s (CmdRead at) jump_of at
  unfolding jump_of cmd_size
  jump_of-reads =
      reads_then (expr-reads s at h) λ e n₁ h₁ p₁.
      reads_then (the_number-reads s n₁ h₁) λ n n₂ h₂ p₂.
      done-reads (ifgoto e n) h₂ (record { small = small_jump p₁.small p₂.0; takes = omega arith })

  ending_of-reads :
      (c : Expr Name → Cmd Name)
      → ((e : Expr Name) → ExprSmall 8 e → CmdSmall (c e))
      → ((e : Expr Name) → cmd_size (c e) ≡ expr_size e)
      → Reads s (CmdRead at) (ending_of c) at
  unfolding ending_of
  ending_of-reads c small size =
      reads_then (expr-reads s at h) λ e n k p.
      done-reads (c e) k (record { small = small e p.small; takes = omega (arith, size e) })

  command_key-reads : (k : Key) → Reads s (CmdRead at) (command_key k) at
  unfolding command_key cmd_size
  command_key-reads k_ifgoto = jump_of-reads
  command_key-reads k_return = ending_of-reads return (λ e k. small_return k) (λ e. refl)
  command_key-reads k_fail = ending_of-reads fail (λ e k. small_fail k) (λ e. refl)
  command_key-reads k_vanish = done-reads vanish h (record { small = small_vanish; takes = omega arith })
  command_key-reads k_true = nothing-reads
  command_key-reads k_false = nothing-reads
  command_key-reads k_not = nothing-reads
  command_key-reads k_and = nothing-reads
  command_key-reads k_or = nothing-reads
  command_key-reads k_lookup = nothing-reads
  command_key-reads k_mutate = nothing-reads
  command_key-reads k_dispose = nothing-reads

  -- the first token took a byte at least
  command_word-reads :
      {size : ℕ} {w : Word} → WordFits size w → Reads s (λ c next. CmdRead at c next × (1 ≤ size)) (command_word w) at
  unfolding command_word
  command_word-reads (a_name {w} c) = reads-to (λ _ _ r. (r, omega arith)) (setting_of-reads w)
  command_word-reads (a_number c k w) = nothing-reads
  command_word-reads (a_key {k} c) = reads-to (λ _ _ r. (r, omega arith)) (command_key-reads k)
  command_word-reads (a_u_site c k) = nothing-reads
  command_word-reads (an_i_site c k) = nothing-reads
  command_word-reads a_fault = nothing-reads

-- an item of a list: `P` holds of it, and twice its size is less than its bytes
pub record ItemRead {A : Type 0} (P : A → Type 0) (size : A → ℕ) (at : ℕ) (a : A) (next : ℕ) : Type 0 where
  pub small : P a
  pub takes : 2 * size a + at < next

-- one item or more
pub record ItemsRead {A : Type 0} (P : A → Type 0) (size : A → ℕ) (at : ℕ) (l : List A) (next : ℕ) : Type 0 where
  pub small : Each P l
  pub some : 1 ≤ length l
  pub takes : 2 * total size l + at < next

module _ {A : Type 0} (s : List ℕ) (P : A → Type 0) (size : A → ℕ) where
  or_more-reads :
      {more : Reader (List A)} (a : A) (from at : ℕ) → at ≤ length s → ItemRead P size from a at
      → Reads s (ItemsRead P size at) more at
      → (last : Bool) → Reads s (ItemsRead P size from) (or_more more a last) at
  unfolding or_more total
  or_more-reads a from at h p rest true = done-reads (a ∷ []) h (record { small = more p.small none; some = omega arith; takes = omega arith })
  or_more-reads a from at h p rest false =
      reads_then rest λ l n k q.
      done-reads (a ∷ l) k (record { small = more p.small q.small; some = omega arith; takes = omega arith })

  one_or_more-reads :
      {item : Reader A} {rest : Reader (List A)} (last : Token → Bool)
      → ((at : ℕ) → at ≤ length s → Reads s (ItemRead P size at) item at)
      → ((at : ℕ) → at ≤ length s → Reads s (ItemsRead P size at) rest at)
      → (at : ℕ)
      → at ≤ length s
      → Reads s (ItemsRead P size at) (one_or_more item last rest) at
  unfolding one_or_more
  one_or_more-reads last item rest at h =
      reads_then (item at h) λ a n₁ h₁ p₁.
      reads_then (ahead-reads s n₁ h₁) λ t n₂ h₂ p₂.
      or_more-reads a at n₂ h₂ (rw p₂ p₁) (rest n₂ h₂) (last t)

pub command-reads : (s : List ℕ) (at : ℕ) → at ≤ length s → Reads s (ItemRead CmdSmall cmd_size at) command at
unfolding command
command-reads s at h =
    reads_then (token-reads s at h) λ t n₁ h₁ p₁.
    reads_then (command_word-reads s n₁ h₁ (as_word-fits t)) λ c n₂ h₂ p₂.
    reads_on (the_mark-reads s n₂ h₂ 59) λ _ n₃ h₃ p₃.
    done-reads c h₃ (record { small = p₂.0.small; takes = omega arith })

pub commands_of-reads : (s : List ℕ) (fuel at : ℕ) → at ≤ length s → Reads s (ItemsRead CmdSmall cmd_size at) (commands_of fuel) at
unfolding commands_of nothing
commands_of-reads s zero at h = nothing-reads
commands_of-reads s (suc n) at h = one_or_more-reads s CmdSmall cmd_size (is_mark 125) (command-reads s) (λ a b. commands_of-reads s n a b) at h

pub commands-reads : (s : List ℕ) (at : ℕ) → at ≤ length s → Reads s (ItemsRead CmdSmall cmd_size at) commands at
unfolding commands
commands-reads s at h = record { given = (commands_of-reads s (suc (length s)) at h).given }

pub procedure-reads : (s : List ℕ) (at : ℕ) → at ≤ length s → Reads s (ItemRead ProcSmall proc_size at) procedure at
unfolding procedure
procedure-reads s at h =
    reads_then (the_name-reads s at h) λ f n₁ h₁ p₁.
    reads_on (the_mark-reads s n₁ h₁ 40) λ _ n₂ h₂ p₂.
    reads_then (the_name-reads s n₂ h₂) λ x n₃ h₃ p₃.
    reads_on (the_mark-reads s n₃ h₃ 41) λ _ n₄ h₄ p₄.
    reads_on (the_mark-reads s n₄ h₄ 123) λ _ n₅ h₅ p₅.
    reads_then (commands-reads s n₅ h₅) λ cs n₆ h₆ p₆.
    reads_on (the_mark-reads s n₆ h₆ 125) λ _ n₇ h₇ p₇.
    done-reads (record { name = f; parameter = x; body = cs }) h₇
    (record { small = record { small = p₆.small; some = p₆.some }; takes = omega arith })

pub procedures_of-reads : (s : List ℕ) (fuel at : ℕ) → at ≤ length s → Reads s (ItemsRead ProcSmall proc_size at) (procedures_of fuel) at
unfolding procedures_of nothing
procedures_of-reads s zero at h = nothing-reads
procedures_of-reads s (suc n) at h = one_or_more-reads s ProcSmall proc_size is_ended (procedure-reads s) (λ a b. procedures_of-reads s n a b) at h

-- a whole text
pub procedures-given : (s : List ℕ) → Given s (ItemsRead ProcSmall proc_size 0) (procedures s)
unfolding procedures
procedures-given s = (procedures_of-reads s (suc (length s)) 0 (omega arith)).given
