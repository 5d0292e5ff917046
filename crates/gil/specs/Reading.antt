-- "The text": reading bytes into a program tree, with no limits but those of the form itself. Each reader takes the text and a place
-- in it, and gives what it read and the place after it, or `faulty`: refusal 4. Assumes nothing.
use Rattle.std.specs.Prelude.{ℕ, zero, suc, Bool, true, false, List, [], ◌∷◌, length, eqb}
use Rattle.gil.specs.Numbers.{most_depth}
use Rattle.gil.specs.Text.{Token, word, property, becomes, mark, ended, lexeme, Word, name, number, key, u_site, i_site, fault, word_of, Key, k_ifgoto, k_return, k_fail, k_vanish, k_true, k_false, k_not, k_and, k_or, k_lookup, k_mutate, k_dispose}
use Rattle.gil.specs.Tree.{Op, plus, minus, equal, less, and, or, Expr, num, bool, var, neg, bin, Cmd, assign, ifgoto, call, lookup, mutate, dispose, u_sym, i_sym, return, fail, vanish, Proc, Name}

infixl 10 ◌>>=◌
infixl 10 ◌>>◌
pub data Read (A : Type 0) : Type 0 where
  faulty : Read A
  read : A → ℕ → Read A

abbrev pub Reader : Type 0 → Type 0
Reader A = List ℕ → ℕ → Read A

-- readers in a row, by `do`
unfoldable pub after : {A B : Type 0} → List ℕ → Read A → (A → Reader B) → Read B
after s faulty f = faulty
after s (read a next) f = f a s next

unfoldable pub ◌>>=◌ : {A B : Type 0} → Reader A → (A → Reader B) → Reader B
◌>>=◌ p f s at = after s (p s at) f

unfoldable pub ◌>>◌ : {A B : Type 0} → Reader A → Reader B → Reader B
◌>>◌ p q s at = after s (p s at) (λ a. q)

unfoldable pub done : {A : Type 0} → A → Reader A
done a s at = read a at

unfoldable pub nothing : {A : Type 0} → Reader A
nothing s at = faulty

-- the next token; the next token, left where it is
unfoldable pub token : Reader Token
token s at = read (lexeme s at).token (lexeme s at).next

unfoldable pub ahead : Reader Token
ahead s at = read (lexeme s at).token at

unfoldable pub is_mark : ℕ → Token → Bool
is_mark b (word w) = false
is_mark b (property p) = false
is_mark b becomes = false
is_mark b (mark c) = eqb b c
is_mark b ended = false

unfoldable pub is_ended : Token → Bool
is_ended (word w) = false
is_ended (property p) = false
is_ended becomes = false
is_ended (mark c) = false
is_ended ended = true

unfoldable pub is_becomes : Token → Bool
is_becomes (word w) = false
is_becomes (property p) = false
is_becomes becomes = true
is_becomes (mark c) = false
is_becomes ended = false

unfoldable pub so : Bool → Reader (Unit {0})
so true = done tt
so false = nothing

-- a given mark; `:=`
unfoldable pub the_mark : ℕ → Reader (Unit {0})
the_mark b = token >>= λ t. so (is_mark b t)

unfoldable pub the_becomes : Reader (Unit {0})
the_becomes = token >>= λ t. so (is_becomes t)

unfoldable pub name_of : Word → Reader Name
name_of (name w) = done w
name_of (number n) = nothing
name_of (key k) = nothing
name_of (u_site j) = nothing
name_of (i_site j) = nothing
name_of fault = nothing

-- what a token is if it is a run, and `fault` if not
unfoldable pub as_word : Token → Word
as_word (word w) = word_of w
as_word (property p) = fault
as_word becomes = fault
as_word (mark b) = fault
as_word ended = fault

-- "names are identifiers not reserved"
unfoldable pub the_name : Reader Name
the_name = token >>= λ t. name_of (as_word t)

unfoldable pub number_of : Word → Reader ℕ
number_of (name w) = nothing
number_of (number n) = done n
number_of (key k) = nothing
number_of (u_site j) = nothing
number_of (i_site j) = nothing
number_of fault = nothing

unfoldable pub the_number : Reader ℕ
the_number = token >>= λ t. number_of (as_word t)

unfoldable pub property_of : Token → Reader Name
property_of (word w) = nothing
property_of (property p) = done p
property_of becomes = nothing
property_of (mark b) = nothing
property_of ended = nothing

unfoldable pub the_property : Reader Name
the_property = token >>= property_of

-- "op one of `+ - = < and or`"
unfoldable pub op_mark : ℕ → Reader Op
op_mark b =
    elim (eqb b 43) [
      | true ↦ done plus
      | false ↦ elim (eqb b 45) [
        | true ↦ done minus
        | false ↦ elim (eqb b 61) [ true ↦ done equal | false ↦ elim (eqb b 60) [ true ↦ done less | false ↦ nothing ] ]
      ]
    ]

unfoldable pub op_key : Key → Reader Op
op_key k_and = done and
op_key k_or = done or
op_key k_ifgoto = nothing
op_key k_return = nothing
op_key k_fail = nothing
op_key k_vanish = nothing
op_key k_true = nothing
op_key k_false = nothing
op_key k_not = nothing
op_key k_lookup = nothing
op_key k_mutate = nothing
op_key k_dispose = nothing

unfoldable pub op_word : Word → Reader Op
op_word (name w) = nothing
op_word (number n) = nothing
op_word (key k) = op_key k
op_word (u_site j) = nothing
op_word (i_site j) = nothing
op_word fault = nothing

unfoldable pub op_of : Token → Reader Op
op_of (word w) = op_word (word_of w)
op_of (property p) = nothing
op_of becomes = nothing
op_of (mark b) = op_mark b
op_of ended = nothing

unfoldable pub the_op : Reader Op
the_op = token >>= op_of

-- `not e`, where `e` reads the operand
unfoldable pub negation : Reader (Expr Name) → Reader (Expr Name)
negation e = do
  a ← e
  done (neg a)

-- `(e op e)` past its first bracket
unfoldable pub bracketed : Reader (Expr Name) → Reader (Expr Name)
bracketed e = do
  a ← e
  o ← the_op
  b ← e
  the_mark 41
  done (bin o a b)

unfoldable pub expr_key : Reader (Expr Name) → Key → Reader (Expr Name)
expr_key e k_true = done (bool true)
expr_key e k_false = done (bool false)
expr_key e k_not = negation e
expr_key e k_ifgoto = nothing
expr_key e k_return = nothing
expr_key e k_fail = nothing
expr_key e k_vanish = nothing
expr_key e k_and = nothing
expr_key e k_or = nothing
expr_key e k_lookup = nothing
expr_key e k_mutate = nothing
expr_key e k_dispose = nothing

unfoldable pub expr_word : Reader (Expr Name) → Word → Reader (Expr Name)
expr_word e (name w) = done (var w)
expr_word e (number n) = done (num n)
expr_word e (key k) = expr_key e k
expr_word e (u_site j) = nothing
expr_word e (i_site j) = nothing
expr_word e fault = nothing

unfoldable pub expr_from : Reader (Expr Name) → Token → Reader (Expr Name)
expr_from e (word w) = expr_word e (word_of w)
expr_from e (property p) = nothing
expr_from e becomes = nothing
expr_from e (mark b) = elim (eqb b 40) [ true ↦ bracketed e | false ↦ nothing ]
expr_from e ended = nothing

-- an expression at most `d` deep: "a number, `true`, `false` or a variable is one deep; `not` or an operator is one more than its deepest operand"
unfoldable pub expr_deep : ℕ → Reader (Expr Name)
expr_deep zero s at = faulty
expr_deep (suc d) s at = (token >>= expr_from (expr_deep d)) s at

-- "An expression is at most eight deep; a deeper one is a syntax fault"
unfoldable pub expr : Reader (Expr Name)
expr = expr_deep most_depth

-- what follows `v :=`
unfoldable pub assignment : Name → Reader (Cmd Name)
assignment v = do
  e ← expr
  done (assign v e)

unfoldable pub call_of : Name → Name → Reader (Cmd Name)
call_of v f = do
  the_mark 40
  e ← expr
  the_mark 41
  done (call v f e)

-- a name after `v :=` is a call where a bracket follows, and else a variable
unfoldable pub call_or_var : Name → Name → Bool → Reader (Cmd Name)
call_or_var v f true = call_of v f
call_or_var v f false = done (assign v (var f))

unfoldable pub named : Name → Reader (Cmd Name)
named v = do
  f ← the_name
  t ← ahead
  call_or_var v f (is_mark 40 t)

-- `lookup([e, "p"])`, `mutate([e, "p", e])`, `dispose(e)` past the action's name
unfoldable pub lookup_of : Name → Reader (Cmd Name)
lookup_of v = do
  the_mark 40
  the_mark 91
  e ← expr
  the_mark 44
  p ← the_property
  the_mark 93
  the_mark 41
  done (lookup v e p)

unfoldable pub mutate_of : Name → Reader (Cmd Name)
mutate_of v = do
  the_mark 40
  the_mark 91
  e ← expr
  the_mark 44
  p ← the_property
  the_mark 44
  d ← expr
  the_mark 93
  the_mark 41
  done (mutate v e p d)

unfoldable pub dispose_of : Name → Reader (Cmd Name)
dispose_of v = do
  the_mark 40
  e ← expr
  the_mark 41
  done (dispose v e)

unfoldable pub value_key : Name → Key → Reader (Cmd Name)
value_key v k_lookup = token >> lookup_of v
value_key v k_mutate = token >> mutate_of v
value_key v k_dispose = token >> dispose_of v
value_key v k_true = assignment v
value_key v k_false = assignment v
value_key v k_not = assignment v
value_key v k_ifgoto = nothing
value_key v k_return = nothing
value_key v k_fail = nothing
value_key v k_vanish = nothing
value_key v k_and = nothing
value_key v k_or = nothing

unfoldable pub value_word : Name → Word → Reader (Cmd Name)
value_word v (name f) = named v
value_word v (number n) = assignment v
value_word v (key k) = value_key v k
value_word v (u_site j) = token >> done (u_sym v j)
value_word v (i_site j) = token >> done (i_sym v j)
value_word v fault = nothing

unfoldable pub value_from : Name → Token → Reader (Cmd Name)
value_from v (word w) = value_word v (word_of w)
value_from v (property p) = nothing
value_from v becomes = nothing
value_from v (mark b) = assignment v
value_from v ended = nothing

unfoldable pub setting_of : Name → Reader (Cmd Name)
setting_of v = do
  the_becomes
  t ← ahead
  value_from v t

unfoldable pub jump_of : Reader (Cmd Name)
jump_of = do
  e ← expr
  n ← the_number
  done (ifgoto e n)

unfoldable pub ending_of : (Expr Name → Cmd Name) → Reader (Cmd Name)
ending_of c = do
  e ← expr
  done (c e)

unfoldable pub command_key : Key → Reader (Cmd Name)
command_key k_ifgoto = jump_of
command_key k_return = ending_of return
command_key k_fail = ending_of fail
command_key k_vanish = done vanish
command_key k_true = nothing
command_key k_false = nothing
command_key k_not = nothing
command_key k_and = nothing
command_key k_or = nothing
command_key k_lookup = nothing
command_key k_mutate = nothing
command_key k_dispose = nothing

unfoldable pub command_word : Word → Reader (Cmd Name)
command_word (name v) = setting_of v
command_word (number n) = nothing
command_word (key k) = command_key k
command_word (u_site j) = nothing
command_word (i_site j) = nothing
command_word fault = nothing

-- a command and its semicolon
unfoldable pub command : Reader (Cmd Name)
command = do
  t ← token
  c ← command_word (as_word t)
  the_mark 59
  done c

-- "one or more": an item, and more of them until what follows ends the list; `more` reads the rest
unfoldable pub or_more : {A : Type 0} → Reader (List A) → A → Bool → Reader (List A)
or_more more a true = done (a ∷ [])
or_more more a false = more >>= λ l. done (a ∷ l)

unfoldable pub one_or_more : {A : Type 0} → Reader A → (Token → Bool) → Reader (List A) → Reader (List A)
one_or_more item last more = do
  a ← item
  t ← ahead
  or_more more a (last t)

-- the fuel is the length of the text and one, which no list of items can use up: each takes at least one byte
unfoldable pub commands_of : ℕ → Reader (List (Cmd Name))
commands_of zero s at = faulty
commands_of (suc n) s at = one_or_more command (is_mark 125) (commands_of n) s at

unfoldable pub commands : Reader (List (Cmd Name))
commands s at = commands_of (suc (length s)) s at

unfoldable pub procedure : Reader (Proc Name)
procedure = do
  f ← the_name
  the_mark 40
  x ← the_name
  the_mark 41
  the_mark 123
  cs ← commands
  the_mark 125
  done (record { name = f; parameter = x; body = cs })

unfoldable pub procedures_of : ℕ → Reader (List (Proc Name))
procedures_of zero s at = faulty
procedures_of (suc n) s at = one_or_more procedure is_ended (procedures_of n) s at

-- "A text is one or more procedures"
unfoldable pub procedures : List ℕ → Read (List (Proc Name))
procedures s = procedures_of (suc (length s)) s 0
