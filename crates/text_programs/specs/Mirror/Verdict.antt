-- What the tests behind refusals 5 to 8 are asked of: the tables of names, counts and flags of a text that was read. Assumes nothing.
use Rattle.std.specs.Prelude.{ℕ, ◌≡◌, Bool, not, ◌||◌, List, [], length, ltb}
use Rattle.gil.specs.Text.{bytes}
use Rattle.gil.specs.Tree.{Proc, Name}
use Rattle.gil.specs.Names.{any, gather, has, repeated, with_names, proc_names}
use Rattle.gil.specs.Numbers.{most_procedures, most_properties}
use Rattle.text_names.specs.declared.Names.{Names}
use Rattle.text_names.specs.Mirror.Tables.{Kept, known}
use Rattle.text_procedures.specs.Mirror.Procedures.{wide_of, past_of, open_of, props_of, calls_of}

-- some name of the table `k` is none of the table `t`
unfoldable pub any_missing : List ℕ → Names → Names → Bool
any_missing s k t = any (λ w. not (has w (known s t))) (known s k)

-- the same, or there are too many
unfoldable pub any_lost : List ℕ → Names → Names → Bool
any_lost s k t = ltb most_procedures k.count || any_missing s k t

-- refusal 6 by the names alone
unfoldable pub wrong_with : List Name → List Name → Bool
wrong_with ns fs = repeated ns || any (λ f. not (has f ns)) fs || not (has (bytes "main") ns)

-- what was counted, flagged and kept of the procedures `ps`
pub record Told (s : List ℕ) (t k q : Names) (np nc : ℕ) (wide past unended : Bool) (ps : List (Proc Name)) : Type 0 where
  pub props : Kept s most_properties t (with_names [] (gather props_of ps))
  pub calls : Kept s most_procedures k (with_names [] (gather calls_of ps))
  pub names : Kept s most_procedures q (with_names [] (proc_names ps))
  pub counted : np ≡ length ps
  pub summed : nc ≡ length (gather (λ r. r.body) ps)
  pub wider : wide ≡ any wide_of ps
  pub passes : past ≡ any past_of ps
  pub stays : unended ≡ any open_of ps
