-- How many words commands have. Assumes nothing.
use Rattle.std.specs.Prelude.{ℕ, ◌+◌, ◌*◌, ◌≡◌, refl, List, [], ◌∷◌, ◌++◌, map, length}
use Rattle.std.proofs.Common.{◌∙◌, arith, length-append}
use Rattle.gil.specs.Tree.{Cmd, assign, ifgoto, call, lookup, mutate, dispose, u_sym, i_sym, return, fail, vanish, Name}
use Rattle.gil.specs.Names.{gather}
use Rattle.machine_code.specs.Code.{cmd_nodes, cmd_words, command_words, command_size}
use Rattle.machine_code.proofs.Accepted.Sizes.{cmd_size}
use Rattle.machine_code.proofs.Accepted.Numbered.{cmd_nodes-size, rename_cmd-size}
use Rattle.gil.specs.Numbers.{most_procedures, most_properties, most_variables}
use Rattle.text_names.specs.Mirror.Tables.{number_in}
use Rattle.text_values.specs.Mirror.{numbered}
use Rattle.text_procedures.specs.Mirror.Lists.{body_size}

pub size-append : (cs ds : List (Cmd Name)) → body_size (cs ++ ds) ≡ body_size cs + body_size ds
unfolding body_size
size-append [] ds = omega arith
size-append (c ∷ cs) ds = omega (arith, size-append cs ds)

cmd-nodes-size : (vs qs fs : List Name) (c : Cmd Name) → length (cmd_nodes (numbered vs qs fs c)) ≡ cmd_size c
unfolding numbered
cmd-nodes-size vs qs fs c = cmd_nodes-size (numbered vs qs fs c) ∙ rename_cmd-size (number_in most_variables vs) (number_in most_properties qs) (number_in most_procedures fs) c

pub body-nodes-size : (vs qs fs : List Name) (cs : List (Cmd Name)) → length (gather cmd_nodes (map (numbered vs qs fs) cs)) ≡ body_size cs
unfolding gather body_size
body-nodes-size vs qs fs [] = refl
body-nodes-size vs qs fs (c ∷ cs) = length-append (cmd_nodes (numbered vs qs fs c)) (gather cmd_nodes (map (numbered vs qs fs) cs)) ∙ (let h = cmd-nodes-size vs qs fs c in let k = body-nodes-size vs qs fs cs in omega arith)

pub five-words : (at : ℕ) (r : Cmd ℕ) → length (cmd_words at r) ≡ command_size
unfolding cmd_words
five-words at (assign x e) = refl
five-words at (ifgoto e n) = refl
five-words at (call x f e) = refl
five-words at (lookup x e q) = refl
five-words at (mutate x e q d) = refl
five-words at (dispose x e) = refl
five-words at (u_sym x j) = refl
five-words at (i_sym x j) = refl
five-words at (return e) = refl
five-words at (fail e) = refl
five-words at vanish = refl

pub words-length : (at : ℕ) (rs : List (Cmd ℕ)) → length (command_words at rs) ≡ command_size * length rs
unfolding command_words
words-length at [] = refl
words-length at (r ∷ rs) = length-append (cmd_words at r) (command_words (at + length (cmd_nodes r)) rs) ∙ (let h = five-words at r in let k = words-length (at + length (cmd_nodes r)) rs in omega arith)
