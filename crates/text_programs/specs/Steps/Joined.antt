-- The words of a whole program: what was stored into zeroed words, with the two words before it, is `program_words`. Assumes nothing.
use Rattle.std.specs.Prelude.{ℕ, zero, suc, ◌+◌, ◌-◌, ◌≤◌, ◌≡◌, refl, List, [], ◌∷◌, ◌++◌, length, set, replicate}
use Rattle.std.proofs.Common.{sym, ap, ◌∙◌, append_assoc, append-nil, arith}
use Rattle.std.proofs.lemmas.List.{length-replicate, replicate-append-replicate}
use Rattle.std.proofs.lemmas.List.Edits.{sets}
use Rattle.gil.specs.Names.{gather, Program}
use Rattle.gil.specs.Layout.{room}
use Rattle.machine_code.specs.Code.{cmd_nodes, command_words, procedure_words, all_commands, program_words, code_words, commands_room, nodes_at, nodes_room, procedures_room}
use Rattle.machine_code.specs.WellFormed.{WellFormed}
use Rattle.text_procedures.specs.Mirror.Lists.{body_stored}
use Rattle.text_procedures.specs.Mirror.Words.{bodies, program_stored}
use Rattle.text_procedures.specs.Laws.Lists.{words-length}
use Rattle.text_procedures.specs.Laws.Words.{three-words}

-- a run of stores behind the first word
sets_behind : (a : ℕ) (l : List ℕ) (i : ℕ) (ws : List ℕ) → sets (a ∷ l) (suc i) ws ≡ a ∷ sets l i ws
sets_behind a l i [] = refl
sets_behind a l i (w ∷ ws) = sets_behind a (set l i w) (suc i) ws

-- a run of stores into zeros, with words behind them and before them
fill-first : (m : ℕ) (ws bs : List ℕ) → length ws ≤ m → sets (replicate m 0 ++ bs) 0 ws ≡ room m ws ++ bs
unfolding room
fill-first m [] bs h = let e : m ≡ m - 0 = omega arith in ap (λ (k : ℕ). replicate k 0 ++ bs) e
fill-first zero (w ∷ ws) bs h = absurd (omega arith)
fill-first (suc m) (w ∷ ws) bs h =
    let e : m - length ws ≡ suc m - suc (length ws) = omega arith in
    sets_behind w (replicate m 0 ++ bs) 0 ws
    ∙ ap (λ (l : List ℕ). w ∷ l) (fill-first m ws bs (omega arith) ∙ ap (λ (k : ℕ). (ws ++ replicate k 0) ++ bs) e)

fill : (us : List ℕ) (m : ℕ) (ws bs : List ℕ) → length ws ≤ m → sets (us ++ (replicate m 0 ++ bs)) (length us) ws ≡ us ++ (room m ws ++ bs)
fill [] m ws bs h = fill-first m ws bs h
fill (a ∷ us) m ws bs h = sets_behind a (us ++ (replicate m 0 ++ bs)) (length us) ws ∙ ap (λ (l : List ℕ). a ∷ l) (fill us m ws bs h)

-- three runs of stores, the last of them first
module _ (a b c : ℕ) (us bs cs : List ℕ) (ha : length us ≤ a) (hb : length bs ≤ b) (hc : length cs ≤ c) where
  last-run : sets (replicate (a + (b + c)) 0) (a + b) cs ≡ replicate a 0 ++ (replicate b 0 ++ room c cs)
  last-run =
      ap (λ (l : List ℕ). sets l (a + b) cs) (split ∙ ap (λ (l : List ℕ). replicate (a + b) 0 ++ l) (sym (append-nil (replicate c 0))))
      ∙ ap (λ (i : ℕ). sets (replicate (a + b) 0 ++ (replicate c 0 ++ [])) i cs) (sym (length-replicate {A = ℕ} (a + b) 0))
      ∙ fill (replicate (a + b) 0) c cs [] hc
      ∙ ap (λ (l : List ℕ). l ++ (room c cs ++ [])) (sym (replicate-append-replicate {A = ℕ} a b 0))
      ∙ ap (λ (l : List ℕ). (replicate a 0 ++ replicate b 0) ++ l) (append-nil (room c cs))
      ∙ append_assoc (replicate a 0) (replicate b 0) (room c cs)
    where
      split : replicate {A = ℕ} (a + (b + c)) 0 ≡ replicate (a + b) 0 ++ replicate c 0
      split = let e : a + (b + c) ≡ a + b + c = omega arith in ap (λ (k : ℕ). replicate k 0) e ∙ sym (replicate-append-replicate {A = ℕ} (a + b) c 0)

  middle-run : sets (replicate a 0 ++ (replicate b 0 ++ room c cs)) a bs ≡ replicate a 0 ++ (room b bs ++ room c cs)
  middle-run =
      ap (λ (i : ℕ). sets (replicate a 0 ++ (replicate b 0 ++ room c cs)) i bs) (sym (length-replicate {A = ℕ} a 0))
      ∙ fill (replicate a 0) b bs (room c cs) hb

  runs : sets (sets (sets (replicate (a + (b + c)) 0) (a + b) cs) a bs) 0 us ≡ room a us ++ (room b bs ++ room c cs)
  runs =
      ap (λ (l : List ℕ). sets (sets l a bs) 0 us) last-run
      ∙ ap (λ (l : List ℕ). sets l 0 us) middle-run
      ∙ fill-first a us (room b bs ++ room c cs) ha

  -- with two words before them
  behind_two : (l : List ℕ) (i : ℕ) (ws : List ℕ) → sets (0 ∷ 0 ∷ l) (suc (suc i)) ws ≡ 0 ∷ 0 ∷ sets l i ws
  behind_two l i ws = sets_behind 0 (0 ∷ l) (suc i) ws ∙ ap (λ (k : List ℕ). 0 ∷ k) (sets_behind 0 l i ws)

  pub runs-behind : sets (sets (sets (replicate (suc (suc (a + (b + c)))) 0) (suc (suc (a + b))) cs) (suc (suc a)) bs) 2 us ≡ 0 ∷ 0 ∷ (room a us ++ (room b bs ++ room c cs))
  runs-behind =
      ap (λ (l : List ℕ). sets (sets l (suc (suc a)) bs) 2 us) (behind_two (replicate (a + (b + c)) 0) (a + b) cs)
      ∙ ap (λ (l : List ℕ). sets l 2 us) (behind_two (sets (replicate (a + (b + c)) 0) (a + b) cs) a bs)
      ∙ behind_two (sets (sets (replicate (a + (b + c)) 0) (a + b) cs) a bs) 0 us
      ∙ ap (λ (l : List ℕ). 0 ∷ 0 ∷ l) runs

pub program-joined : (p : Program) → WellFormed p → set (set (program_stored (replicate code_words 0) p.procedures) 0 (length p.procedures)) 1 p.main ≡ program_words p
unfolding program_words program_stored body_stored all_commands
program-joined p w =
    ap (λ (l : List ℕ). set (set l 0 (length p.procedures)) 1 p.main)
    (runs-behind procedures_room commands_room nodes_room (procedure_words 0 p.procedures) (command_words nodes_at (bodies p.procedures)) (gather cmd_nodes (bodies p.procedures))
    (omega (arith, three-words 0 p.procedures, w.few_procedures))
    (omega (arith, words-length nodes_at (bodies p.procedures), w.few_commands))
    w.few_nodes)
    ∙ apart (length p.procedures ∷ p.main ∷ []) (room procedures_room (procedure_words 0 p.procedures)) (room commands_room (command_words nodes_at (bodies p.procedures))) (room nodes_room (gather cmd_nodes (bodies p.procedures)))
  where
    apart : (a b c d : List ℕ) → a ++ (b ++ (c ++ d)) ≡ ((a ++ b) ++ c) ++ d
    apart a b c d = sym (append_assoc a b (c ++ d)) ∙ sym (append_assoc (a ++ b) c d)
