-- THE THREE DEMANDS hold of the calls: for each record of specs/Demands.antt the theorem that the calls of document 01's definitions meet it,
-- what follows of the exported calls (`demanded`, below), and that the demands leave no freedom. Read specs/Demands.antt first. The proofs are
-- in Orders, Texts, Overruns and Refusals (1 and 2), PutIn, Rows and Accounted (3), Determined. Nothing is assumed.
use Rattle.std.specs.Prelude.{ℕ, ◌≡◌, false, List, ◌++◌, map, length}
use Rattle.std.proofs.Common.{sym, subst}
use Rattle.gil.specs.Names.{Program, accepted, check_text}
use Rattle.gil.specs.Rows.{Path, Row, cut_for, steps}
use Rattle.gil.specs.Explore.{explored, exploring}
use Rattle.gil.specs.Pool.{Ref, Pool, table, value_of, pool_values, meets}
use Rattle.gil.specs.Accounts.{put_in, Stands, Accounts, exploration_after}
use Rattle.gil.proofs.Demand3.{after_every_command}
use Rattle.gil.specs.Numbers.{inputs_length}
use Rattle.gil.specs.Layout.{table_bytes, pool_bytes, answer_bytes, input_words}
use Rattle.gil.specs.Calls as Calls
use Rattle.gil.specs.Promises.{Call, check, plain_run, explore, place, Outcome, Version, the_calls, Promise}
use Rattle.demands.specs.Reasons.{Refuses}
use Rattle.demands.specs.Demands.{asked, Demand1, Demand2, Demand3, Same}
use Rattle.demands.proofs.Refusals.{check-refuses, plain_range, plain-refuses, plain-untouched, plain_runs, explore_range, explore-refuses, explore-leaves, explore-explores, place-refuses, place-leaves, place-explores}
use Rattle.table_locate.specs.Laws.Inputs.{Bytes}
use Rattle.demands.specs.FromBytes.{rows_in, steps_in, meets_row, put_in_bytes}
use Rattle.demands.proofs.Accounted.{one-row, same-exploring, bytes_read}
use Rattle.demands.proofs.Determined.{same_check, same-plain, same_exploration}

-- DEMAND 1
pub demand_1 : Demand1 the_calls
demand_1 = record { refuses = refuse; leaves = leave }
  where
    refuse : (c : Call) → Refuses (asked c).reason (asked c).refusals (asked c).success ((asked c).returned (the_calls c))
    refuse (check text) = check-refuses text
    refuse (plain_run text inputs budget lent_answer) = plain-refuses text inputs budget lent_answer
    refuse (explore text budget most lent_table lent_pool) = explore-refuses text budget most lent_table lent_pool
    refuse (place text inputs budget most lent_table lent_pool) = place-refuses text inputs budget most lent_table lent_pool

    leave : (c : Call) → (asked c).left (the_calls c)
    leave (check text) = tt
    leave (plain_run text inputs budget lent_answer) = plain-untouched text inputs budget lent_answer
    leave (explore text budget most lent_table lent_pool) = explore-leaves text budget most lent_table lent_pool
    leave (place text inputs budget most lent_table lent_pool) = place-leaves text inputs budget most lent_table lent_pool

-- DEMAND 2
pub demand_2 : Demand2 the_calls
demand_2 = record { answers = answer }
  where
    answer : (c : Call) → ((n : ℕ) → (asked c).reason n → ⊥) → (asked c).answers (the_calls c)
    answer (check text) = (check-refuses text).otherwise.1
    answer (plain_run text inputs budget lent_answer) = plain_runs text inputs budget lent_answer
    answer (explore text budget most lent_table lent_pool) = explore-explores text budget most lent_table lent_pool
    answer (place text inputs budget most lent_table lent_pool) = place-explores text inputs budget most lent_table lent_pool

-- DEMAND 3
pub demand_3 : Demand3 the_calls
demand_3 = record { accounts = one-row; places = same-exploring }

-- What FromBytes reads in those bytes is what the definitions say of the rows: their number; and of each row whether the inputs meet its
-- conditions, its steps, and its bytes as an answer once the inputs are put in.
pub demand_3_bytes :
    (text : List ℕ) (budget most : ℕ)
    → Calls.wrong_budgets budget most ≡ false
    → {p : Program} {terms : Pool} {rows : List (Row Ref)}
    → check_text text ≡ accepted p
    → table p budget most ≡ explored terms rows
    → (surplus rest inputs : List ℕ)
    → length inputs ≡ inputs_length
    → Bytes inputs
    → (rows_in (table_bytes terms rows ++ surplus) ≡ length rows)
    × ((k : ℕ) (r : Row Ref) → Stands k r rows
    → (meets_row (table_bytes terms rows ++ surplus) (pool_bytes terms ++ rest) inputs k
    ≡ meets (pool_values (input_words inputs) terms) r.conditions)
    × (steps_in (table_bytes terms rows ++ surplus) k ≡ r.steps)
    × (put_in_bytes (table_bytes terms rows ++ surplus) (pool_bytes terms ++ rest) inputs k
    ≡ answer_bytes (put_in (value_of (pool_values (input_words inputs) terms)) r)))
demand_3_bytes = bytes_read

-- "The same holds after every command of the exploration, over finished rows and waiting branches (read as cut) together": there are no
-- bytes then, so this is said of the definitions, for the program of an accepted text.
pub demand_3_after_every_command :
    (text : List ℕ) {p : Program}
    → check_text text ≡ accepted p
    → (budget most : ℕ) (inputs : List ℕ) (commands : ℕ) (terms : Pool) (rows : List (Row Ref)) (waiting : List (Path Ref))
    → exploration_after p budget most commands ≡ exploring terms rows waiting
    → Accounts p inputs terms (rows ++ map (cut_for steps) waiting)
demand_3_after_every_command text {p} accepts = after_every_command p

-- TIGHTNESS. "Prove that two outcomes both allowed by it are the same": a promise says what a call is, by a function of all that it is given,
-- and is met by one outcome only (`one-outcome`, crates/gil/specs/Promises.antt). There is no exception.
-- And the demands themselves leave no freedom: two versions that meet demands 1 and 2 return the same and leave the same bytes, always.
one_answer :
    (c : Call) (a b : Outcome c)
    → Refuses (asked c).reason (asked c).refusals (asked c).success ((asked c).returned a)
    → Refuses (asked c).reason (asked c).refusals (asked c).success ((asked c).returned b)
    → (asked c).left a
    → (asked c).left b
    → (((n : ℕ) → (asked c).reason n → ⊥) → (asked c).answers a)
    → (((n : ℕ) → (asked c).reason n → ⊥) → (asked c).answers b)
    → a ≡ b
one_answer (check text) a b f g l m x y = same_check f g
one_answer (plain_run text inputs budget lent_answer) a b f g l m x y = same-plain plain_range f g l m x y
one_answer (explore text budget most lent_table lent_pool) a b f g l m x y = same_exploration explore_range f g l m x y
one_answer (place text inputs budget most lent_table lent_pool) a b f g l m x y = same_exploration explore_range f g l m x y

pub determined : (v w : Version) → Demand1 v → Demand2 v → Demand1 w → Demand2 w → Same v w
determined v w v1 v2 w1 w2 c =
    one_answer c (v c) (w c) (v1.refuses c) (w1.refuses c) (v1.leaves c) (w1.leaves c) (v2.answers c) (w2.answers c)

-- So a version that is, call by call, what the definitions say meets all three demands.
pub all_demands : (v : Version) → Same v the_calls → Demand1 v × Demand2 v × Demand3 v
all_demands v same =
    let e : the_calls ≡ v = λ j c. sym (same c) j in
    (subst Demand1 e demand_1, subst Demand2 e demand_2, subst Demand3 e demand_3)

-- THE EXPORTED CALLS: whatever outcomes they have under their promises, the three demands hold of them.
pub demanded : (exported : Version) → ((c : Call) → Promise c (exported c)) → Demand1 exported × Demand2 exported × Demand3 exported
demanded exported promised = all_demands exported promised

-- And a version that meets demands 1 and 2 meets demand 3.
pub third_follows : (v : Version) → Demand1 v → Demand2 v → Demand3 v
third_follows v d1 d2 = (all_demands v (determined v the_calls d1 d2 demand_1 demand_2)).2
