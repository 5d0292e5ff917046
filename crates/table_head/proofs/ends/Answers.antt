-- `head::ends` meets its contract. Assumes nothing.
use Rattle.std.proofs.Common.{rules}
use Rattle.table_head.specs.Mirror.{end_of, ended_in}
use Rattle.table_head.proofs.ends.Goals as goal

pub returns-in-None : goal.returns-in-None
unfolding ended_in end_of
returns-in-None c = search rules

pub returns-in-Some-Returned : goal.returns-in-Some-Returned
unfolding ended_in end_of
returns-in-Some-Returned c = search rules

pub returns-in-Some-Failed : goal.returns-in-Some-Failed
unfolding ended_in end_of
returns-in-Some-Failed c = search rules

pub returns-in-Some-Vanished : goal.returns-in-Some-Vanished
unfolding ended_in end_of
returns-in-Some-Vanished c = search rules

pub returns-in-Some-Error : goal.returns-in-Some-Error
unfolding ended_in end_of
returns-in-Some-Error c = search rules

pub returns-in-Some-On : goal.returns-in-Some-On
unfolding ended_in end_of
returns-in-Some-On c = search rules

pub returns-in-Some-Fork : goal.returns-in-Some-Fork
unfolding ended_in end_of
returns-in-Some-Fork c = search rules
