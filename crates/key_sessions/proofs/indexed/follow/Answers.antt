use Rattle.std.proofs.Common.{take}
use Rattle.key_statuses.specs.Index.{with_number, without_number}
use Rattle.key_sessions.specs.Indexed.{ChangesWhere, is_held, is_unheld}
use Rattle.key_sessions.proofs.Following.{followed, went_back}
use Rattle.key_sessions.proofs.indexed.follow.Goals as goal

pub returns-in-Err-clause-err : goal.returns-in-Err-clause-err
returns-in-Err-clause-err c =
    let x = c.args in
    let some = c.in-Err.ensures.err in
    let add : ChangesWhere is_held (with_number x.number) (take some.0 x.new.now.keys) x.index.now c.add_held.new.index = rw c.as_slice.ensures.value at some.1 in
    let drop : ChangesWhere (is_unheld x.old.now.keys) (without_number x.number) x.new.now.keys c.add_held.new.index c.drop_unheld.new.index = rw c.as_slice-in-Err.ensures.value at c.drop_unheld.ensures in
    went_back x.number some.0 x.old.now.keys x.new.now.keys x.index.now c.add_held.new.index c.drop_unheld.new.index c.requires add drop

pub returns-clause-ok : goal.returns-clause-ok
returns-clause-ok c =
    let x = c.args in
    let add : ChangesWhere is_held (with_number x.number) x.new.now.keys x.index.now c.add_held.new.index = rw c.as_slice.ensures.value at c.in_default.ensures.ok in
    let drop : ChangesWhere (is_unheld x.new.now.keys) (without_number x.number) x.old.now.keys c.add_held.new.index c.drop_unheld-2.new.index = rw c.as_slice-2.ensures.value at c.drop_unheld-2.ensures in
    followed x.number x.old.now.keys x.new.now.keys x.index.now c.add_held.new.index c.drop_unheld-2.new.index c.as_slice-2.ensures.once c.as_slice.ensures.once c.requires add drop
