use Rattle.std.proofs.Common.{◌≡◌, rules}
use Rattle.std.specs.Prelude.{not, ◌&&◌}
use Rattle.key_statuses.specs.Table.{key_in}
use Rattle.key_statuses.specs.Statuses.{held_status, is_usable}
use Rattle.key_sessions.proofs.EndedKeys.{open_if}
use Rattle.key_sessions.proofs.LostKeys.{ended_same}
use Rattle.key_sessions.proofs.losses.ended_with.Goals as goal

pub returns : goal.returns
returns c =
    let x = c.args in
    let s = x.session.now in
    let was : c.open_and-was.result ≡ (not s.closed && is_usable (held_status s.start s.expiration x.moment)) = search rules in
    let is : c.open_and-is.result ≡ (not s.closed && x.usable) = c.open_and-is.ensures in
    ended_same x.number _ _ _ _ _ (λ kid. open_if s.closed (is_usable (held_status s.start s.expiration x.moment)) (key_in s.keys.keys kid)) (λ kid. open_if s.closed x.usable (key_in x.table.now.keys kid)) (rw (was, is) at c.in_ok-list.ensures)
