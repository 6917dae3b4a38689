use Rattle.std.proofs.Common.{None, refl, ap, sym}
use Rattle.std.specs.Prelude.{Option, if◌then◌else◌}
use Rattle.eme_types.specs.declared.kid.KeyBytes.{KeyBytes}
use Rattle.key_sessions.proofs.EndedKeys.{none_released}
use Rattle.key_sessions.proofs.LostKeys.{ended_same}
use Rattle.key_sessions.proofs.losses.ended_by.Goals as goal

pub returns-in_ok-list-in-Released : goal.returns-in_ok-list-in-Released
returns-in_ok-list-in-Released c =
    let s = c.args.session.now in
    rw c.in-Released.is (ended_same c.args.number _ _ _ _ _ (λ kid. refl) (λ kid. ap (λ (o : Option KeyBytes). if s.closed then None else o) (sym (none_released s.keys.keys kid))) (rw c.new-none.ensures at c.in_ok-list-in-Released.ensures))
