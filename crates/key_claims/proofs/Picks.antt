-- Picks as they are answered.
use Rattle.std.proofs.Common.{◌≡◌, ℕ, Option, Some, None, refl, ap}
use Rattle.eme_types.specs.declared.kid.KeyBytes.{KeyBytes}
use Rattle.key_statuses.specs.declared.pick.Pick.{Pick}
use Rattle.key_statuses.specs.Picked.{picked}

pub picked_none : (o : Option (ℕ × KeyBytes)) → picked o ≡ None → o ≡ None
picked_none None e = refl
picked_none (Some p) e = absurd cc

some_pick : (a b : Pick) → Some a ≡ Some b → a ≡ b
some_pick a b e = cc

pub picked_some : (o : Option (ℕ × KeyBytes)) (p : Pick) → picked o ≡ Some p → o ≡ Some (p.session, p.key)
picked_some None p e = absurd cc
picked_some (Some q) p e = ap (λ (r : Pick). Some (r.session, r.key)) (some_pick (record { session = q.0; key = q.1 }) p e)
