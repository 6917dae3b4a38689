use Rattle.std.proofs.Common.{◌∙◌}
use Rattle.key_statuses.proofs.Holders.{ids_exact}
use Rattle.key_statuses.proofs.index.KeyIndex.ids.Goals as goal

pub returns : goal.returns
returns c kid = rw (c.as_slice.ensures, c.keys.ensures.rest, ← c.self.view_is) (ids_exact (λ v. v.items) c.self.inside.sessions.entries kid c.self.invariant)
