use Rattle.std.proofs.Common.{◌≡◌, ◌∙◌, sym}
use Rattle.std.specs.List.{list_any}
use Rattle.key_sessions.specs.SessionOf.{session_of}
use Rattle.key_sessions.specs.Keys.{holds_later}
use Rattle.key_sessions.proofs.SessionLists.{list_any-map}
use Rattle.key_sessions.proofs.sessions.Sessions.later.Goals as goal

pub returns : goal.returns
returns c =
    let x = c.self.inside in
    let any : c.any_later.result ≡ list_any (λ s. holds_later x.moment c.args.kid.now (session_of s)) x.items.items = rw c.deref.ensures.value at c.any_later.ensures in
    rw (← c.self.view_is) (any ∙ sym (list_any-map (holds_later x.moment c.args.kid.now) session_of x.items.items))
