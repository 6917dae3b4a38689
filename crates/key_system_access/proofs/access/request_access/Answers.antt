use Rattle.std.proofs.Common.{rules, sym, ◌∙◌}
use Rattle.key_system_access.proofs.AccessLemmas.{access-is, granted_utf8}
use Rattle.key_system_access.proofs.access.request_access.Goals as goal

pub returns-in-Some-clause-ok : goal.returns-in-Some-clause-ok
returns-in-Some-clause-ok c = access-is _ _ _ (search rules) (search rules) (search rules) (rw c.as_slice-candidates.ensures at (sym c.in-Some.is ∙ c.in_ok-config.ensures.ok))

pub returns-in-Some-clause-utf8 : goal.returns-in-Some-clause-utf8
returns-in-Some-clause-utf8 c = granted_utf8 _ _ (rw c.as_slice-candidates.ensures at (sym c.in-Some.is ∙ c.in_ok-config.ensures.ok))
