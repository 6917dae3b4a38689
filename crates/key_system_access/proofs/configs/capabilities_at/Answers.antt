use Rattle.serde_json.specs.View.{view}
use Rattle.key_system_access.specs.Configs.{capability_of}
use Rattle.key_system_access.proofs.ConfigsLemmas.{list_in-is}
use Rattle.key_system_access.proofs.configs.capabilities_at.Goals as goal

pub returns-clause-value : goal.returns-clause-value
returns-clause-value c =
    rw (← c.in-Some.ensures, list_in-is capability_of (view c.in-Some.list.now) c.in-Some-as_array.values.now.items c.in-Some-as_array.ensures)
    (rw c.deref.ensures.value at c.capabilities_in.ensures.value)
