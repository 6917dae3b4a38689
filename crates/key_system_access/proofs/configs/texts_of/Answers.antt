use Rattle.serde_json.specs.View.{view}
use Rattle.key_system_access.specs.Configs.{text_of}
use Rattle.key_system_access.proofs.ConfigsLemmas.{list_in-is}
use Rattle.key_system_access.proofs.configs.texts_of.Goals as goal

pub returns-clause-value : goal.returns-clause-value
returns-clause-value c =
    rw (list_in-is text_of (view c.args.list.now) c.in-Some.values.now.items c.in-Some.ensures) (rw c.deref.ensures.value at c.texts_in.ensures.value)
