use Rattle.serde_json.specs.View.{view}
use Rattle.key_system_access.specs.declared.configs.ConfigFault.TheVariants.{OutOfMemory}
use Rattle.key_system_access.proofs.ConfigsLemmas.{configs_of-is, gives_ok, gives_err}
use Rattle.key_system_access.proofs.configs.read_configs.Goals as goal

pub returns-clause-ok : goal.returns-clause-ok
returns-clause-ok c =
    let json = rw c.in-Some.is at c.in_ok-list.ensures in
    let read = rw c.deref.ensures.value at c.configs_in.ensures.value in
    rw (configs_of-is c.args.bytes.now (view c.in-Some.list) c.in-Some-as_array.values.now.items json c.in-Some-as_array.ensures) (gives_ok OutOfMemory _ _ read)

pub returns-clause-refused : goal.returns-clause-refused
returns-clause-refused c =
    let json = rw c.in-Some.is at c.in_ok-list.ensures in
    let read = rw c.deref.ensures.value at c.configs_in.ensures.value in
    rw (configs_of-is c.args.bytes.now (view c.in-Some.list) c.in-Some-as_array.values.now.items json c.in-Some-as_array.ensures) (gives_err OutOfMemory _ _ read)
