use Rattle.std.proofs.Common.{rules}
use Rattle.serde_json.specs.View.{view}
use Rattle.init_data.proofs.KidsLemmas.{keyids_of-is}
use Rattle.init_data.proofs.kids.keyids_of.Goals as goal

pub returns : goal.returns
returns c =
    let json = rw c.in-Some.is at c.in_ok-object.ensures in
    rw (keyids_of-is c.args.bytes.now (view c.in-Some.object) _ c.in-Some-as_array.values.now.items (search rules) json c.in-Some-get.ensures c.in-Some-as_array.ensures)
    (rw c.deref.ensures.value at c.kids_in.ensures)
