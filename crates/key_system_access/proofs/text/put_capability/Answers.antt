use Rattle.key_system_access.proofs.TextLemmas.{capability_put}
use Rattle.key_system_access.proofs.text.put_capability.Goals as goal

pub returns : goal.returns
returns c =
    rw (← capability_put c.args.capability.now c.args.out.now _ _ _ _ c.in_ok-extend_from_slice.ensures.ok c.in_ok-put_text.ensures c.in_ok-extend_from_slice-2.ensures.ok c.in_ok-put_text-2.ensures)
    c.extend_from_slice-3.ensures.ok
