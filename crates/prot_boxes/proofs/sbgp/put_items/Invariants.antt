use Rattle.std.proofs.Common.{◌≡◌, ◌++◌, take}
use Rattle.std.specs.List.{flat_map}
use Rattle.prot_boxes.specs.Sbgp.{item_body}
use Rattle.prot_boxes.proofs.sbgp.put_items.Given as goal

abbrev pub invariant-loop-item : goal.invariant-loop-item
invariant-loop-item l = l.body ≡ l.fn.body ++ flat_map item_body (take l.item-index l.items)
