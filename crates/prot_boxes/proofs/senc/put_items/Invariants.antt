use Rattle.std.proofs.Common.{◌≡◌, ◌++◌, take}
use Rattle.std.specs.List.{flat_map}
use Rattle.prot_boxes.specs.Senc.{item_body}
use Rattle.prot_boxes.proofs.senc.put_items.Given as goal

abbrev pub invariant-loop-item : goal.invariant-loop-item
invariant-loop-item l = l.body ≡ l.fn.body ++ flat_map (item_body l.flag2) (take l.item-index l.items)
