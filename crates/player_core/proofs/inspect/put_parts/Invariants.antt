use Rattle.std.proofs.Common.{◌≡◌, ◌++◌, take}
use Rattle.std.specs.List.{flat_map}
use Rattle.player_core.specs.Inspect.{part_line}
use Rattle.player_core.proofs.inspect.put_parts.Given as goal

-- the lines of the parts so far
abbrev pub invariant-loop-part : goal.invariant-loop-part
invariant-loop-part l = l.out ≡ l.fn.out ++ flat_map (part_line l.number) (take l.part-index l.parts)
