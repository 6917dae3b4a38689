use Rattle.std.proofs.Common.{◌≡◌, ◌++◌, take}
use Rattle.std.specs.List.{flat_map}
use Rattle.seal_media.specs.Layout.{trak_box}
use Rattle.seal_media.proofs.movie.append_traks.Given as goal

abbrev pub invariant-loop-id : goal.invariant-loop-id
invariant-loop-id l = l.out ≡ l.fn.out ++ flat_map (trak_box l.plan) (take l.id-index l.tracks)
