use Rattle.std.proofs.Common.{◌≡◌, take}
use Rattle.std.specs.List.{flat_map}
use Rattle.seal_media.specs.Layout.{trex_box}
use Rattle.seal_media.proofs.movie.mvex_body.Given as goal

abbrev pub invariant-loop-id : goal.invariant-loop-id
invariant-loop-id l = l.body ≡ flat_map trex_box (take l.id-index l.tracks)
