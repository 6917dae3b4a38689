use Rattle.pattern_map.specs.Coverage.{CoverSample}
use Rattle.pattern_map.proofs.CoverLemmas.{cover_clear, cover_sample}
use Rattle.pattern_map.proofs.ExactLemmas.{joined_all}
use Rattle.pattern_map.proofs.walk.ranges.Goals as goal

pub returns-in-None : goal.returns-in-None
returns-in-None c =
    let cover : CoverSample c.args.sample.now c.walk_from.result = rw c.walk_from.ensures (cover_clear _ _ c.in-None.is) in
    record { joined = joined_all _ _ _ c.walk_from.result _ cover; cover = cover }

pub returns-in-Some : goal.returns-in-Some
returns-in-Some c =
    let cover : CoverSample c.args.sample.now c.walk_protected.result
    = rw (c.walk_protected.ensures, c.len.ensures) (cover_sample _ c.in-Some.protect _ c.in-Some.is c.requires) in
    record { joined = joined_all _ _ _ c.walk_protected.result _ cover; cover = cover }
