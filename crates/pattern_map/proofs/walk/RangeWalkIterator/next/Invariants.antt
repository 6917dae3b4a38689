use Rattle.std.proofs.Common.{◌≡◌, ◌+◌, ◌^◌, ◌<◌, ◌++◌, IsTrue, length}
use Rattle.std.specs.List.{sum_by}
use Rattle.eme_types.specs.WellFormed.{sub_length, pattern_fits}
use Rattle.pattern_map.specs.Walk.{ranges_from}
use Rattle.pattern_map.proofs.walk.RangeWalkIterator.next.Given as goal

abbrev pub invariant-loop-range : goal.invariant-loop-range
invariant-loop-range l =
    let now = l.self-inside in
    let was = l.initial.self-inside in
    (now.at + sum_by sub_length now.subs.now < 2 ^ 64)
    × IsTrue (pattern_fits now.pattern.scheme now.pattern.crypt now.pattern.skip)
    × (now.part ++ ranges_from now.pattern.scheme now.pattern.crypt now.pattern.skip now.at now.subs.now
    ≡ was.part ++ ranges_from was.pattern.scheme was.pattern.crypt was.pattern.skip was.at was.subs.now)

abbrev pub decreases-loop-range : goal.decreases-loop-range
decreases-loop-range l = length l.self-inside.subs.now
