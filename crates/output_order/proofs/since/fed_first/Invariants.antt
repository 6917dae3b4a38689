use Rattle.std.proofs.Common.{◌≡◌, ◌+◌, take, drop}
use Rattle.std.specs.List.{sum_by}
use Rattle.cdm_state.specs.Feeds.{fragments_fed}
use Rattle.output_order.proofs.since.fed_first.Given as goal

-- the fragments of the first entries, and those of the entries that are still to be passed
abbrev pub invariant-loop-i : goal.invariant-loop-i
invariant-loop-i l = l.fed ≡ sum_by fragments_fed (take l.first l.history) + sum_by fragments_fed (drop l.i l.history)
