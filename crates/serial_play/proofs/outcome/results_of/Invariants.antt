use Rattle.std.proofs.Common.{◌≡◌, map, take, Some}
use Rattle.serial_play.proofs.outcome.results_of.Given as goal

abbrev pub invariant-loop-promise : goal.invariant-loop-promise
invariant-loop-promise l = map Some l.results ≡ take l.promise-index l.promises
