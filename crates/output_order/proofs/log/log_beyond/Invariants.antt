use Rattle.output_order.proofs.Logs.{IsLogged}
use Rattle.output_order.proofs.log.log_beyond.Given as goal

-- what the log of the entries so far has beyond that of the first ones
abbrev pub invariant-loop-i : goal.invariant-loop-i
invariant-loop-i l = IsLogged l.cdm.tracks l.history l.first l.i l.fed l.text
