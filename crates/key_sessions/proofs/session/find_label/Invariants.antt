use Rattle.std.proofs.Common.{take}
use Rattle.key_sessions.specs.Loops.{Unlabelled}
use Rattle.key_sessions.proofs.session.find_label.Given as goal

abbrev pub invariant-loop-i : goal.invariant-loop-i
invariant-loop-i l = Unlabelled (take l.i l.sessions) l.label
