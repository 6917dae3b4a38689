use Rattle.std.proofs.Common.{◌≡◌, true, drop}
use Rattle.script_lang.proofs.Pacing.{paced_from}
use Rattle.script_lang.proofs.paced.is_paced.Given as goal

-- what the pass says of the script it says of the lines that are left
abbrev pub invariant-loop-line : goal.invariant-loop-line
invariant-loop-line l = paced_from true l.line-items ≡ paced_from l.settled (drop l.line-index l.line-items)
