use Rattle.std.proofs.Common.{◌≡◌, ◌≤◌, ◌+◌, length}
use Rattle.text_words.specs.Lines.{lines_of}
use Rattle.eme_types.specs.declared.limits.TheConstants.{MAX_SCRIPT_LINES}
use Rattle.script_lang.specs.Grammar.{script_of}
use Rattle.script_lang.specs.Read.{IsTold}
use Rattle.script_lang.proofs.Walk.{walk}
use Rattle.script_lang.proofs.read.read_script.Given as goal

abbrev pub invariant-loop-line : goal.invariant-loop-line
invariant-loop-line l = (script_of l.bytes ≡ walk (l.number + 1) l.told.lines (lines_of l.rest)) × IsTold l.told × (l.number ≤ MAX_SCRIPT_LINES)

abbrev pub decreases-loop-line : goal.decreases-loop-line
decreases-loop-line l = length l.rest
