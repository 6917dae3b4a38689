use Rattle.std.proofs.Common.{◌≡◌, length}
use Rattle.text_words.specs.Lines.{lines_of}
use Rattle.license_desk.specs.Table.{with_lines, desk_of}
use Rattle.license_desk.proofs.read.read_desk.Given as goal

abbrev pub invariant-loop-line : goal.invariant-loop-line
invariant-loop-line l = desk_of l.fn.bytes ≡ with_lines l.desk l.number (lines_of l.rest)

abbrev pub decreases-loop-line : goal.decreases-loop-line
decreases-loop-line l = length l.rest
