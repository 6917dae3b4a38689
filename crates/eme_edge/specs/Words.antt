-- The words of a command line.
use Rattle.std.specs.Prelude.{ℕ}
use Rattle.eme_edge.specs.declared.words.UsageKind.{UsageKind}
use Rattle.eme_edge.specs.declared.words.UsageFault.{UsageFault}

-- a word at this place is bad
abbrev pub bad_word : ℕ → UsageKind → UsageFault
bad_word place kind = record { place = place; kind = kind }
