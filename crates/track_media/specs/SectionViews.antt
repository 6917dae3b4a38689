-- What contracts of private functions see of a section that was read.
use Rattle.std.specs.Prelude.{ℕ, List, Option, Some, None, if◌then◌else◌}
use Rattle.text_words.specs.Lines.{lines_of}
use Rattle.track_media.specs.Gathering.{Gathering}
use Rattle.track_media.specs.declared.list_reader.Section.{Section}

-- what was gathered, and the place and the lines behind the next `fragment` line, if there is one
abbrev pub section_seen : Section → Gathering × Option (ℕ × List (List ℕ))
section_seen s = (s.gathered, if s.more then Some (s.place, lines_of s.text.now) else None)
