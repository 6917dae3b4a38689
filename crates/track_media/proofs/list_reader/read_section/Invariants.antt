use Rattle.std.proofs.Common.{◌≡◌, length}
use Rattle.text_words.specs.Lines.{lines_of}
use Rattle.track_media.specs.Rests.{section_read, IsPlaced}
use Rattle.track_media.proofs.list_reader.read_section.Given as goal

abbrev pub invariant-lines : goal.invariant-lines
invariant-lines l = record {
  reads : section_read l.fn.start l.fn.start_place (lines_of l.fn.text) ≡ section_read l.gathered l.place (lines_of l.rest);
  placed : IsPlaced l.place l.rest;
}

abbrev pub decreases-lines : goal.decreases-lines
decreases-lines l = length l.rest
