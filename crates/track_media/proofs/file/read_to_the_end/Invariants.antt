use Rattle.std.proofs.Common.{◌≡◌, length}
use Rattle.eme_types.specs.Fed.{IsFed}
use Rattle.track_media.specs.File.{media_of}
use Rattle.track_media.proofs.Ahead.{with_done, whole_of}
use Rattle.track_media.proofs.file.read_to_the_end.Given as goal

abbrev pub invariant-loop-reader : goal.invariant-loop-reader
invariant-loop-reader l = record {
  whole : media_of l.fn.bytes ≡ whole_of l.fragments l.reader;
  fed : IsFed (with_done l.fragments l.reader);
}

abbrev pub decreases-loop-reader : goal.decreases-loop-reader
decreases-loop-reader l = length l.reader.coming.fragments
