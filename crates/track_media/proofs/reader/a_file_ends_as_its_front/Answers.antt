use Rattle.track_media.proofs.EndOfFront.{ends_as_its_file}
use Rattle.track_media.proofs.reader.a_file_ends_as_its_front.Goals as goal

pub returns : goal.returns
returns c = ends_as_its_file
