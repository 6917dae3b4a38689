use Rattle.track_media.proofs.Held.{media_hold}
use Rattle.track_media.proofs.file.parse_media.Goals as goal

pub returns-clause-held : goal.returns-clause-held
returns-clause-held c = media_hold c.read_to_the_end.result c.args.bytes.now c.read_to_the_end.ensures.value
