use Rattle.track_media.proofs.ListFront.{list_front_fed}
use Rattle.track_media.proofs.Mp4Front.{mp4_front_fed}
use Rattle.track_media.proofs.reader.MediaReader.open.Goals as goal

pub invariant_of-result : goal.invariant_of-result
invariant_of-result c = list_front_fed c.in-Some.text.now c.in_ok-open-in-Some.field-0 c.in_ok-open-in-Some.ensures

pub invariant_of-result-in-None : goal.invariant_of-result-in-None
invariant_of-result-in-None c = mp4_front_fed c.args.bytes.now c.in_ok-open-in-None.field-0 c.in_ok-open-in-None.ensures

pub returns-in_ok-open-in-Some-clause-fed : goal.returns-in_ok-open-in-Some-clause-fed
returns-in_ok-open-in-Some-clause-fed c = list_front_fed c.in-Some.text.now c.in_ok-open-in-Some.field-0 c.in_ok-open-in-Some.ensures

pub returns-in_ok-open-in-None-clause-fed : goal.returns-in_ok-open-in-None-clause-fed
returns-in_ok-open-in-None-clause-fed c = mp4_front_fed c.args.bytes.now c.in_ok-open-in-None.field-0 c.in_ok-open-in-None.ensures
