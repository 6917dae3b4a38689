-- What the model of a reader sees of what is left of a file.
use Rattle.track_media.specs.Front.{Front}
use Rattle.track_media.specs.declared.reader.Rest.{Rest}
use Rattle.track_media.specs.declared.reader.Rest.TheVariants.{List, Mp4}

-- in either form
abbrev pub rest_seen : Rest → Front
rest_seen (List l) = l
rest_seen (Mp4 m) = m
