-- What contracts see of words that were taken from a line.
use Rattle.track_media.specs.declared.words.Protected.{Protected}
use Rattle.track_media.specs.ListLine.{Protection}

abbrev pub protection_of : Protected → Protection
protection_of w = record { kid = w.kid.now; iv = w.iv.now; subs = w.subs.now; «data» = w.bytes.now }
