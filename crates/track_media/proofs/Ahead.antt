-- A file is read to its end: the fragments that were given and those that come are all of it.
use Rattle.std.proofs.Common.{◌≡◌, ◌⊎◌, inl, inr, ℕ, List, [], ◌++◌, Result, Ok, Err, ap, ◌∙◌}
use Rattle.eme_types.specs.declared.media.Fragment.{Fragment}
use Rattle.eme_types.specs.declared.media.Media.{Media}
use Rattle.track_media.specs.declared.kind.MediaFault.{MediaFault}
use Rattle.track_media.specs.File.{media_of}
use Rattle.track_media.specs.Front.{Front, front, ended, to_the_end}
use Rattle.track_media.proofs.EndOfFront.{ends_as_its_file}

-- these fragments, and then what comes
abbrev pub with_done : List Fragment → Front → Media
with_done done f = record { tracks = f.tracks; fragments = done ++ f.coming.fragments }

-- what they come to
abbrev pub whole_of : List Fragment → Front → Result Media MediaFault
whole_of done f = ended f.coming.broken (with_done done f)

pub whole_start : (bytes : List ℕ) (f : Front) → front bytes ≡ Ok f → media_of bytes ≡ whole_of [] f
whole_start bytes f e = ends_as_its_file bytes ∙ ap to_the_end e

pub whole_refused : (memory : Type 0) (bytes : List ℕ) (fault : MediaFault) → memory ⊎ (front bytes ≡ Err fault) → memory ⊎ (media_of bytes ≡ Err fault)
whole_refused memory bytes fault (inl w) = inl w
whole_refused memory bytes fault (inr e) = inr (ends_as_its_file bytes ∙ ap to_the_end e)
