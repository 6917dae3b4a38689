-- A media file: a sample list, or fragmented MP4.
use Rattle.std.specs.Prelude.{◌≡◌, ℕ, List, take, drop, codes, Result, bytes_eq, if◌then◌else◌}
use Rattle.eme_types.specs.declared.media.Media.{Media}
use Rattle.eme_types.specs.FirstFault as first
use Rattle.track_media.specs.declared.kind.MediaFault.{MediaFault}
use Rattle.track_media.specs.declared.kind.MediaFault.TheVariants.{OutOfMemory}
use Rattle.track_media.specs.SampleList.{list_media}
use Rattle.track_media.specs.Mp4.{mp4_media}

-- memory ran out
abbrev pub WantsMemory : MediaFault → Type 0
WantsMemory e = e ≡ OutOfMemory

-- what a reader returned is what the definition says, unless memory ran out
abbrev pub GivesMedia : {A : Type 0} → Result A MediaFault → Result A MediaFault → Type 0
GivesMedia answer read = first.Gives WantsMemory (λ x. x) answer read

-- the first line of a sample list, with its line feed
abbrev pub header : List ℕ
header = codes "SMPL 1\n"

-- the media of a file, or the place and the kind of its first broken rule
unfoldable pub media_of : List ℕ → Result Media MediaFault
media_of bytes = if bytes_eq (take 7 bytes) header then list_media (drop 7 bytes) else mp4_media bytes
