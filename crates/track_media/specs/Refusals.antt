-- The refusals of boxes and of the samples in them, as refusals of the file. A rule has one name in all of them.
use Rattle.std.specs.Prelude.{ℕ, Option, Some, None, Result, Ok, Err}
use Rattle.iso_boxes.specs.declared.walk.BoxFault.{BoxFault}
use Rattle.iso_boxes.specs.declared.walk.BoxFault.TheVariants as header
use Rattle.frag_boxes.specs.declared.fault.FragKind.{FragKind}
use Rattle.frag_boxes.specs.declared.fault.FragKind.TheVariants as frag
use Rattle.frag_boxes.specs.declared.fault.FragFault.{FragFault}
use Rattle.sample_aux.specs.declared.fault.AuxKind.{AuxKind}
use Rattle.sample_aux.specs.declared.fault.AuxKind.TheVariants as aux
use Rattle.sample_aux.specs.declared.fault.AuxFault.{AuxFault}
use Rattle.track_media.specs.declared.kind.MediaKind.{MediaKind}
use Rattle.track_media.specs.declared.kind.MediaKind.TheVariants as media
use Rattle.track_media.specs.declared.kind.MediaFault.{MediaFault}
use Rattle.track_media.specs.declared.kind.MediaFault.TheVariants.{Refused, OutOfMemory}

-- no rule is broken where memory ran out
abbrev pub refused : ℕ → Option MediaKind → MediaFault
refused place None = OutOfMemory
refused place (Some kind) = Refused place kind

-- the header of a box
abbrev pub header_fault : BoxFault → MediaFault
header_fault (header.Short place) = Refused place media.Short
header_fault (header.SizeTooSmall place) = Refused place media.SizeTooSmall
header_fault (header.PastEnd place) = Refused place media.PastEnd

-- the boxes of a movie and of its fragments
abbrev pub frag_kind : FragKind → Option MediaKind
frag_kind frag.Short = Some media.Short
frag_kind frag.SizeTooSmall = Some media.SizeTooSmall
frag_kind frag.PastEnd = Some media.PastEnd
frag_kind frag.NoTrackId = Some media.NoTrackId
frag_kind frag.SecondTrack = Some media.SecondTrack
frag_kind frag.TooManyTracks = Some media.TooManyTracks
frag_kind frag.EntryType = Some media.EntryType
frag_kind frag.AudioVersion = Some media.AudioVersion
frag_kind frag.NoSinf = Some media.NoSinf
frag_kind frag.Progressive = Some media.Progressive
frag_kind frag.NoTfhd = Some media.NoTfhd
frag_kind frag.OutOfMemory = None

-- a broken rule of a movie or a movie fragment
abbrev pub frag_fault : FragFault → MediaFault
frag_fault f = refused f.place (frag_kind f.kind)

-- the protection of a movie, and the samples of its fragments
abbrev pub aux_kind : AuxKind → Option MediaKind
aux_kind aux.UnknownTrack = Some media.UnknownTrack
aux_kind aux.NoTrex = Some media.NoTrex
aux_kind aux.Description = Some media.Description
aux_kind aux.TooManySamples = Some media.TooManySamples
aux_kind aux.TooManyBytes = Some media.TooManyBytes
aux_kind aux.DataPastEnd = Some media.DataPastEnd
aux_kind aux.GroupIndex = Some media.GroupIndex
aux_kind aux.Scheme = Some media.Scheme
aux_kind aux.CountDiffers = Some media.CountDiffers
aux_kind aux.AuxSize = Some media.AuxSize
aux_kind aux.OffsetPastEnd = Some media.OffsetPastEnd
aux_kind aux.NoAux = Some media.NoAux
aux_kind aux.SubsSum = Some media.SubsSum
aux_kind aux.IvSize = Some media.IvSize
aux_kind aux.Pattern = Some media.Pattern
aux_kind aux.Short = Some media.Short
aux_kind aux.SizeTooSmall = Some media.SizeTooSmall
aux_kind aux.PastEnd = Some media.PastEnd
aux_kind aux.Version = Some media.Version
aux_kind aux.IsProtected = Some media.IsProtected
aux_kind aux.NoTenc = Some media.NoTenc
aux_kind aux.OutOfMemory = None

-- a broken rule of samples or of their protection
abbrev pub aux_fault : AuxFault → MediaFault
aux_fault f = refused f.place (aux_kind f.kind)

-- what a definition of those crates says, with its refusal as one of the file
abbrev pub told : {A E : Type 0} → (E → MediaFault) → Result A E → Result A MediaFault
told as_media (Ok x) = Ok x
told as_media (Err f) = Err (as_media f)
