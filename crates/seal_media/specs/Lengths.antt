-- How long the boxes of sealed media are, in bytes. It hangs on the scheme, and on the number and the sizes of the samples.
use Rattle.std.specs.Prelude.{ℕ, ◌+◌, ◌*◌, List, length}
use Rattle.std.specs.List.{sum_by}
use Rattle.eme_types.specs.declared.sample.Scheme.{Scheme}
use Rattle.eme_types.specs.declared.sample.Scheme.TheVariants.{Cenc, Cbcs}
use Rattle.eme_types.specs.declared.media.TrackPart.{TrackPart}
use Rattle.eme_types.specs.declared.media.Fragment.{Fragment}
use Rattle.eme_types.specs.declared.media.Media.{Media}
use Rattle.eme_types.specs.Fed.{part_samples, fragment_bytes}

-- the trak of a track, and its trex of 32
abbrev pub track_length : Scheme → ℕ
track_length Cenc = 258 + 32
track_length Cbcs = 275 + 32

-- what the movie fragment has of a sample: its size of 4, the count of its pairs of 2 and the pair of 6, and in `cenc` its IV of 8
abbrev pub entry_length : Scheme → ℕ
entry_length Cenc = 20
entry_length Cbcs = 12

-- the headers of traf and of its three boxes, and their fields: 8, 16, 20 and 16
abbrev pub traf_length : Scheme → TrackPart → ℕ
traf_length scheme p = 60 + part_samples p * entry_length scheme

abbrev pub moof_length : Scheme → List TrackPart → ℕ
moof_length scheme parts = 8 + sum_by (traf_length scheme) parts

-- a moof and an mdat
abbrev pub fragment_length : Scheme → Fragment → ℕ
fragment_length scheme f = moof_length scheme f.parts + (8 + fragment_bytes f)

-- the headers of moov and mvex, and the pssh of 52
abbrev pub moov_length : Scheme → List ℕ → ℕ
moov_length scheme tracks = 68 + length tracks * track_length scheme

-- the whole file
abbrev pub sealed_length : Scheme → Media → ℕ
sealed_length scheme m = moov_length scheme m.tracks + sum_by (fragment_length scheme) m.fragments
