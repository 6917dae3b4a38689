-- What is gathered of a sample list, one line after the other. Contracts of private functions speak of it.
use Rattle.std.specs.Prelude.{ℕ, ◌-◌, ◌==◌, Bool, true, false, if◌then◌else◌, List, [], ◌∷◌, ◌++◌, length, map, filter}
use Rattle.eme_types.specs.declared.sample.EncSample.{EncSample}
use Rattle.eme_types.specs.declared.media.InitData.{InitData}
use Rattle.eme_types.specs.declared.media.TrackPart.{TrackPart}
use Rattle.eme_types.specs.declared.media.Fragment.{Fragment}
use Rattle.eme_types.specs.declared.media.Media.{Media}
use Rattle.eme_types.specs.Fed.{has_samples}
use Rattle.eme_types.specs.declared.limits.TheConstants.{MAX_SAMPLES, MAX_SAMPLE_BYTES}
use Rattle.track_media.specs.declared.line.ListLine.{ListLine}
use Rattle.track_media.specs.declared.line.ListLine.TheVariants as a
use Rattle.track_media.specs.declared.line.Known.{Known}

-- what is known, the fragments that are whole, and the initialization data and the parts of the open one
pub record Gathering : Type 0 where
  pub known : Known
  pub fragments : List Fragment
  pub inits : List InitData
  pub parts : List TrackPart

abbrev pub nothing : Gathering
nothing = record { known = record { tracks = []; begun = false; samples = MAX_SAMPLES; bytes = MAX_SAMPLE_BYTES }; fragments = []; inits = []; parts = [] }

abbrev pub empty_part : ℕ → TrackPart
empty_part track = record { track = track; samples = [] }

abbrev pub is_of : ℕ → TrackPart → Bool
is_of track part = part.track == track

abbrev pub with_sample : EncSample → TrackPart → TrackPart
with_sample sample part = record part { samples = part.samples ++ sample ∷ [] }

-- a sample is put behind those of its track
abbrev pub pushed : ℕ → EncSample → List TrackPart → List TrackPart
pushed track sample [] = []
pushed track sample (part ∷ more) = if part.track == track then with_sample sample part ∷ more else part ∷ pushed track sample more

abbrev pub open_fragment : Gathering → Fragment
open_fragment g = record { inits = g.inits; parts = filter has_samples g.parts }

-- the fragments, the open one too
abbrev pub fragments_at : Bool → Gathering → List Fragment
fragments_at false g = g.fragments
fragments_at true g = g.fragments ++ open_fragment g ∷ []

abbrev pub all_fragments : Gathering → List Fragment
all_fragments g = fragments_at g.known.begun g

abbrev pub less_room : Known → EncSample → Known
less_room known sample = record known { samples = known.samples - 1; bytes = known.bytes - length sample.bytes }

abbrev pub added : Gathering → ListLine → Gathering
added g (a.Track id) = record g { known = record g.known { tracks = g.known.tracks ++ id ∷ [] } }
added g a.Fragment = record { known = record g.known { begun = true }; fragments = all_fragments g; inits = []; parts = map empty_part g.known.tracks }
added g (a.Init init) = record g { inits = g.inits ++ init ∷ [] }
added g (a.Sample id sample) = record g { known = less_room g.known sample; parts = pushed id sample g.parts }

abbrev pub finished : Gathering → Media
finished g = record { tracks = g.known.tracks; fragments = all_fragments g }
