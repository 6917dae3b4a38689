-- What is out on the tracks, as bytes.
use Rattle.std.specs.Prelude.{ℕ, ◌≡◌, ◌<◌, ◌++◌, List, [], ◌∷◌, length, slice_index_or, Some}
use Rattle.eme_types.specs.declared.sample.EncSample.{EncSample}
use Rattle.sample_crypt.specs.Decryption.{decryption}
use Rattle.eme_types.specs.declared.entry.Entry.{Entry}
use Rattle.cdm_world.specs.In.{In}
use Rattle.key_claims.specs.TracksState.{ClaimState, FedTrack}
use Rattle.cdm_state.specs.History.{world}
use Rattle.cdm_state.specs.Output.{fed_sample, out}

pub record SameShown (t u : FedTrack) : Type 0 where
  pub id : u.id ≡ t.id
  pub shows : u.outputs ≡ t.outputs

-- the tracks show what they did
pub record SameOut (ts us : List FedTrack) : Type 0 where
  pub length_ : length us ≡ length ts
  pub each : (k : ℕ) (d : FedTrack) → k < length ts → SameShown (slice_index_or ts k d) (slice_index_or us k d)

-- the track at a place shows these bytes more, the others what they did
pub record OneOut (ts us : List FedTrack) (at : ℕ) (bytes : List ℕ) : Type 0 where
  pub length_ : length us ≡ length ts
  pub others : (k : ℕ) (d : FedTrack) → k < length ts → (k ≡ at → ⊥) → SameShown (slice_index_or ts k d) (slice_index_or us k d)
  pub id : (d : FedTrack) → (slice_index_or us at d).id ≡ (slice_index_or ts at d).id
  pub more : (d : FedTrack) → (slice_index_or us at d).outputs ≡ (slice_index_or ts at d).outputs ++ bytes ∷ []

-- each track shows what the history put out on it, and the clear bytes of a claim are its sample's, decrypted
pub record OutKept (ids : List ℕ) (h : List Entry) (ts : List FedTrack) (claims : List ClaimState) : Type 0 where
  pub shows : (k : ℕ) (d : FedTrack) → k < length ts → (slice_index_or ts k d).outputs ≡ out ids h (slice_index_or ts k d).id
  pub opened : (s : ClaimState) (b : List ℕ) (x : EncSample) → In claims s → s.clear ≡ Some b → fed_sample (world ids h) s.track s.index ≡ Some x → b ≡ decryption x s.key
