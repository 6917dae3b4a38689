-- What a feed adds to the tracks, and the room that it needs.
use Rattle.std.specs.Prelude.{ℕ, ◌≡◌, ◌≤◌, ◌<◌, ◌+◌, ◌==◌, if◌then◌else◌, List, length, slice_index_or}
use Rattle.std.specs.List.{sum_by}
use Rattle.eme_types.specs.declared.media.TrackPart.{TrackPart}
use Rattle.key_claims.specs.declared.feed.Batch.{Batch}
use Rattle.key_claims.specs.TrackValue.{TrackValue, left_of}

-- the number of samples of a batch
abbrev pub batch_len : Batch → ℕ
batch_len b = length b.samples.items

-- the part that a batch was copied from
abbrev pub batch_part : Batch → TrackPart
batch_part b = record { track = b.track; samples = b.samples.items }

-- how many samples of a batch come to the track
abbrev pub coming : ℕ → Batch → ℕ
coming id b = if b.track == id then batch_len b else 0

-- how many samples the batches bring to the track
abbrev pub needed_by : ℕ → List Batch → ℕ
needed_by id batches = sum_by (coming id) batches

-- the track has room for the samples that come to it, and for what will be out of them
pub record IsReadyFor (batches : List Batch) (v : TrackValue) : Type 0 where
  pub fed : needed_by v.track.id batches ≤ v.spare
  pub outputs : left_of v.track + needed_by v.track.id batches ≤ v.room

-- each track has the room for what the batches bring it
abbrev pub AreReadyFor : List Batch → List TrackValue → Type 0
AreReadyFor batches vs = (k : ℕ) (d : TrackValue) → k < length vs → IsReadyFor batches (slice_index_or vs k d)

-- at most n samples came to the track, in the room that it had for them
pub record Took (old new : TrackValue) (n : ℕ) : Type 0 where
  pub id : new.track.id ≡ old.track.id
  pub spare : old.spare ≤ new.spare + n
  pub left : left_of new.track ≤ left_of old.track + n
  pub room : new.room ≡ old.room

-- the samples of the batch came to its track only
pub record TookBatch (batch : Batch) (old new : List TrackValue) : Type 0 where
  pub length_ : length new ≡ length old
  pub each : (k : ℕ) (d : TrackValue) → k < length old → Took (slice_index_or old k d) (slice_index_or new k d) (coming (slice_index_or old k d).track.id batch)
