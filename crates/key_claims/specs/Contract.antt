-- What the calls of the tracks ask and answer.
use Rattle.std.specs.Prelude.{ℕ, ◌≡◌, ◌<◌, true, false, List, [], ◌∷◌, ◌++◌, slice_get, slice_index_or, Some, None}
use Rattle.std.specs.List.{filter}
use Rattle.eme_types.specs.declared.sample.EncSample.{EncSample}
use Rattle.eme_types.specs.declared.sample.Protect.{Protect}
use Rattle.cdm_world.specs.Tracks.{Picks, head}
use Rattle.key_claims.specs.declared.claim.Claim.{Claim}
use Rattle.key_claims.specs.declared.claim.Delivered.{Delivered}
use Rattle.key_claims.specs.declared.claim.Delivered.TheVariants.{Taken, Stale}
use Rattle.key_claims.specs.declared.claim.Published.{Published}
use Rattle.key_claims.specs.declared.claim.Ready.{Ready}
use Rattle.key_claims.specs.declared.choice.Work.{Work}
use Rattle.key_claims.specs.TracksState.{ClaimState, FedTrack, TracksState, track_of}
use Rattle.key_claims.specs.Claims.{is_other, has_place, give_clear, clear_at}
use Rattle.key_claims.specs.Changes.{changed_at, more_out, with_waiting}
use Rattle.key_claims.specs.Choice.{IsWork, IsReady, IsNext, IsFirst, has_clear_head, is_unkeyed, rests, IsUnrested}

-- the place is above those of all claims
abbrev pub AreBelow : ℕ → List ClaimState → Type 0
AreBelow place [] = Unit {0}
AreBelow place (c ∷ more) = (c.place < place) × AreBelow place more

-- a claim as it is kept, without clear bytes
abbrev pub claimed : Claim → List ℕ → ClaimState
claimed c kid = record { place = c.place; worker = c.worker; track = c.track; index = c.index; session = c.session; kid = kid; key = c.key; clear = None }

-- what the claim of a sample of this track answers and leaves
pub record HoldsWork (old : List ClaimState) (t : FedTrack) (w : Work) (worker place : ℕ) (c : Claim) (new : List ClaimState) : Type 0 where
  pub place_ : c.place ≡ place
  pub worker_ : c.worker ≡ worker
  pub track : c.track ≡ t.id
  pub index : c.index ≡ w.index
  pub session : c.session ≡ w.session
  pub key : c.key ≡ w.key
  pub sample : slice_get t.fed w.index ≡ Some c.sample
  pub protect : Protect
  pub protected : c.sample.protect ≡ Some protect
  pub added : new ≡ old ++ claimed c protect.kid ∷ []

-- what a claim answers and leaves: of the first track that has a sample to claim it takes the one of least index, under the pick of its key id
pub record Claims (picks : Picks) (old : TracksState) (worker place : ℕ) (c : Claim) (new : TracksState) : Type 0 where
  pub work : Work
  pub first : IsWork picks old.claims old.tracks work
  pub holds : (d : FedTrack) → HoldsWork old.claims (slice_index_or old.tracks work.at d) work worker place c new.claims
  pub tracks : new.tracks ≡ old.tracks

-- what a delivery answers and leaves: it is taken just where a claim that is not ended has the place
abbrev pub Delivers : TracksState → ℕ → List ℕ → Delivered → TracksState → Type 0
Delivers old place clear Taken new = (has_place place old.claims ≡ true) × (new ≡ record old { claims = give_clear place clear old.claims })
Delivers old place clear (Stale back) new = (has_place place old.claims ≡ false) × (new ≡ old) × (back ≡ clear)

-- the sample that can be published, and the place of its claim
pub record IsReadyNow (s : TracksState) (r : Ready) : Type 0 where
  pub at : ℕ
  pub first : IsReady s.claims s.tracks at r.place
  pub next : IsNext s.tracks at r.track r.index

-- what a publication answers and leaves: the clear bytes of the first claim that is ready are out, and it is ended
pub record Publishes (old : TracksState) (p : Published) (new : TracksState) : Type 0 where
  pub at : ℕ
  pub place : ℕ
  pub first : IsReady old.claims old.tracks at place
  pub next : IsNext old.tracks at p.track p.index
  pub clear : List ℕ
  pub delivered : clear_at place old.claims ≡ Some clear
  pub tracks : new.tracks ≡ changed_at old.tracks at (more_out clear)
  pub claims : new.claims ≡ filter (is_other place) old.claims

-- the same, with the place of the claim in the answer
pub record PublishesReady (old : TracksState) (r : Ready) (new : TracksState) : Type 0 where
  pub at : ℕ
  pub first : IsReady old.claims old.tracks at r.place
  pub next : IsNext old.tracks at r.track r.index
  pub clear : List ℕ
  pub delivered : clear_at r.place old.claims ≡ Some clear
  pub tracks : new.tracks ≡ changed_at old.tracks at (more_out clear)
  pub claims : new.claims ≡ filter (is_other r.place) old.claims

-- what the publication of a clear sample answers and leaves: the bytes of the first clear head are out
pub record PassesClear (old : TracksState) (p : Published) (new : TracksState) : Type 0 where
  pub at : ℕ
  pub first : IsFirst has_clear_head old.tracks at
  pub next : IsNext old.tracks at p.track p.index
  pub sample : EncSample
  pub head_ : (d : FedTrack) → head (track_of (slice_index_or old.tracks at d)) ≡ Some sample
  pub tracks : new.tracks ≡ changed_at old.tracks at (more_out sample.bytes)
  pub claims : new.claims ≡ old.claims

-- the first track whose head has neither a claim nor a pick begins to wait
pub record BeginsToWait (picks : Picks) (old : TracksState) (track : ℕ) (new : TracksState) : Type 0 where
  pub at : ℕ
  pub first : IsFirst (is_unkeyed picks old.claims) old.tracks at
  pub id : (d : FedTrack) → track ≡ (slice_index_or old.tracks at d).id
  pub tracks : new.tracks ≡ changed_at old.tracks at (with_waiting true)
  pub claims : new.claims ≡ old.claims

-- the id of the first track that is not at rest
pub record IsBusy (picks : Picks) (tracks : List FedTrack) (track : ℕ) : Type 0 where
  pub at : ℕ
  pub first : IsUnrested (rests picks) tracks at
  pub id : (d : FedTrack) → track ≡ (slice_index_or tracks at d).id
