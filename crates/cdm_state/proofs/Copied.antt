-- The sample of a claim and its key id.
use Rattle.std.specs.Prelude.{ℕ, ◌≡◌, List, slice_get, Some}
use Rattle.eme_types.specs.declared.sample.EncSample.{EncSample}
use Rattle.eme_types.specs.declared.sample.Protect.{Protect}
use Rattle.key_claims.specs.TracksState.{FedTrack}

pub record Copied : Type 0 where
  pub kid : List ℕ
  pub sample : EncSample

-- the sample at an index, and its key id
pub record IsCopied (t : FedTrack) (index : ℕ) (c : Copied) : Type 0 where
  pub sample : slice_get t.fed index ≡ Some c.sample
  pub protect : Protect
  pub protected : c.sample.protect ≡ Some protect
  pub kid : c.kid ≡ protect.kid
