-- What the call that seals media answers.
use Rattle.std.specs.Prelude.{◌≡◌, ◌⊎◌, ℕ, List, Some, Ok}
use Rattle.eme_types.specs.declared.media.Media.{Media}
use Rattle.track_media.specs.File.{media_of}
use Rattle.seal_media.specs.declared.fault.SealFault.{SealFault}
use Rattle.seal_media.specs.declared.fault.SealFault.TheVariants.{OutOfMemory}
use Rattle.seal_media.specs.declared.plan.SealPlan.{SealPlan}
use Rattle.seal_media.specs.Sealed.{IsSealedMedia}
use Rattle.seal_media.specs.Layout.{sealed_file}
use Rattle.seal_media.specs.Refusals.{refusal}

-- the bytes are the file of the media, sealed
pub record IsFileOf (plan : SealPlan) (clear : Media) (bytes : List ℕ) : Type 0 where
  pub sealed : Media
  pub media : IsSealedMedia plan clear sealed
  pub file : bytes ≡ sealed_file plan sealed

-- the bytes are read as the media, sealed
pub record IsReadAs (plan : SealPlan) (clear : Media) (bytes : List ℕ) : Type 0 where
  pub sealed : Media
  pub media : IsSealedMedia plan clear sealed
  pub again : media_of bytes ≡ Ok sealed

-- the first broken rule is told, or memory ran out
abbrev pub IsRefused : SealPlan → Media → SealFault → Type 0
IsRefused plan m fault = (fault ≡ OutOfMemory) ⊎ (refusal plan m ≡ Some fault)
