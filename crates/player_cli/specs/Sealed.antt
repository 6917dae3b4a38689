-- The command `seal`: media that are sealed into a file.
use Rattle.std.specs.Prelude.{ℕ, ◌≡◌, List, [], ◌∷◌}
use Rattle.eme_types.specs.declared.media.Media.{Media}
use Rattle.eme_edge.specs.Shelf.{ShelfState}
use Rattle.seal_media.specs.Answers.{IsFileOf, IsReadAs}
use Rattle.player_cli.specs.Command.{SealNames}
use Rattle.player_cli.specs.FileText.{FileText}
use Rattle.player_cli.specs.Inputs.{MediaRead}
use Rattle.player_cli.specs.Written.{IsWritten, IsStopped}

-- the media were read; the bytes are the file of the media, sealed by the plan, and as that they are read again
pub record IsSealing (s : ShelfState) (names : SealNames) (bytes : List ℕ) : Type 0 where
  pub media : Media
  pub read : MediaRead s names.media media
  pub file : IsFileOf names.plan media bytes
  pub again : IsReadAs names.plan media bytes

-- the one file that is written
abbrev pub sealed_files : SealNames → List ℕ → List FileText
sealed_files names bytes = record { name = names.out; text = bytes } ∷ []

-- the output holds these bytes; nothing was said
pub record HasSealed (old new : ShelfState) (names : SealNames) : Type 0 where
  pub bytes : List ℕ
  pub is : IsSealing old names bytes
  pub written : IsWritten old new (sealed_files names bytes) []

-- the writing of the output has stopped
pub record HasPartlySealed (old new : ShelfState) (names : SealNames) : Type 0 where
  pub bytes : List ℕ
  pub is : IsSealing old names bytes
  pub stopped : IsStopped old new (sealed_files names bytes) []
