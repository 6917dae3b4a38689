-- What the media of an MP4 file hold of the file beside the bytes of their samples.
use Rattle.std.specs.Prelude.{ℕ, ◌+◌, ◌≤◌, Bool, List, length, take, bytes_eq}
use Rattle.std.specs.List.{All, sum_by}
use Rattle.eme_types.specs.declared.media.Media.{Media}
use Rattle.sample_aux.specs.Bounds.{fragment_init_bytes, FragmentHasFewSubs}
use Rattle.track_media.specs.File.{header}

-- the file is a sample list
abbrev pub is_list : List ℕ → Bool
is_list file = bytes_eq (take 7 file) header

-- the fragments and the bytes of all initialization data are together no more than the bytes of the file, and no sample has more
-- subsamples than the file has bytes
pub record HoldsNoMore (file : List ℕ) (m : Media) : Type 0 where
  pub inits : length m.fragments + sum_by fragment_init_bytes m.fragments ≤ length file
  pub subs : All (FragmentHasFewSubs (length file)) m.fragments
