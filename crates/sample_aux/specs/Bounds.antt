-- What an answer holds of a file beside the bytes of its samples.
use Rattle.std.specs.Prelude.{ℕ, ◌≤◌, List, length, Option, Some, None}
use Rattle.std.specs.List.{All, sum_by}
use Rattle.eme_types.specs.declared.sample.EncSample.{EncSample}
use Rattle.eme_types.specs.declared.sample.Protect.{Protect}
use Rattle.eme_types.specs.declared.media.InitData.{InitData}
use Rattle.eme_types.specs.declared.media.TrackPart.{TrackPart}
use Rattle.eme_types.specs.declared.media.Fragment.{Fragment}

-- the bytes of one initialization data
abbrev pub init_bytes : InitData → ℕ
init_bytes i = length i.bytes

-- the bytes of all initialization data of a fragment
abbrev pub fragment_init_bytes : Fragment → ℕ
fragment_init_bytes f = sum_by init_bytes f.inits

-- how many subsamples there are
abbrev pub count_subs : Option Protect → ℕ
count_subs None = 0
count_subs (Some p) = length p.subs

-- each sample has at most so many subsamples
abbrev pub HasFewSubs : ℕ → List EncSample → Type 0
HasFewSubs n samples = All (λ (s : EncSample). count_subs s.protect ≤ n) samples

-- each sample of a fragment
abbrev pub FragmentHasFewSubs : ℕ → Fragment → Type 0
FragmentHasFewSubs n f = All (λ (p : TrackPart). HasFewSubs n p.samples) f.parts
