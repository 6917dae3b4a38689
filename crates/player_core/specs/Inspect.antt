-- The text that tells what is in a media file.
use Rattle.std.specs.Prelude.{ℕ, ◌+◌, Bool, List, [], ◌∷◌, ◌++◌, length, codes, count_by, is_some}
use Rattle.std.specs.List.{flat_map}
use Rattle.std.specs.Fmt.{decimal}
use Rattle.eme_types.specs.declared.sample.EncSample.{EncSample}
use Rattle.eme_types.specs.declared.media.InitData.{InitData}
use Rattle.eme_types.specs.declared.media.TrackPart.{TrackPart}
use Rattle.eme_types.specs.declared.media.Fragment.{Fragment}
use Rattle.eme_types.specs.declared.media.Media.{Media}
use Rattle.eme_types.specs.Fed.{part_bytes}
use Rattle.output_order.specs.Log.{hex_text, init_name}

-- the sample has protection data
abbrev pub is_protected : EncSample → Bool
is_protected sample = is_some sample.protect

-- `fragment <n> init <type> <hex>`
abbrev pub init_line : ℕ → InitData → List ℕ
init_line n init = codes "fragment " ++ (decimal n ++ (codes " init " ++ (init_name init.kind ++ (codes " " ++ (hex_text init.bytes ++ codes "\n")))))

-- `fragment <n> track <id> samples <k> protected <p> bytes <b>`
abbrev pub part_line : ℕ → TrackPart → List ℕ
part_line n part = codes "fragment " ++ (decimal n ++ (codes " track " ++ (decimal part.track ++ (codes " samples " ++ (decimal (length part.samples) ++ (codes " protected " ++ (decimal (count_by is_protected part.samples) ++ (codes " bytes " ++ (decimal (part_bytes part) ++ codes "\n")))))))))

-- the initialization data of fragment n, then its parts
abbrev pub fragment_lines : ℕ → Fragment → List ℕ
fragment_lines n fragment = flat_map (init_line n) fragment.inits ++ flat_map (part_line n) fragment.parts

-- the fragments in order, the first of which has this number
abbrev pub lines_from : ℕ → List Fragment → List ℕ
lines_from n [] = []
lines_from n (fragment ∷ more) = fragment_lines n fragment ++ lines_from (n + 1) more

-- `fragments <f> tracks <t>`
abbrev pub last_line : Media → List ℕ
last_line media = codes "fragments " ++ (decimal (length media.fragments) ++ (codes " tracks " ++ (decimal (length media.tracks) ++ codes "\n")))

-- the fragments from number 1 on, and the last line
unfoldable pub inspect_text : Media → List ℕ
inspect_text media = lines_from 1 media.fragments ++ last_line media
