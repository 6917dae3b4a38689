-- Initialization data of the type 'cenc' (ISO/IEC 23001-7 section 8.1; Encrypted Media Extensions Initialization Data Format Registry).
use Rattle.std.specs.Prelude.{ℕ, List, [], ◌∷◌}
use Rattle.std.specs.List.{flat_map}
use Rattle.eme_types.specs.declared.media.InitData.{InitData}
use Rattle.eme_types.specs.declared.media.InitKind.TheVariants.{Cenc}
use Rattle.frag_boxes.specs.declared.records.Span.{Span}
use Rattle.sample_aux.specs.Spans.{box_bytes}

-- the pssh boxes, whole and in file order, make one initialization data
abbrev pub inits_of : List ℕ → List Span → List InitData
inits_of file [] = []
inits_of file (s ∷ ss) = record { kind = Cenc; bytes = flat_map (λ x. box_bytes file x) (s ∷ ss) } ∷ []
