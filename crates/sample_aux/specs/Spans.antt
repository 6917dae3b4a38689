-- Boxes of the file, by their spans. A span that leaves the file stands for what of it is there.
use Rattle.std.specs.Prelude.{ℕ, ◌-◌, List, [], ◌∷◌, ◌++◌, take, drop, map, Option, Some, None, Result, Ok}
use Rattle.iso_boxes.specs.Walk.{Found}
use Rattle.iso_boxes.specs.Children.{◌>>=◌}
use Rattle.frag_boxes.specs.declared.records.Span.{Span}

-- so many bytes of the file, from a place on
abbrev pub part_of : List ℕ → ℕ → ℕ → List ℕ
part_of file place len = take len (drop place file)

-- the body of the box, and where both begin; no reader looks at its type
abbrev pub box_at : List ℕ → Span → Found
box_at file s = record { kind = 0 ∷ 0 ∷ 0 ∷ 0 ∷ []; place = s.place; body = part_of file s.body_place s.len; body_place = s.body_place }

-- the boxes of these spans, in order
abbrev pub boxes_at : List ℕ → List Span → List Found
boxes_at file spans = map (λ s. box_at file s) spans

-- the bytes of the whole box: its header and its body
abbrev pub box_bytes : List ℕ → Span → List ℕ
box_bytes file s = part_of file s.place (s.body_place - s.place) ++ part_of file s.body_place s.len

-- ---- the used one of several boxes

-- boxes are read in order up to the first that gives something; those behind it are not read
abbrev pub or_else : {E A : Type 0} → Result (Option A) E → Option A → Result (Option A) E
or_else others None = others
or_else others (Some x) = Ok (Some x)

-- what the first box gives that gives something
unfoldable pub first_given : {E A : Type 0} → (Found → Result (Option A) E) → List Found → Result (Option A) E
first_given read [] = Ok None
first_given read (b ∷ bs) = read b >>= or_else (first_given read bs)
