-- How many bytes the boxes have that an answer names or reads for its samples.
use Rattle.std.specs.Prelude.{ℕ, ◌+◌, ◌-◌}
use Rattle.std.specs.List.{sum_by}
use Rattle.frag_boxes.specs.declared.records.Span.{Span}
use Rattle.frag_boxes.specs.declared.records.Traf.{Traf}
use Rattle.frag_boxes.specs.declared.records.Movie.{Movie}
use Rattle.frag_boxes.specs.declared.records.Moof.{Moof}

-- a whole box, its header and its body
abbrev pub span_bytes : Span → ℕ
span_bytes s = (s.body_place - s.place) + s.len

-- the senc boxes of a track fragment
abbrev pub senc_bytes : Traf → ℕ
senc_bytes t = sum_by span_bytes t.senc

-- the pssh boxes of a movie
abbrev pub movie_bytes : Movie → ℕ
movie_bytes m = sum_by span_bytes m.psshs

-- the pssh boxes of a movie fragment, and the senc boxes of its track fragments
abbrev pub moof_bytes : Moof → ℕ
moof_bytes m = sum_by span_bytes m.psshs + sum_by senc_bytes m.trafs
