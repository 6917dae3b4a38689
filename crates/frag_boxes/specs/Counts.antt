-- How many items the lists of a record have together, however deep.
use Rattle.std.specs.Prelude.{ℕ, ◌+◌, List, [], ◌∷◌, length}
use Rattle.frag_boxes.specs.declared.records.SampleEntry.{SampleEntry}
use Rattle.frag_boxes.specs.declared.records.MovieTrack.{MovieTrack}
use Rattle.frag_boxes.specs.declared.records.Movie.{Movie}
use Rattle.frag_boxes.specs.declared.records.Trun.{Trun}
use Rattle.frag_boxes.specs.declared.records.Traf.{Traf}
use Rattle.frag_boxes.specs.declared.records.Moof.{Moof}

-- each item of a list, and what is inside it
abbrev pub count_of : {A : Type 0} → (A → ℕ) → List A → ℕ
count_of inner [] = 0
count_of inner (x ∷ xs) = 1 + inner x + count_of inner xs

-- the items of a sample entry
abbrev pub entry_items : SampleEntry → ℕ
entry_items e = length e.sinfs

-- the items of a track
abbrev pub track_items : MovieTrack → ℕ
track_items t = count_of entry_items t.entries + length t.groups

-- the items of a movie
abbrev pub movie_items : Movie → ℕ
movie_items m = count_of track_items m.tracks + length m.psshs

-- the items of a run
abbrev pub run_items : Trun → ℕ
run_items r = length r.items

-- the items of a track fragment
abbrev pub traf_items : Traf → ℕ
traf_items t = count_of run_items t.runs + length t.senc + length t.saiz + length t.saio + length t.sgpd + length t.sbgp

-- the items of a movie fragment
abbrev pub moof_items : Moof → ℕ
moof_items m = count_of traf_items m.trafs + length m.psshs
