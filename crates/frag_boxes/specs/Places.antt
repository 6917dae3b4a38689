-- Where the spans of a movie and of a fragment stand: in the body of the box that was read.
use Rattle.std.specs.Prelude.{◌+◌, ◌≤◌, length}
use Rattle.std.specs.List.{All}
use Rattle.iso_boxes.specs.Walk.{Found}
use Rattle.frag_boxes.specs.declared.records.Span.{Span}
use Rattle.frag_boxes.specs.declared.records.SampleEntry.{SampleEntry}
use Rattle.frag_boxes.specs.declared.records.MovieTrack.{MovieTrack}
use Rattle.frag_boxes.specs.declared.records.Movie.{Movie}
use Rattle.frag_boxes.specs.declared.records.Traf.{Traf}
use Rattle.frag_boxes.specs.declared.records.Moof.{Moof}

-- a box, its header of 8 bytes at least and its body, lies in the body of another
pub record SpanLies (outer : Found) (s : Span) : Type 0 where
  pub from : outer.body_place ≤ s.place
  pub header : s.place + 8 ≤ s.body_place
  pub to : s.body_place + s.len ≤ outer.body_place + length outer.body

-- each sinf of a sample entry does
abbrev pub EntryLies : Found → SampleEntry → Type 0
EntryLies outer e = All (SpanLies outer) e.sinfs

-- each span of a track does
pub record TrackLies (outer : Found) (t : MovieTrack) : Type 0 where
  pub entries : All (EntryLies outer) t.entries
  pub groups : All (SpanLies outer) t.groups

-- each span of a movie does
pub record MovieLies (outer : Found) (m : Movie) : Type 0 where
  pub tracks : All (TrackLies outer) m.tracks
  pub psshs : All (SpanLies outer) m.psshs

-- each span of a track fragment does
pub record TrafLies (outer : Found) (t : Traf) : Type 0 where
  pub senc : All (SpanLies outer) t.senc
  pub saiz : All (SpanLies outer) t.saiz
  pub saio : All (SpanLies outer) t.saio
  pub sgpd : All (SpanLies outer) t.sgpd
  pub sbgp : All (SpanLies outer) t.sbgp

-- each span of a movie fragment does
pub record MoofLies (outer : Found) (m : Moof) : Type 0 where
  pub trafs : All (TrafLies outer) m.trafs
  pub psshs : All (SpanLies outer) m.psshs
