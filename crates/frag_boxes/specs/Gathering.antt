-- What readers of a movie fragment have gathered, one box after the other. Contracts of private functions speak of it.
use Rattle.iso_boxes.specs.Children.{first_or}
use Rattle.frag_boxes.specs.declared.moov.TrakPart.{TrakPart}
use Rattle.frag_boxes.specs.declared.moov.TrakPart.TheVariants as trak_part
use Rattle.frag_boxes.specs.declared.moov.TrakParts.{TrakParts}
use Rattle.frag_boxes.specs.declared.moov.MoovPart.{MoovPart}
use Rattle.frag_boxes.specs.declared.moov.MoovPart.TheVariants as moov_part
use Rattle.frag_boxes.specs.declared.moov.MoovParts.{MoovParts}
use Rattle.frag_boxes.specs.declared.table.StblPart.{StblPart}
use Rattle.frag_boxes.specs.declared.table.StblPart.TheVariants as stbl_part
use Rattle.frag_boxes.specs.declared.table.StblParts.{StblParts}
use Rattle.frag_boxes.specs.declared.records.Movie.{Movie}
use Rattle.frag_boxes.specs.declared.records.TrackTrex.{TrackTrex}
use Rattle.frag_boxes.specs.Moov.{with_trex}
use Rattle.frag_boxes.specs.Moof.{span_if}
use Rattle.std.specs.Prelude.{ℕ, codes, map, List, [], ◌∷◌, ◌++◌, Option, Some, None}
use Rattle.frag_boxes.specs.declared.records.Span.{Span}
use Rattle.frag_boxes.specs.declared.moof.TrafPart.{TrafPart}
use Rattle.frag_boxes.specs.declared.moof.TrafPart.TheVariants as part
use Rattle.frag_boxes.specs.declared.moof.TrafParts.{TrafParts}
use Rattle.frag_boxes.specs.declared.moof.MoofPart.{MoofPart}
use Rattle.frag_boxes.specs.declared.moof.MoofPart.TheVariants as moof_part
use Rattle.frag_boxes.specs.declared.moof.MoofParts.{MoofParts}

-- nothing was read
abbrev pub nothing : TrafParts
nothing = record { tfhd = None; runs = []; senc = []; saiz = []; saio = []; sgpd = []; sbgp = [] }

-- a part of a traf is added
abbrev pub added : TrafParts → TrafPart → TrafParts
added s (part.Head h) = record s { tfhd = first_or s.tfhd h }
added s (part.Run r) = record s { runs = s.runs ++ r ∷ [] }
added s (part.Placed k x) = record s {
  senc = s.senc ++ span_if (codes "senc") k x;
  saiz = s.saiz ++ span_if (codes "saiz") k x;
  saio = s.saio ++ span_if (codes "saio") k x;
  sgpd = s.sgpd ++ span_if (codes "sgpd") k x;
  sbgp = s.sbgp ++ span_if (codes "sbgp") k x;
}
added s part.Other = s

-- a part of a moof is added
abbrev pub moof_added : MoofParts → MoofPart → MoofParts
moof_added s (moof_part.Fragment t) = record s { trafs = s.trafs ++ t ∷ [] }
moof_added s (moof_part.Pssh x) = record s { psshs = s.psshs ++ x ∷ [] }
moof_added s moof_part.Other = s

-- a part of a trak is added
abbrev pub trak_added : TrakParts → TrakPart → TrakParts
trak_added s (trak_part.Id id) = record s { id = first_or s.id id }
trak_added s (trak_part.Samples table) = record s { table = first_or s.table table }
trak_added s trak_part.Other = s

-- a part of a moov is added
abbrev pub moov_added : MoovParts → MoovPart → MoovParts
moov_added s (moov_part.Track t) = record s { tracks = s.tracks ++ t ∷ [] }
moov_added s (moov_part.Pssh x) = record s { psshs = s.psshs ++ x ∷ [] }
moov_added s (moov_part.Defaults trexes) = record s { trexes = s.trexes ++ trexes }
moov_added s moov_part.Other = s

-- a trex is added, where one was read
abbrev pub trex_added : List TrackTrex → Option TrackTrex → List TrackTrex
trex_added s None = s
trex_added s (Some x) = s ++ x ∷ []

-- the movie that was gathered
abbrev pub whole_moov : ℕ → MoovParts → Movie
whole_moov place s = record { place = place; tracks = map (with_trex s.trexes) s.tracks; psshs = s.psshs }

-- a span is added, where one was read
abbrev pub span_added : List Span → Option Span → List Span
span_added s None = s
span_added s (Some x) = s ++ x ∷ []

-- a part of an stbl is added
abbrev pub stbl_added : StblParts → StblPart → StblParts
stbl_added s (stbl_part.Entries entries) = record s { entries = first_or s.entries entries }
stbl_added s (stbl_part.Group x) = record s { groups = s.groups ++ x ∷ [] }
stbl_added s stbl_part.Other = s
