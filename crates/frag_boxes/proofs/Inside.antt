-- The spans of a movie and of a fragment lie in the box that was read.
use Rattle.std.proofs.Common.{◌≡◌, ℕ, ◌+◌, ◌≤◌, Bool, true, false, cond, List, [], ◌∷◌, length, map, take, drop, Option, Some, None, Result, Ok, Err, subst, arith}
use Rattle.std.specs.Prelude.{IfOk, IfSome, nat_lt, ◌==◌, find, codes, bytes_eq}
use Rattle.std.specs.List.{All}
use Rattle.std.proofs.lemmas.Bool.{ltb-false}
use Rattle.std.proofs.lemmas.List.{length-drop}
use Rattle.std.proofs.lemmas.List.Elements.{All-nil, All-cons, All-head, All-tail, All-append, All-take, All-map, All-weaker}
use Rattle.eme_types.specs.declared.limits.TheConstants.{MAX_TRACKS}
use Rattle.iso_boxes.specs.declared.walk.BoxFault.{BoxFault}
use Rattle.iso_boxes.specs.Walk.{Found, Walked, LiesIn, inside, walk}
use Rattle.iso_boxes.specs.Children.{◌>>=◌, each_knowing, all_knowing, if_any, ended, all_read, first_read, required, first, placed}
use Rattle.iso_boxes.proofs.Walking.{not_err}
use Rattle.iso_boxes.proofs.Places.{boxes_lie}
use Rattle.frag_boxes.specs.declared.fault.FragKind.TheVariants.{Short, NoSinf, NoTfhd, NoTrackId}
use Rattle.frag_boxes.specs.declared.fault.FragFault.{FragFault}
use Rattle.frag_boxes.specs.declared.records.Span.{Span}
use Rattle.frag_boxes.specs.declared.records.Traf.{Traf}
use Rattle.frag_boxes.specs.declared.records.Moof.{Moof}
use Rattle.frag_boxes.specs.declared.records.SampleEntry.{SampleEntry}
use Rattle.frag_boxes.specs.declared.records.MovieTrack.{MovieTrack}
use Rattle.frag_boxes.specs.declared.records.Movie.{Movie}
use Rattle.frag_boxes.specs.declared.records.TrackTrex.{TrackTrex}
use Rattle.frag_boxes.specs.declared.kinds.TrafBox.{TrafBox}
use Rattle.frag_boxes.specs.declared.kinds.TrafBox.TheVariants as traf
use Rattle.frag_boxes.specs.declared.kinds.MoofBox.{MoofBox}
use Rattle.frag_boxes.specs.declared.kinds.MoofBox.TheVariants as moof
use Rattle.frag_boxes.specs.declared.moof.TrafPart.{TrafPart}
use Rattle.frag_boxes.specs.declared.moof.TrafPart.TheVariants as traf_part
use Rattle.frag_boxes.specs.declared.moof.MoofPart.{MoofPart}
use Rattle.frag_boxes.specs.declared.moof.MoofPart.TheVariants as moof_part
use Rattle.frag_boxes.specs.declared.table.Table.{Table}
use Rattle.frag_boxes.specs.declared.table.EntryBox.{EntryBox}
use Rattle.frag_boxes.specs.declared.table.EntryBox.TheVariants as entry
use Rattle.frag_boxes.specs.declared.table.StblBox.{StblBox}
use Rattle.frag_boxes.specs.declared.table.StblBox.TheVariants as stbl
use Rattle.frag_boxes.specs.declared.table.StblPart.{StblPart}
use Rattle.frag_boxes.specs.declared.table.StblPart.TheVariants as stbl_part
use Rattle.frag_boxes.specs.declared.moov.TrakBox.{TrakBox}
use Rattle.frag_boxes.specs.declared.moov.TrakBox.TheVariants as trak
use Rattle.frag_boxes.specs.declared.moov.TrakPart.{TrakPart}
use Rattle.frag_boxes.specs.declared.moov.TrakPart.TheVariants as trak_part
use Rattle.frag_boxes.specs.declared.moov.MoovBox.{MoovBox}
use Rattle.frag_boxes.specs.declared.moov.MoovBox.TheVariants as moov
use Rattle.frag_boxes.specs.declared.moov.MoovPart.{MoovPart}
use Rattle.frag_boxes.specs.declared.moov.MoovPart.TheVariants as moov_part
use Rattle.frag_boxes.specs.Fields.{tfhd_fields, trun_fields, stsd_fields, stsz_fields, audio_version}
use Rattle.frag_boxes.specs.Moof.{GivesBox, fault_at, header_fault, span, traf_box, part_as, part_at, head_seen, heads, runs, span_if, spans_of, traf_from, traf_at, moof_box, moof_part_as, moof_part_at, trafs, psshs, moof_at}
use Rattle.frag_boxes.specs.Table.{is, behind, somes, entry_box, sinf_part, sinfs_at, protected_at, entry_as, entry_at, enough, entries_in, entries_at, stsd_at, stbl_box, stbl_part_as, stbl_part_at, stsd_seen, entries_of, groups, or_nothing, stbl_at, or_none, minf_at, mdia_at}
use Rattle.frag_boxes.specs.Moov.{Seen, tkhd_at, trak_box, trak_part_as, trak_part_at, saw, ids, tables, track, track_from, trak_at, mvex_at, with_trex, moov_box, moov_part_as, moov_part_at, with_track, tracks_of, moov_psshs, trexes_of, moov_at}
use Rattle.frag_boxes.specs.Places.{SpanLies, EntryLies, TrackLies, MovieLies, TrafLies, MoofLies}
use Rattle.frag_boxes.proofs.Taking.{then_ok, not_else}

carried : {A : Type 0} (P : A → Type 0) (x y : A) → P x → x ≡ y → P y
carried P x y p e = subst P e p

-- ---- the boxes of a walk

abbrev Stands : Found → Found → Type 0
Stands o b = SpanLies o (span b)

-- bytes that stand in the body of a box
record Within (o : Found) (base size : ℕ) : Type 0 where
  pub from : o.body_place ≤ base
  pub to : base + size ≤ o.body_place + length o.body

abbrev In : Found → Found → Type 0
In o b = Within o b.body_place (length b.body)

whole_in : (o : Found) → In o o
whole_in o = record { from = omega arith; to = omega arith }

body_in : (o b : Found) → Stands o b → In o b
body_in o b s = record { from = omega (arith, s.from, s.header); to = s.to }

walk_stands : (o : Found) (bytes : List ℕ) (base : ℕ) → Within o base (length bytes) → All (Stands o) (walk bytes base false).boxes
walk_stands o bytes base w =
    All-weaker (LiesIn bytes base) (Stands o) (λ b l. record { from = omega (arith, w.from, l.from); header = l.header; to = omega (arith, w.to, l.body.to) })
    (walk bytes base false).boxes (boxes_lie bytes base false)

inside_stands : (o b : Found) → In o b → All (Stands o) (inside b).boxes
inside_stands o b i = walk_stands o b.body b.body_place i

behind_stands : (o : Found) (n : ℕ) (b : Found) (w : Walked) → In o b → behind n b ≡ Ok w → All (Stands o) w.boxes
behind_stands o n b w i h =
    let p = not_err (nat_lt (length b.body) n) (fault_at b.place Short) (Ok (walk (drop n b.body) (b.body_place + n) false)) w h in
    let low : n ≤ length b.body = ltb-false (length b.body) n p.0 in
    carried (λ (w : Walked). All (Stands o) w.boxes) (walk (drop n b.body) (b.body_place + n) false) w
    (walk_stands o (drop n b.body) (b.body_place + n) (record { from = omega (arith, i.from); to = omega (arith, i.to, low, length-drop n b.body) })) cc

-- ---- what is read of boxes

-- a reader of boxes: R holds for what it reads of each box in o
record Lying (E A K : Type 0) (o : Found) (R : A → Type 0) : Type 0 where
  pub read : K → Found → Result A E
  pub learn : K → A → K
  pub each : (known : K) (b : Found) (x : A) → Stands o b → read known b ≡ Ok x → R x

each_lies : {E A K : Type 0} (o : Found) (R : A → Type 0) (r : Lying E A K o R) (known : K) (bs : List Found) (xs : List A) → All (Stands o) bs → each_knowing r.read r.learn known bs ≡ Ok xs → All R xs
unfolding each_knowing
each_lies o R r known [] xs all h = carried (All R) [] xs (All-nil R) cc
each_lies o R r known (b ∷ bs) xs all h =
    let p = then_ok (r.read known b) _ xs h in
    let q = then_ok (each_knowing r.read r.learn (r.learn known p.0) bs) _ xs p.2 in
    let one = r.each known b p.0 (All-head (Stands o) b bs all) p.1 in
    let more = each_lies o R r (r.learn known p.0) bs q.0 (All-tail (Stands o) b bs all) q.1 in
    carried (All R) (p.0 ∷ q.0) xs (All-cons R p.0 q.0 one more) cc

all_lie : {E A K : Type 0} (header : BoxFault → E) (o : Found) (R : A → Type 0) (r : Lying E A K o R) (known : K) (w : Walked) (xs : List A) → All (Stands o) w.boxes → all_knowing header r.read r.learn known w ≡ Ok xs → All R xs
unfolding all_knowing
all_lie header o R r known w xs all h =
    let p = then_ok (each_knowing r.read r.learn known w.boxes) _ xs h in
    let q = then_ok (ended header w.fault) _ xs p.2 in
    carried (All R) p.0 xs (each_lies o R r known w.boxes p.0 all p.1) cc

found_at : {E A : Type 0} (o : Found) (R : A → Type 0) (test : Found → Bool) (read : Found → Result A E) → ((b : Found) (x : A) → Stands o b → read b ≡ Ok x → R x)
    → (c : Bool) (b : Found) (bs : List Found) (x : Option A) → Stands o b → (if_any read (find test bs) ≡ Ok x → IfSome x R) → if_any read (cond c (Some b) (find test bs)) ≡ Ok x → IfSome x R
found_at {A = A} o R test read each true b bs x s more h =
    let p = then_ok (read b) _ x h in
    carried (λ (x : Option A). IfSome x R) (Some p.0) x (each b p.0 s p.1) cc
found_at o R test read each false b bs x s more h = more h

found_lies : {E A : Type 0} (o : Found) (R : A → Type 0) (test : Found → Bool) (read : Found → Result A E) → ((b : Found) (x : A) → Stands o b → read b ≡ Ok x → R x)
    → (bs : List Found) (x : Option A) → All (Stands o) bs → if_any read (find test bs) ≡ Ok x → IfSome x R
found_lies {A = A} o R test read each [] x all h = carried (λ (x : Option A). IfSome x R) None x tt cc
found_lies o R test read each (b ∷ bs) x all h =
    found_at o R test read each (test b) b bs x (All-head (Stands o) b bs all) (found_lies o R test read each bs x (All-tail (Stands o) b bs all)) h

first_lies : {E A : Type 0} (header : BoxFault → E) (o : Found) (R : A → Type 0) (test : Found → Bool) (read : Found → Result A E) → ((b : Found) (x : A) → Stands o b → read b ≡ Ok x → R x)
    → (b : Found) (x : Option A) → In o b → first_read header test read (inside b) ≡ Ok x → IfSome x R
unfolding first_read
first_lies {A = A} header o R test read each b x i h =
    let p = then_ok (if_any read (find test (inside b).boxes)) _ x h in
    let q = then_ok (ended header (inside b).fault) _ x p.2 in
    carried (λ (x : Option A). IfSome x R) p.0 x (found_lies o R test read each (inside b).boxes p.0 (inside_stands o b i) p.1) cc

-- ---- sample entries

sinf_at_lies : (o b : Found) (c : Bool) → Stands o b → IfSome (cond c (Some (span b)) None) (SpanLies o)
sinf_at_lies o b true s = s
sinf_at_lies o b false s = tt

abbrev SinfLies : Found → Option Span → Type 0
SinfLies o x = IfSome x (SpanLies o)

sinf_lies : (o b : Found) → Stands o b → SinfLies o (sinf_part b)
unfolding sinf_part
sinf_lies o b s = sinf_at_lies o b (is (codes "sinf") b) s

somes_lie : (o : Found) (ps : List (Option Span)) → All (SinfLies o) ps → All (SpanLies o) (somes ps)
somes_lie o [] all = All-nil (SpanLies o)
somes_lie o (None ∷ ps) all = somes_lie o ps (All-tail (SinfLies o) None ps all)
somes_lie o (Some x ∷ ps) all = All-cons (SpanLies o) x (somes ps) (All-head (SinfLies o) (Some x) ps all) (somes_lie o ps (All-tail (SinfLies o) (Some x) ps all))

sinfs_lie : (o : Found) (place : ℕ) (w : Walked) (e : SampleEntry) → All (Stands o) w.boxes → sinfs_at place w ≡ Ok e → EntryLies o e
sinfs_lie o place w e all h =
    let p = then_ok (all_read header_fault (λ b. Ok (sinf_part b)) w) _ e h in
    let parts = all_lie header_fault o (SinfLies o) (record { read = λ (none : Unit {0}) b. Ok (sinf_part b); learn = λ none x. tt; each = λ none b x s eq. carried (SinfLies o) (sinf_part b) x (sinf_lies o b s) cc }) tt w p.0 all p.1 in
    let q = not_err (length (somes p.0) == 0) (fault_at place NoSinf) (Ok (record { place = place; sinfs = somes p.0 })) e p.2 in
    carried (EntryLies o) (record { place = place; sinfs = somes p.0 }) e (somes_lie o p.0 parts) cc

protected_lies : (o : Found) (n : ℕ) (b : Found) (e : SampleEntry) → In o b → protected_at n b ≡ Ok e → EntryLies o e
unfolding protected_at
protected_lies o n b e i h =
    let p = then_ok (behind n b) _ e h in
    sinfs_lie o b.place p.0 e (behind_stands o n b p.0 i p.1) p.2

entry_lies : (o : Found) (k : EntryBox) (b : Found) (e : SampleEntry) → In o b → entry_as k b ≡ Ok e → EntryLies o e
entry_lies o entry.Encv b e i h = protected_lies o 78 b e i h
entry_lies o entry.Enca b e i h = let p = then_ok (placed (fault_at b.place) (audio_version b.body)) _ e h in protected_lies o 28 b e i p.2
entry_lies o entry.OtherEnc b e i h = absurd cc
entry_lies o entry.Clear b e i h = carried (EntryLies o) (record { place = b.place; sinfs = [] }) e (All-nil (SpanLies o)) cc

entries_lie : (o : Found) (place count : ℕ) (w : Walked) (es : List SampleEntry) → All (Stands o) w.boxes → entries_in place count w ≡ Ok es → All (EntryLies o) es
unfolding entries_in
entries_lie o place count w es all h =
    let p = then_ok (each_knowing (λ (none : Unit {0}) b. entry_at b) (λ none x. tt) tt (take count w.boxes)) _ es h in
    let q = then_ok (enough place count w) _ es p.2 in
    let each = each_lies o (EntryLies o) (record { read = λ (none : Unit {0}) b. entry_at b; learn = λ none x. tt; each = λ none b e s eq. entry_lies o (entry_box b.kind) b e (body_in o b s) eq }) tt (take count w.boxes) p.0 (All-take (Stands o) count w.boxes all) p.1 in
    carried (All (EntryLies o)) p.0 es each cc

stsd_lies : (o b : Found) (es : List SampleEntry) → In o b → stsd_at b ≡ Ok es → All (EntryLies o) es
unfolding stsd_at entries_at
stsd_lies o b es i h =
    let p = then_ok (placed (fault_at b.place) (stsd_fields b.body)) _ es h in
    let q = then_ok (behind 8 b) _ es p.2 in
    entries_lie o b.place p.0 q.0 es (behind_stands o 8 b q.0 i q.1) q.2

-- ---- a sample table

record TableLies (o : Found) (t : Table) : Type 0 where
  pub entries : All (EntryLies o) t.entries
  pub groups : All (SpanLies o) t.groups

abbrev StblLies : Found → StblPart → Type 0
StblLies o (stbl_part.Entries es) = All (EntryLies o) es
StblLies o (stbl_part.Group x) = SpanLies o x
StblLies o stbl_part.Other = Unit {0}

stbl_part_lies : (o : Found) (k : StblBox) (seen : Bool) (b : Found) (p : StblPart) → Stands o b → stbl_part_as k seen b ≡ Ok p → StblLies o p
stbl_part_lies o stbl.Stsd true b p s h = carried (StblLies o) stbl_part.Other p tt cc
stbl_part_lies o stbl.Stsd false b p s h =
    let q = then_ok (stsd_at b) _ p h in
    carried (StblLies o) (stbl_part.Entries q.0) p (stsd_lies o b q.0 (body_in o b s) q.1) cc
stbl_part_lies o stbl.Stsz seen b p s h =
    let q = then_ok (placed (fault_at b.place) (stsz_fields b.body)) _ p h in
    carried (StblLies o) stbl_part.Other p tt cc
stbl_part_lies o stbl.Sgpd seen b p s h = carried (StblLies o) (stbl_part.Group (span b)) p s cc
stbl_part_lies o stbl.Other seen b p s h = carried (StblLies o) stbl_part.Other p tt cc

entries_of_lie : (o : Found) (ps : List StblPart) → All (StblLies o) ps → All (All (EntryLies o)) (entries_of ps)
entries_of_lie o [] all = All-nil (All (EntryLies o))
entries_of_lie o (stbl_part.Entries es ∷ ps) all = All-cons (All (EntryLies o)) es (entries_of ps) (All-head (StblLies o) (stbl_part.Entries es) ps all) (entries_of_lie o ps (All-tail (StblLies o) (stbl_part.Entries es) ps all))
entries_of_lie o (stbl_part.Group x ∷ ps) all = entries_of_lie o ps (All-tail (StblLies o) (stbl_part.Group x) ps all)
entries_of_lie o (stbl_part.Other ∷ ps) all = entries_of_lie o ps (All-tail (StblLies o) stbl_part.Other ps all)

groups_lie : (o : Found) (ps : List StblPart) → All (StblLies o) ps → All (SpanLies o) (groups ps)
groups_lie o [] all = All-nil (SpanLies o)
groups_lie o (stbl_part.Entries es ∷ ps) all = groups_lie o ps (All-tail (StblLies o) (stbl_part.Entries es) ps all)
groups_lie o (stbl_part.Group x ∷ ps) all = All-cons (SpanLies o) x (groups ps) (All-head (StblLies o) (stbl_part.Group x) ps all) (groups_lie o ps (All-tail (StblLies o) (stbl_part.Group x) ps all))
groups_lie o (stbl_part.Other ∷ ps) all = groups_lie o ps (All-tail (StblLies o) stbl_part.Other ps all)

first_list : (o : Found) (ls : List (List SampleEntry)) → All (All (EntryLies o)) ls → All (EntryLies o) (or_nothing (first ls))
first_list o [] all = All-nil (EntryLies o)
first_list o (l ∷ ls) all = All-head (All (EntryLies o)) l ls all

stbl_lies : (o b : Found) (t : Table) → In o b → stbl_at b ≡ Ok t → TableLies o t
unfolding stbl_at
stbl_lies o b t i h =
    let p = then_ok _ _ t h in
    let parts = all_lie header_fault o (StblLies o) (record { read = stbl_part_at; learn = stsd_seen; each = λ seen b p s eq. stbl_part_lies o (stbl_box b.kind) seen b p s eq }) false (inside b) p.0 (inside_stands o b i) p.1 in
    carried (TableLies o) (record { entries = or_nothing (first (entries_of p.0)); groups = groups p.0 }) t
    (record { entries = first_list o (entries_of p.0) (entries_of_lie o p.0 parts); groups = groups_lie o p.0 parts }) cc

table_lies : (o : Found) (t : Option Table) → IfSome t (TableLies o) → TableLies o (or_none t)
table_lies o None l = record { entries = All-nil (EntryLies o); groups = All-nil (SpanLies o) }
table_lies o (Some t) l = l

minf_lies : (o b : Found) (t : Table) → In o b → minf_at b ≡ Ok t → TableLies o t
unfolding minf_at
minf_lies o b t i h =
    let p = then_ok (first_read header_fault (is (codes "stbl")) stbl_at (inside b)) _ t h in
    let one = first_lies header_fault o (TableLies o) (is (codes "stbl")) stbl_at (λ b t s eq. stbl_lies o b t (body_in o b s) eq) b p.0 i p.1 in
    carried (TableLies o) (or_none p.0) t (table_lies o p.0 one) cc

mdia_lies : (o b : Found) (t : Table) → In o b → mdia_at b ≡ Ok t → TableLies o t
unfolding mdia_at
mdia_lies o b t i h =
    let p = then_ok (first_read header_fault (is (codes "minf")) minf_at (inside b)) _ t h in
    let one = first_lies header_fault o (TableLies o) (is (codes "minf")) minf_at (λ b t s eq. minf_lies o b t (body_in o b s) eq) b p.0 i p.1 in
    carried (TableLies o) (or_none p.0) t (table_lies o p.0 one) cc

-- ---- a track

abbrev TrakLies : Found → TrakPart → Type 0
TrakLies o (trak_part.Id id) = Unit {0}
TrakLies o (trak_part.Samples table) = TableLies o table
TrakLies o trak_part.Other = Unit {0}

tkhd_lies : (o : Found) (c : Bool) (tracks : List MovieTrack) (b : Found) (p : TrakPart) → cond c (Ok trak_part.Other) (tkhd_at tracks b >>= λ id. Ok (trak_part.Id id)) ≡ Ok p → TrakLies o p
tkhd_lies o true tracks b p h = carried (TrakLies o) trak_part.Other p tt cc
tkhd_lies o false tracks b p h =
    let q = then_ok (tkhd_at tracks b) _ p h in
    carried (TrakLies o) (trak_part.Id q.0) p tt cc

samples_lie : (o : Found) (c : Bool) (b : Found) (p : TrakPart) → In o b → cond c (Ok trak_part.Other) (mdia_at b >>= λ table. Ok (trak_part.Samples table)) ≡ Ok p → TrakLies o p
samples_lie o true b p i h = carried (TrakLies o) trak_part.Other p tt cc
samples_lie o false b p i h =
    let q = then_ok (mdia_at b) _ p h in
    carried (TrakLies o) (trak_part.Samples q.0) p (mdia_lies o b q.0 i q.1) cc

trak_part_lies : (o : Found) (k : TrakBox) (tracks : List MovieTrack) (seen : Seen) (b : Found) (p : TrakPart) → Stands o b → trak_part_as k tracks seen b ≡ Ok p → TrakLies o p
trak_part_lies o trak.Tkhd tracks seen b p s h = tkhd_lies o seen.tkhd tracks b p h
trak_part_lies o trak.Mdia tracks seen b p s h = samples_lie o seen.mdia b p (body_in o b s) h
trak_part_lies o trak.Other tracks seen b p s h = carried (TrakLies o) trak_part.Other p tt cc

tables_lie : (o : Found) (ps : List TrakPart) → All (TrakLies o) ps → All (TableLies o) (tables ps)
tables_lie o [] all = All-nil (TableLies o)
tables_lie o (trak_part.Id id ∷ ps) all = tables_lie o ps (All-tail (TrakLies o) (trak_part.Id id) ps all)
tables_lie o (trak_part.Samples table ∷ ps) all = All-cons (TableLies o) table (tables ps) (All-head (TrakLies o) (trak_part.Samples table) ps all) (tables_lie o ps (All-tail (TrakLies o) (trak_part.Samples table) ps all))
tables_lie o (trak_part.Other ∷ ps) all = tables_lie o ps (All-tail (TrakLies o) trak_part.Other ps all)

first_table : (o : Found) (ts : List Table) → All (TableLies o) ts → TableLies o (or_none (first ts))
first_table o [] all = table_lies o None tt
first_table o (t ∷ ts) all = All-head (TableLies o) t ts all

trak_lies : (o : Found) (tracks : List MovieTrack) (b : Found) (t : MovieTrack) → In o b → trak_at tracks b ≡ Ok t → TrackLies o t
unfolding trak_at
trak_lies o tracks b t i h =
    let p = then_ok _ (track_from b.place) t h in
    let q = then_ok (required (fault_at b.place NoTrackId) (first (ids p.0))) _ t p.2 in
    let parts = all_lie header_fault o (TrakLies o) (record { read = trak_part_at tracks; learn = saw; each = λ seen b p s eq. trak_part_lies o (trak_box b.kind) tracks seen b p s eq }) (record { tkhd = false; mdia = false }) (inside b) p.0 (inside_stands o b i) p.1 in
    let table = first_table o (tables p.0) (tables_lie o p.0 parts) in
    carried (TrackLies o) (track b.place q.0 (or_none (first (tables p.0)))) t (record { entries = table.entries; groups = table.groups }) cc

-- ---- a movie

abbrev MoovLies : Found → MoovPart → Type 0
MoovLies o (moov_part.Track t) = TrackLies o t
MoovLies o (moov_part.Defaults trexes) = Unit {0}
MoovLies o (moov_part.Pssh x) = SpanLies o x
MoovLies o moov_part.Other = Unit {0}

moov_part_lies : (o : Found) (k : MoovBox) (tracks : List MovieTrack) (b : Found) (p : MoovPart) → Stands o b → moov_part_as k tracks b ≡ Ok p → MoovLies o p
moov_part_lies o moov.Trak tracks b p s h =
    let g = not_else (nat_lt (length tracks) MAX_TRACKS) _ _ p h in
    let q = then_ok (trak_at tracks b) _ p g in
    carried (MoovLies o) (moov_part.Track q.0) p (trak_lies o tracks b q.0 (body_in o b s) q.1) cc
moov_part_lies o moov.Mvex tracks b p s h =
    let q = then_ok (mvex_at b) _ p h in
    carried (MoovLies o) (moov_part.Defaults q.0) p tt cc
moov_part_lies o moov.Pssh tracks b p s h = carried (MoovLies o) (moov_part.Pssh (span b)) p s cc
moov_part_lies o moov.Other tracks b p s h = carried (MoovLies o) moov_part.Other p tt cc

tracks_lie : (o : Found) (ps : List MoovPart) → All (MoovLies o) ps → All (TrackLies o) (tracks_of ps)
tracks_lie o [] all = All-nil (TrackLies o)
tracks_lie o (moov_part.Track t ∷ ps) all = All-cons (TrackLies o) t (tracks_of ps) (All-head (MoovLies o) (moov_part.Track t) ps all) (tracks_lie o ps (All-tail (MoovLies o) (moov_part.Track t) ps all))
tracks_lie o (moov_part.Defaults trexes ∷ ps) all = tracks_lie o ps (All-tail (MoovLies o) (moov_part.Defaults trexes) ps all)
tracks_lie o (moov_part.Pssh x ∷ ps) all = tracks_lie o ps (All-tail (MoovLies o) (moov_part.Pssh x) ps all)
tracks_lie o (moov_part.Other ∷ ps) all = tracks_lie o ps (All-tail (MoovLies o) moov_part.Other ps all)

moov_psshs_lie : (o : Found) (ps : List MoovPart) → All (MoovLies o) ps → All (SpanLies o) (moov_psshs ps)
moov_psshs_lie o [] all = All-nil (SpanLies o)
moov_psshs_lie o (moov_part.Track t ∷ ps) all = moov_psshs_lie o ps (All-tail (MoovLies o) (moov_part.Track t) ps all)
moov_psshs_lie o (moov_part.Defaults trexes ∷ ps) all = moov_psshs_lie o ps (All-tail (MoovLies o) (moov_part.Defaults trexes) ps all)
moov_psshs_lie o (moov_part.Pssh x ∷ ps) all = All-cons (SpanLies o) x (moov_psshs ps) (All-head (MoovLies o) (moov_part.Pssh x) ps all) (moov_psshs_lie o ps (All-tail (MoovLies o) (moov_part.Pssh x) ps all))
moov_psshs_lie o (moov_part.Other ∷ ps) all = moov_psshs_lie o ps (All-tail (MoovLies o) moov_part.Other ps all)

with_trex_lies : (o : Found) (trexes : List TrackTrex) (ts : List MovieTrack) → All (TrackLies o) ts → All (TrackLies o) (map (with_trex trexes) ts)
with_trex_lies o trexes ts all = All-map (TrackLies o) (with_trex trexes) ts (All-weaker (TrackLies o) (λ t. TrackLies o (with_trex trexes t)) (λ t l. record { entries = l.entries; groups = l.groups }) ts all)

moov_lies : (b : Found) (m : Movie) → moov_at b ≡ Ok m → MovieLies b m
unfolding moov_at
moov_lies b m h =
    let p = then_ok _ _ m h in
    let parts = all_lie header_fault b (MoovLies b) (record { read = moov_part_at; learn = with_track; each = λ tracks c p s eq. moov_part_lies b (moov_box c.kind) tracks c p s eq }) [] (inside b) p.0 (inside_stands b b (whole_in b)) p.1 in
    carried (MovieLies b) (record { place = b.place; tracks = map (with_trex (trexes_of p.0)) (tracks_of p.0); psshs = moov_psshs p.0 }) m
    (record { tracks = with_trex_lies b (trexes_of p.0) (tracks_of p.0) (tracks_lie b p.0 parts); psshs = moov_psshs_lie b p.0 parts }) cc

-- ---- a movie fragment

abbrev PartLies : Found → TrafPart → Type 0
PartLies o (traf_part.Head h) = Unit {0}
PartLies o (traf_part.Run r) = Unit {0}
PartLies o (traf_part.Placed k x) = SpanLies o x
PartLies o traf_part.Other = Unit {0}

part_lies : (o : Found) (k : TrafBox) (seen : Bool) (b : Found) (p : TrafPart) → Stands o b → part_as k seen b ≡ Ok p → PartLies o p
part_lies o traf.Tfhd true b p s h = carried (PartLies o) traf_part.Other p tt cc
part_lies o traf.Tfhd false b p s h =
    let q = then_ok (placed (fault_at b.place) (tfhd_fields b.place b.body)) _ p h in
    carried (PartLies o) (traf_part.Head q.0) p tt cc
part_lies o traf.Trun seen b p s h =
    let q = then_ok (placed (fault_at b.place) (trun_fields b.place b.body)) _ p h in
    carried (PartLies o) (traf_part.Run q.0) p tt cc
part_lies o traf.Other seen b p s h = carried (PartLies o) (traf_part.Placed b.kind (span b)) p s cc

span_if_lies : (o : Found) (c : Bool) (x : Span) → SpanLies o x → All (SpanLies o) (cond c (x ∷ []) [])
span_if_lies o true x l = All-cons (SpanLies o) x [] l (All-nil (SpanLies o))
span_if_lies o false x l = All-nil (SpanLies o)

spans_lie : (o : Found) (kind : List ℕ) (ps : List TrafPart) → All (PartLies o) ps → All (SpanLies o) (spans_of kind ps)
spans_lie o kind [] all = All-nil (SpanLies o)
spans_lie o kind (traf_part.Head h ∷ ps) all = spans_lie o kind ps (All-tail (PartLies o) (traf_part.Head h) ps all)
spans_lie o kind (traf_part.Run r ∷ ps) all = spans_lie o kind ps (All-tail (PartLies o) (traf_part.Run r) ps all)
spans_lie o kind (traf_part.Placed k x ∷ ps) all =
    All-append (SpanLies o) (span_if kind k x) (spans_of kind ps) (span_if_lies o (bytes_eq k kind) x (All-head (PartLies o) (traf_part.Placed k x) ps all)) (spans_lie o kind ps (All-tail (PartLies o) (traf_part.Placed k x) ps all))
spans_lie o kind (traf_part.Other ∷ ps) all = spans_lie o kind ps (All-tail (PartLies o) traf_part.Other ps all)

traf_lies : (o b : Found) (t : Traf) → In o b → traf_at b ≡ Ok t → TrafLies o t
unfolding traf_at
traf_lies o b t i h =
    let p = then_ok _ (traf_from b.place) t h in
    let q = then_ok (required (fault_at b.place NoTfhd) (first (heads p.0))) _ t p.2 in
    let parts = all_lie header_fault o (PartLies o) (record { read = part_at; learn = head_seen; each = λ seen b p s eq. part_lies o (traf_box b.kind) seen b p s eq }) false (inside b) p.0 (inside_stands o b i) p.1 in
    carried (TrafLies o) (record { place = b.place; tfhd = q.0; runs = runs p.0; senc = spans_of (codes "senc") p.0; saiz = spans_of (codes "saiz") p.0; saio = spans_of (codes "saio") p.0; sgpd = spans_of (codes "sgpd") p.0; sbgp = spans_of (codes "sbgp") p.0 }) t
    (record { senc = spans_lie o _ p.0 parts; saiz = spans_lie o _ p.0 parts; saio = spans_lie o _ p.0 parts; sgpd = spans_lie o _ p.0 parts; sbgp = spans_lie o _ p.0 parts }) cc

abbrev MoofPartLies : Found → MoofPart → Type 0
MoofPartLies o (moof_part.Fragment t) = TrafLies o t
MoofPartLies o (moof_part.Pssh x) = SpanLies o x
MoofPartLies o moof_part.Other = Unit {0}

moof_part_lies : (o : Found) (k : MoofBox) (b : Found) (p : MoofPart) → Stands o b → moof_part_as k b ≡ Ok p → MoofPartLies o p
moof_part_lies o moof.Traf b p s h =
    let q = then_ok (traf_at b) _ p h in
    carried (MoofPartLies o) (moof_part.Fragment q.0) p (traf_lies o b q.0 (body_in o b s) q.1) cc
moof_part_lies o moof.Pssh b p s h = carried (MoofPartLies o) (moof_part.Pssh (span b)) p s cc
moof_part_lies o moof.Other b p s h = carried (MoofPartLies o) moof_part.Other p tt cc

trafs_lie : (o : Found) (ps : List MoofPart) → All (MoofPartLies o) ps → All (TrafLies o) (trafs ps)
trafs_lie o [] all = All-nil (TrafLies o)
trafs_lie o (moof_part.Fragment t ∷ ps) all = All-cons (TrafLies o) t (trafs ps) (All-head (MoofPartLies o) (moof_part.Fragment t) ps all) (trafs_lie o ps (All-tail (MoofPartLies o) (moof_part.Fragment t) ps all))
trafs_lie o (moof_part.Pssh x ∷ ps) all = trafs_lie o ps (All-tail (MoofPartLies o) (moof_part.Pssh x) ps all)
trafs_lie o (moof_part.Other ∷ ps) all = trafs_lie o ps (All-tail (MoofPartLies o) moof_part.Other ps all)

psshs_lie : (o : Found) (ps : List MoofPart) → All (MoofPartLies o) ps → All (SpanLies o) (psshs ps)
psshs_lie o [] all = All-nil (SpanLies o)
psshs_lie o (moof_part.Fragment t ∷ ps) all = psshs_lie o ps (All-tail (MoofPartLies o) (moof_part.Fragment t) ps all)
psshs_lie o (moof_part.Pssh x ∷ ps) all = All-cons (SpanLies o) x (psshs ps) (All-head (MoofPartLies o) (moof_part.Pssh x) ps all) (psshs_lie o ps (All-tail (MoofPartLies o) (moof_part.Pssh x) ps all))
psshs_lie o (moof_part.Other ∷ ps) all = psshs_lie o ps (All-tail (MoofPartLies o) moof_part.Other ps all)

moof_lies : (b : Found) (m : Moof) → moof_at b ≡ Ok m → MoofLies b m
unfolding moof_at
moof_lies b m h =
    let p = then_ok _ _ m h in
    let parts = all_lie header_fault b (MoofPartLies b) (record { read = λ (none : Unit {0}) c. moof_part_at c; learn = λ none x. tt; each = λ none c p s eq. moof_part_lies b (moof_box c.kind) c p s eq }) tt (inside b) p.0 (inside_stands b b (whole_in b)) p.1 in
    carried (MoofLies b) (record { place = b.place; trafs = trafs p.0; psshs = psshs p.0 }) m (record { trafs = trafs_lie b p.0 parts; psshs = psshs_lie b p.0 parts }) cc

-- ---- the answers of the readers

pub movie_lies : (r : Result Movie FragFault) (b : Found) → GivesBox r (moov_at b) → IfOk r (MovieLies b)
movie_lies (Ok m) b h = moov_lies b m h
movie_lies (Err e) b h = tt

pub fragment_lies : (r : Result Moof FragFault) (b : Found) → GivesBox r (moof_at b) → IfOk r (MoofLies b)
fragment_lies (Ok m) b h = moof_lies b m h
fragment_lies (Err e) b h = tt
