-- The lists of a movie and of a fragment have together no more items than the box has bytes.
use Rattle.std.proofs.Common.{◌≡◌, ℕ, zero, suc, ◌+◌, ◌≤◌, Bool, true, false, cond, List, [], ◌∷◌, ◌++◌, length, map, take, drop, Option, Some, None, Result, Ok, Err, refl, ap, subst, arith}
use Rattle.std.specs.Prelude.{IfOk, nat_lt, ◌==◌, ◌||◌, find, codes, bytes_eq}
use Rattle.std.proofs.lemmas.Slice.Eq.{bytes_eq-Decides}
use Rattle.std.specs.Int.{w8, w32}
use Rattle.std.proofs.lemmas.List.{length-drop}
use Rattle.eme_types.specs.declared.limits.TheConstants.{MAX_TRACKS}
use Rattle.iso_boxes.specs.declared.walk.BoxFault.{BoxFault}
use Rattle.iso_boxes.specs.Walk.{Found, Walked, inside, walk}
use Rattle.iso_boxes.specs.Children.{◌>>=◌, each_knowing, if_any, ended, all_read, first_read, required, first, placed}
use Rattle.iso_boxes.specs.Reading.{yield, given, repeated, has}
use Rattle.iso_boxes.proofs.Walking.{not_err}
use Rattle.iso_boxes.proofs.Bounds.{Bounded, one, one_if, given_one, given_nothing, signed_takes, number_takes, number24_takes, yield_takes, bind_takes, field_then, named_takes, repeated_takes, weaker, few_of}
use Rattle.frag_boxes.specs.declared.fault.FragKind.{FragKind}
use Rattle.frag_boxes.specs.declared.fault.FragKind.TheVariants.{Short, NoSinf, NoTfhd, NoTrackId}
use Rattle.frag_boxes.specs.declared.fault.FragFault.{FragFault}
use Rattle.frag_boxes.specs.declared.records.Span.{Span}
use Rattle.frag_boxes.specs.declared.records.Trun.{Trun}
use Rattle.frag_boxes.specs.declared.records.Traf.{Traf}
use Rattle.frag_boxes.specs.declared.records.Moof.{Moof}
use Rattle.frag_boxes.specs.declared.records.SampleEntry.{SampleEntry}
use Rattle.frag_boxes.specs.declared.records.MovieTrack.{MovieTrack}
use Rattle.frag_boxes.specs.declared.records.Movie.{Movie}
use Rattle.frag_boxes.specs.declared.records.TrackTrex.{TrackTrex}
use Rattle.frag_boxes.specs.declared.kinds.TrafBox.{TrafBox}
use Rattle.frag_boxes.specs.declared.kinds.TrafBox.TheVariants as traf
use Rattle.frag_boxes.specs.declared.kinds.MoofBox.{MoofBox}
use Rattle.frag_boxes.specs.declared.kinds.MoofBox.TheVariants as moof
use Rattle.frag_boxes.specs.declared.moof.TrafPart.{TrafPart}
use Rattle.frag_boxes.specs.declared.moof.TrafPart.TheVariants as traf_part
use Rattle.frag_boxes.specs.declared.moof.MoofPart.{MoofPart}
use Rattle.frag_boxes.specs.declared.moof.MoofPart.TheVariants as moof_part
use Rattle.frag_boxes.specs.declared.table.Table.{Table}
use Rattle.frag_boxes.specs.declared.table.EntryBox.{EntryBox}
use Rattle.frag_boxes.specs.declared.table.EntryBox.TheVariants as entry
use Rattle.frag_boxes.specs.declared.table.StblBox.{StblBox}
use Rattle.frag_boxes.specs.declared.table.StblBox.TheVariants as stbl
use Rattle.frag_boxes.specs.declared.table.StblPart.{StblPart}
use Rattle.frag_boxes.specs.declared.table.StblPart.TheVariants as stbl_part
use Rattle.frag_boxes.specs.declared.moov.TrakBox.{TrakBox}
use Rattle.frag_boxes.specs.declared.moov.TrakBox.TheVariants as trak
use Rattle.frag_boxes.specs.declared.moov.TrakPart.{TrakPart}
use Rattle.frag_boxes.specs.declared.moov.TrakPart.TheVariants as trak_part
use Rattle.frag_boxes.specs.declared.moov.MoovBox.{MoovBox}
use Rattle.frag_boxes.specs.declared.moov.MoovBox.TheVariants as moov
use Rattle.frag_boxes.specs.declared.moov.MoovPart.{MoovPart}
use Rattle.frag_boxes.specs.declared.moov.MoovPart.TheVariants as moov_part
use Rattle.frag_boxes.specs.Fields.{u8, u24, u32, i32, item, has_items, items, trun_fields, tfhd_fields, stsd_fields, stsz_fields, audio_version}
use Rattle.frag_boxes.specs.Moof.{GivesBox, fault_at, header_fault, span, traf_box, part_as, part_at, head_seen, heads, runs, spans_of, traf_from, traf_at, moof_box, moof_part_as, moof_part_at, trafs, psshs, moof_at}
use Rattle.frag_boxes.specs.Table.{is, behind, somes, entry_box, sinf_part, sinfs_at, protected_at, entry_as, entry_at, enough, entries_in, entries_at, stsd_at, stbl_box, stbl_part_as, stbl_part_at, stsd_seen, entries_of, groups, or_nothing, stbl_at, or_none, minf_at, mdia_at}
use Rattle.frag_boxes.specs.Moov.{Seen, tkhd_at, trak_box, trak_part_as, trak_part_at, saw, ids, tables, track, track_from, trak_at, mvex_at, with_trex, moov_box, moov_part_as, moov_part_at, with_track, tracks_of, moov_psshs, trexes_of, moov_at}
use Rattle.frag_boxes.specs.Counts.{count_of, entry_items, track_items, movie_items, run_items, traf_items, moof_items}
use Rattle.frag_boxes.proofs.Taking.{then_ok, not_else, body_len, walk_took, total, counted_total, Small, each_small, all_small, some_size}

-- ---- a run

u32_takes : Bounded {E = FragKind} one u32
u32_takes = number_takes Short w32 1 (omega arith)

abbrev flags_set : ℕ → ℕ
flags_set flags = one_if (has 0x100 flags) + (one_if (has 0x200 flags) + (one_if (has 0x400 flags) + one_if (has 0x800 flags)))

-- the flags of a run's fields of each sample give one byte at least for each that is set
item_takes : (flags : ℕ) → Bounded (λ i. flags_set flags) (item flags)
unfolding item
item_takes flags =
    let a = one_if (has 0x100 flags) in
    let b = one_if (has 0x200 flags) in
    let c = one_if (has 0x400 flags) in
    let d = one_if (has 0x800 flags) in
    bind_takes a (λ y. b + (c + d)) (λ y. a + (b + (c + d))) (given (has 0x100 flags) u32) _ (given_one (has 0x100 flags) u32 u32_takes) (λ duration.
    bind_takes b (λ y. c + d) (λ y. b + (c + d)) (given (has 0x200 flags) u32) _ (given_one (has 0x200 flags) u32 u32_takes) (λ size.
    bind_takes c (λ y. d) (λ y. c + d) (given (has 0x400 flags) u32) _ (given_one (has 0x400 flags) u32 u32_takes) (λ sample_flags.
    named_takes (λ o. d) (λ y. d) (given (has 0x800 flags) u32) _ (given_one (has 0x800 flags) u32 u32_takes) (λ composition. refl)) (λ y. omega arith)) (λ y. omega arith)) (λ y. omega arith)

one_of : (a b c d : Bool) → (a || b || c || d) ≡ true → 1 ≤ one_if a + (one_if b + (one_if c + one_if d))
one_of true b c d h = omega arith
one_of false true c d h = omega arith
one_of false false true d h = omega arith
one_of false false false true h = omega arith
one_of false false false false h = absurd cc

one_item_takes : (flags : ℕ) → has_items flags ≡ true → Bounded one (item flags)
one_item_takes flags h =
    let o = one_of (has 0x100 flags) (has 0x200 flags) (has 0x400 flags) (has 0x800 flags) h in
    weaker (λ i. flags_set flags) one (item flags) (item_takes flags) (λ i. omega (arith, o))

items_take : (c : Bool) (count flags : ℕ) → (c ≡ true → Bounded one (item flags)) → Bounded length (cond c (repeated count (item flags)) (yield []))
items_take true count flags takes = repeated_takes count (item flags) (takes refl)
items_take false count flags takes = yield_takes length [] refl

-- a run has no more items than its box has bytes
trun_takes : (place : ℕ) → Bounded run_items (trun_fields place)
unfolding trun_fields
trun_takes place =
    field_then run_items u8 _ (number_takes Short w8 0 (omega arith)) (λ version.
    field_then run_items u24 _ (number24_takes Short) (λ flags.
    field_then run_items u32 _ (number_takes Short w32 0 (omega arith)) (λ count.
    field_then run_items (given (has 0x1 flags) i32) _ (given_nothing (has 0x1 flags) i32 (signed_takes Short)) (λ offset.
    field_then run_items (given (has 0x4 flags) u32) _ (given_nothing (has 0x4 flags) u32 (number_takes Short w32 0 (omega arith))) (λ first_flags.
    named_takes length run_items (items count flags) _ (items_take (has_items flags) count flags (one_item_takes flags)) (λ xs. refl))))))

-- ---- sample entries

some_small : {A : Type 0} (o : Option A) → some_size o ≤ 1
some_small None = omega arith
some_small (Some x) = omega arith

somes_total : {A : Type 0} (os : List (Option A)) → length (somes os) ≡ total some_size os
somes_total [] = refl
somes_total (None ∷ os) = omega (arith, somes_total os)
somes_total (Some x ∷ os) = omega (arith, somes_total os)

inside_took : (b : Found) → count_of body_len (inside b).boxes ≤ length b.body
inside_took b = walk_took b.body b.body_place false

behind_took : (n : ℕ) (b : Found) (w : Walked) → behind n b ≡ Ok w → count_of body_len w.boxes ≤ length b.body
behind_took n b w h =
    let p = not_err (nat_lt (length b.body) n) (fault_at b.place Short) (Ok (walk (drop n b.body) (b.body_place + n) false)) w h in
    let e : walk (drop n b.body) (b.body_place + n) false ≡ w = cc in
    let t = walk_took (drop n b.body) (b.body_place + n) false in
    subst (λ (w : Walked). count_of body_len w.boxes ≤ length b.body) e (omega (arith, t, length-drop n b.body))

sinfs_few : (place : ℕ) (w : Walked) (e : SampleEntry) → sinfs_at place w ≡ Ok e → entry_items e ≤ count_of body_len w.boxes
sinfs_few place w e h =
    let p = then_ok (all_read header_fault (λ b. Ok (sinf_part b)) w) _ e h in
    let small = all_small header_fault some_size (λ (none : Unit {0}) b. Ok (sinf_part b)) (λ none x. tt) (λ none b x eq. let s = some_small x in omega (arith, s)) tt w p.0 p.1 in
    let q = not_err (length (somes p.0) == 0) (fault_at place NoSinf) (Ok (record { place = place; sinfs = somes p.0 })) e p.2 in
    let same : record { place = place; sinfs = somes p.0 } ≡ e = cc in
    omega (arith, small, somes_total p.0, ap entry_items same)

protected_few : (n : ℕ) (b : Found) (e : SampleEntry) → protected_at n b ≡ Ok e → entry_items e ≤ length b.body
unfolding protected_at
protected_few n b e h =
    let p = then_ok (behind n b) _ e h in
    let few = sinfs_few b.place p.0 e p.2 in
    let took = behind_took n b p.0 p.1 in
    omega (arith, few, took)

entry_few_as : (k : EntryBox) (b : Found) (e : SampleEntry) → entry_as k b ≡ Ok e → entry_items e ≤ length b.body
entry_few_as entry.Encv b e h = protected_few 78 b e h
entry_few_as entry.Enca b e h = let p = then_ok (placed (fault_at b.place) (audio_version b.body)) _ e h in protected_few 28 b e p.2
entry_few_as entry.OtherEnc b e h = absurd cc
entry_few_as entry.Clear b e h =
    let same : record { place = b.place; sinfs = [] } ≡ e = cc in
    omega (arith, ap entry_items same)

abbrev entry_size : SampleEntry → ℕ
entry_size e = 1 + entry_items e

entry_small : Small entry_size (λ (none : Unit {0}) b. entry_at b)
entry_small none b e h = let few = entry_few_as (entry_box b.kind) b e h in omega (arith, few)

take_took : (n : ℕ) (bs : List Found) → count_of body_len (take n bs) ≤ count_of body_len bs
take_took zero bs = omega arith
take_took (suc n) [] = omega arith
take_took (suc n) (b ∷ bs) = let t = take_took n bs in omega (arith, t)

entries_few : (place count : ℕ) (w : Walked) (es : List SampleEntry) → entries_in place count w ≡ Ok es → count_of entry_items es ≤ count_of body_len w.boxes
unfolding entries_in
entries_few place count w es h =
    let p = then_ok (each_knowing (λ (none : Unit {0}) b. entry_at b) (λ none x. tt) tt (take count w.boxes)) _ es h in
    let q = then_ok (enough place count w) _ es p.2 in
    let same : p.0 ≡ es = cc in
    let small = each_small entry_size (λ (none : Unit {0}) b. entry_at b) (λ none x. tt) entry_small tt (take count w.boxes) p.0 p.1 in
    let t = take_took count w.boxes in
    omega (arith, small, t, counted_total entry_items p.0, ap (count_of entry_items) same)

stsd_few : (b : Found) (es : List SampleEntry) → stsd_at b ≡ Ok es → count_of entry_items es ≤ length b.body
unfolding stsd_at entries_at
stsd_few b es h =
    let p = then_ok (placed (fault_at b.place) (stsd_fields b.body)) _ es h in
    let q = then_ok (behind 8 b) _ es p.2 in
    let few = entries_few b.place p.0 q.0 es q.2 in
    let took = behind_took 8 b q.0 q.1 in
    omega (arith, few, took)

-- ---- a sample table

abbrev table_items : Table → ℕ
table_items t = count_of entry_items t.entries + length t.groups

abbrev stbl_size : StblPart → ℕ
stbl_size (stbl_part.Entries es) = count_of entry_items es
stbl_size (stbl_part.Group x) = 1
stbl_size stbl_part.Other = 0

pub same_size : {A : Type 0} (size : A → ℕ) (x y : A) (n : ℕ) → size x ≤ n → x ≡ y → size y ≤ n
same_size {A = A} size x y n le e = subst (λ (z : A). size z ≤ n) e le

stbl_small_as : (k : StblBox) (seen : Bool) (b : Found) (p : StblPart) → stbl_part_as k seen b ≡ Ok p → stbl_size p ≤ 1 + length b.body
stbl_small_as stbl.Stsd true b p h = same_size stbl_size stbl_part.Other p _ (omega arith) cc
stbl_small_as stbl.Stsd false b p h =
    let q = then_ok (stsd_at b) _ p h in
    let few = stsd_few b q.0 q.1 in
    same_size stbl_size (stbl_part.Entries q.0) p _ (omega (arith, few)) cc
stbl_small_as stbl.Stsz seen b p h =
    let q = then_ok (placed (fault_at b.place) (stsz_fields b.body)) _ p h in
    same_size stbl_size stbl_part.Other p _ (omega arith) cc
stbl_small_as stbl.Sgpd seen b p h = same_size stbl_size (stbl_part.Group (span b)) p _ (omega arith) cc
stbl_small_as stbl.Other seen b p h = same_size stbl_size stbl_part.Other p _ (omega arith) cc

first_few : {A : Type 0} (inner : A → ℕ) (ls : List (List A)) → count_of inner (or_nothing (first ls)) ≤ total (count_of inner) ls
first_few inner [] = omega arith
first_few inner (l ∷ ls) = omega arith

stbl_total : (ps : List StblPart) → total (count_of entry_items) (entries_of ps) + length (groups ps) ≡ total stbl_size ps
stbl_total [] = refl
stbl_total (stbl_part.Entries es ∷ ps) = omega (arith, stbl_total ps)
stbl_total (stbl_part.Group x ∷ ps) = omega (arith, stbl_total ps)
stbl_total (stbl_part.Other ∷ ps) = omega (arith, stbl_total ps)

stbl_few : (b : Found) (t : Table) → stbl_at b ≡ Ok t → table_items t ≤ length b.body
unfolding stbl_at
stbl_few b t h =
    let p = then_ok _ _ t h in
    let small = all_small header_fault stbl_size stbl_part_at stsd_seen (λ seen b p e. stbl_small_as (stbl_box b.kind) seen b p e) false (inside b) p.0 p.1 in
    let few = first_few entry_items (entries_of p.0) in
    let took = inside_took b in
    same_size table_items (record { entries = or_nothing (first (entries_of p.0)); groups = groups p.0 }) t _ (omega (arith, small, few, took, stbl_total p.0)) cc

abbrev in_some : {A : Type 0} → (A → ℕ) → Option A → ℕ
in_some size None = 0
in_some size (Some x) = size x

found_at : {E A : Type 0} (size : A → ℕ) (test : Found → Bool) (read : Found → Result A E) → ((b : Found) (x : A) → read b ≡ Ok x → size x ≤ length b.body)
    → (c : Bool) (b : Found) (bs : List Found) (o : Option A) → (if_any read (find test bs) ≡ Ok o → in_some size o ≤ count_of body_len bs) → if_any read (cond c (Some b) (find test bs)) ≡ Ok o → in_some size o ≤ 1 + length b.body + count_of body_len bs
found_at size test read few true b bs o more h =
    let p = then_ok (read b) _ o h in
    let le = few b p.0 p.1 in
    same_size (in_some size) (Some p.0) o _ (omega (arith, le)) cc
found_at size test read few false b bs o more h = let le = more h in omega (arith, le)

found_few : {E A : Type 0} (size : A → ℕ) (test : Found → Bool) (read : Found → Result A E) → ((b : Found) (x : A) → read b ≡ Ok x → size x ≤ length b.body)
    → (bs : List Found) (o : Option A) → if_any read (find test bs) ≡ Ok o → in_some size o ≤ count_of body_len bs
found_few size test read few [] o h = same_size (in_some size) None o _ (omega arith) cc
found_few size test read few (b ∷ bs) o h = found_at size test read few (test b) b bs o (found_few size test read few bs o) h

-- the first box of a type, read, has no more items than the box around it has bytes
first_read_few : {E A : Type 0} (header : BoxFault → E) (size : A → ℕ) (test : Found → Bool) (read : Found → Result A E) → ((b : Found) (x : A) → read b ≡ Ok x → size x ≤ length b.body)
    → (b : Found) (o : Option A) → first_read header test read (inside b) ≡ Ok o → in_some size o ≤ length b.body
unfolding first_read
first_read_few header size test read few b o h =
    let p = then_ok (if_any read (find test (inside b).boxes)) _ o h in
    let q = then_ok (ended header (inside b).fault) _ o p.2 in
    let same : p.0 ≡ o = cc in
    let le = found_few size test read few (inside b).boxes p.0 p.1 in
    let took = inside_took b in
    same_size (in_some size) p.0 o _ (omega (arith, le, took)) same

or_none_few : (o : Option Table) → table_items (or_none o) ≤ in_some table_items o
or_none_few None = omega arith
or_none_few (Some t) = omega arith

minf_few : (b : Found) (t : Table) → minf_at b ≡ Ok t → table_items t ≤ length b.body
unfolding minf_at
minf_few b t h =
    let p = then_ok (first_read header_fault (is (codes "stbl")) stbl_at (inside b)) _ t h in
    let few = first_read_few header_fault table_items (is (codes "stbl")) stbl_at stbl_few b p.0 p.1 in
    let le = or_none_few p.0 in
    same_size table_items (or_none p.0) t _ (omega (arith, few, le)) cc

mdia_few : (b : Found) (t : Table) → mdia_at b ≡ Ok t → table_items t ≤ length b.body
unfolding mdia_at
mdia_few b t h =
    let p = then_ok (first_read header_fault (is (codes "minf")) minf_at (inside b)) _ t h in
    let few = first_read_few header_fault table_items (is (codes "minf")) minf_at minf_few b p.0 p.1 in
    let le = or_none_few p.0 in
    same_size table_items (or_none p.0) t _ (omega (arith, few, le)) cc

-- ---- a track

abbrev trak_size : TrakPart → ℕ
trak_size (trak_part.Id id) = 0
trak_size (trak_part.Samples table) = table_items table
trak_size trak_part.Other = 0

tkhd_small : (c : Bool) (tracks : List MovieTrack) (b : Found) (p : TrakPart) → cond c (Ok trak_part.Other) (tkhd_at tracks b >>= λ id. Ok (trak_part.Id id)) ≡ Ok p → trak_size p ≤ 1 + length b.body
tkhd_small true tracks b p h = same_size trak_size trak_part.Other p _ (omega arith) cc
tkhd_small false tracks b p h =
    let q = then_ok (tkhd_at tracks b) _ p h in
    same_size trak_size (trak_part.Id q.0) p _ (omega arith) cc

mdia_small : (c : Bool) (b : Found) (p : TrakPart) → cond c (Ok trak_part.Other) (mdia_at b >>= λ table. Ok (trak_part.Samples table)) ≡ Ok p → trak_size p ≤ 1 + length b.body
mdia_small true b p h = same_size trak_size trak_part.Other p _ (omega arith) cc
mdia_small false b p h =
    let q = then_ok (mdia_at b) _ p h in
    let few = mdia_few b q.0 q.1 in
    same_size trak_size (trak_part.Samples q.0) p _ (omega (arith, few)) cc

trak_small_as : (k : TrakBox) (tracks : List MovieTrack) (seen : Seen) (b : Found) (p : TrakPart) → trak_part_as k tracks seen b ≡ Ok p → trak_size p ≤ 1 + length b.body
trak_small_as trak.Tkhd tracks seen b p h = tkhd_small seen.tkhd tracks b p h
trak_small_as trak.Mdia tracks seen b p h = mdia_small seen.mdia b p h
trak_small_as trak.Other tracks seen b p h = same_size trak_size trak_part.Other p _ (omega arith) cc

first_table_few : (ls : List Table) → table_items (or_none (first ls)) ≤ total table_items ls
first_table_few [] = omega arith
first_table_few (t ∷ ts) = omega arith

tables_total : (ps : List TrakPart) → total table_items (tables ps) ≡ total trak_size ps
tables_total [] = refl
tables_total (trak_part.Id id ∷ ps) = omega (arith, tables_total ps)
tables_total (trak_part.Samples table ∷ ps) = omega (arith, tables_total ps)
tables_total (trak_part.Other ∷ ps) = omega (arith, tables_total ps)

trak_few : (tracks : List MovieTrack) (b : Found) (t : MovieTrack) → trak_at tracks b ≡ Ok t → track_items t ≤ length b.body
unfolding trak_at
trak_few tracks b t h =
    let p = then_ok _ (track_from b.place) t h in
    let q = then_ok (required (fault_at b.place NoTrackId) (first (ids p.0))) _ t p.2 in
    let small = all_small header_fault trak_size (trak_part_at tracks) saw (λ seen b p e. trak_small_as (trak_box b.kind) tracks seen b p e) (record { tkhd = false; mdia = false }) (inside b) p.0 p.1 in
    let few = first_table_few (tables p.0) in
    let took = inside_took b in
    same_size track_items (track b.place q.0 (or_none (first (tables p.0)))) t _ (omega (arith, small, few, took, tables_total p.0)) cc

-- ---- a movie

abbrev moov_size : MoovPart → ℕ
moov_size (moov_part.Track t) = 1 + track_items t
moov_size (moov_part.Defaults trexes) = 0
moov_size (moov_part.Pssh x) = 1
moov_size moov_part.Other = 0

moov_small_as : (k : MoovBox) (tracks : List MovieTrack) (b : Found) (p : MoovPart) → moov_part_as k tracks b ≡ Ok p → moov_size p ≤ 1 + length b.body
moov_small_as moov.Trak tracks b p h =
    let g = not_else (nat_lt (length tracks) MAX_TRACKS) _ _ p h in
    let q = then_ok (trak_at tracks b) _ p g in
    let few = trak_few tracks b q.0 q.1 in
    same_size moov_size (moov_part.Track q.0) p _ (omega (arith, few)) cc
moov_small_as moov.Mvex tracks b p h =
    let q = then_ok (mvex_at b) _ p h in
    same_size moov_size (moov_part.Defaults q.0) p _ (omega arith) cc
moov_small_as moov.Pssh tracks b p h = same_size moov_size (moov_part.Pssh (span b)) p _ (omega arith) cc
moov_small_as moov.Other tracks b p h = same_size moov_size moov_part.Other p _ (omega arith) cc

-- with their trex the tracks have the same lists
with_trex_same : (trexes : List TrackTrex) (ts : List MovieTrack) → count_of track_items (map (with_trex trexes) ts) ≡ count_of track_items ts
with_trex_same trexes [] = refl
with_trex_same trexes (t ∷ ts) = omega (arith, with_trex_same trexes ts)

moov_total : (ps : List MoovPart) → count_of track_items (tracks_of ps) + length (moov_psshs ps) ≡ total moov_size ps
moov_total [] = refl
moov_total (moov_part.Track t ∷ ps) = omega (arith, moov_total ps)
moov_total (moov_part.Defaults trexes ∷ ps) = omega (arith, moov_total ps)
moov_total (moov_part.Pssh x ∷ ps) = omega (arith, moov_total ps)
moov_total (moov_part.Other ∷ ps) = omega (arith, moov_total ps)

pub moov_few : (b : Found) (m : Movie) → moov_at b ≡ Ok m → movie_items m ≤ length b.body
unfolding moov_at
moov_few b m h =
    let p = then_ok _ _ m h in
    let small = all_small header_fault moov_size moov_part_at with_track (λ tracks b p e. moov_small_as (moov_box b.kind) tracks b p e) [] (inside b) p.0 p.1 in
    let took = inside_took b in
    same_size movie_items (record { place = b.place; tracks = map (with_trex (trexes_of p.0)) (tracks_of p.0); psshs = moov_psshs p.0 }) m _ (omega (arith, small, took, moov_total p.0, with_trex_same (trexes_of p.0) (tracks_of p.0))) cc

-- ---- a movie fragment

abbrev traf_size : TrafPart → ℕ
traf_size (traf_part.Head h) = 0
traf_size (traf_part.Run r) = 1 + run_items r
traf_size (traf_part.Placed k x) = 1
traf_size traf_part.Other = 0

placed_ok : {E K A : Type 0} (at : K → E) (r : Result (A × List ℕ) K) (x : A) → placed at r ≡ Ok x → (y : A × List ℕ) × (r ≡ Ok y) × (y.0 ≡ x)
placed_ok at (Ok y) x h = (y, refl, cc)
placed_ok at (Err k) x h = absurd cc

run_few : (b : Found) (r : Trun) → placed (fault_at b.place) (trun_fields b.place b.body) ≡ Ok r → run_items r ≤ length b.body
run_few b r h =
    let p = placed_ok (fault_at b.place) (trun_fields b.place b.body) r h in
    same_size run_items p.0.0 r _ (few_of _ _ _ ((trun_takes b.place).bound b.body p.0.0 p.0.1 p.1)) p.2

traf_small_as : (k : TrafBox) (seen : Bool) (b : Found) (p : TrafPart) → part_as k seen b ≡ Ok p → traf_size p ≤ 1 + length b.body
traf_small_as traf.Tfhd true b p h = same_size traf_size traf_part.Other p _ (omega arith) cc
traf_small_as traf.Tfhd false b p h =
    let q = then_ok (placed (fault_at b.place) (tfhd_fields b.place b.body)) _ p h in
    same_size traf_size (traf_part.Head q.0) p _ (omega arith) cc
traf_small_as traf.Trun seen b p h =
    let q = then_ok (placed (fault_at b.place) (trun_fields b.place b.body)) _ p h in
    let few = run_few b q.0 q.1 in
    same_size traf_size (traf_part.Run q.0) p _ (omega (arith, few)) cc
traf_small_as traf.Other seen b p h = same_size traf_size (traf_part.Placed b.kind (span b)) p _ (omega arith) cc

-- a box has one type, so it stands in one list at most
abbrev times : List ℕ → List ℕ → ℕ
times kind k = one_if (bytes_eq k kind)

last_kind : (c : Bool) → one_if c ≤ 1
last_kind true = omega arith
last_kind false = omega arith

other_at : (c : Bool) (a k : List ℕ) (rest : List ℕ → ℕ) → (c ≡ true → k ≡ a) → rest a ≡ 0 → rest k ≤ 1 → one_if c + rest k ≤ 1
other_at true a k rest same none few = omega (arith, ap rest (same refl), none)
other_at false a k rest same none few = omega (arith, few)

other_kind : (a k : List ℕ) (rest : List ℕ → ℕ) → rest a ≡ 0 → rest k ≤ 1 → times a k + rest k ≤ 1
other_kind a k rest none few = other_at (bytes_eq k a) a k rest (bytes_eq-Decides k a).0 none few

one_kind : (k : List ℕ) → times (codes "senc") k + (times (codes "saiz") k + (times (codes "saio") k + (times (codes "sgpd") k + times (codes "sbgp") k))) ≤ 1
one_kind k =
    other_kind (codes "senc") k (λ k. times (codes "saiz") k + (times (codes "saio") k + (times (codes "sgpd") k + times (codes "sbgp") k))) refl
    (other_kind (codes "saiz") k (λ k. times (codes "saio") k + (times (codes "sgpd") k + times (codes "sbgp") k)) refl
    (other_kind (codes "saio") k (λ k. times (codes "sgpd") k + times (codes "sbgp") k) refl
    (other_kind (codes "sgpd") k (times (codes "sbgp")) refl (last_kind _))))

placed_at : (c : Bool) (x : Span) (rest : List Span) → length (cond c (x ∷ []) [] ++ rest) ≡ one_if c + length rest
placed_at true x rest = omega arith
placed_at false x rest = omega arith

abbrev many : List ℕ → List TrafPart → ℕ
many kind ps = length (spans_of kind ps)

placed_more : (kind k : List ℕ) (x : Span) (ps : List TrafPart) → many kind (traf_part.Placed k x ∷ ps) ≡ times kind k + many kind ps
placed_more kind k x ps = placed_at (bytes_eq k kind) x (spans_of kind ps)

abbrev all_lists : List TrafPart → ℕ
all_lists ps = count_of run_items (runs ps) + many (codes "senc") ps + many (codes "saiz") ps + many (codes "saio") ps + many (codes "sgpd") ps + many (codes "sbgp") ps

traf_total : (ps : List TrafPart) → all_lists ps ≤ total traf_size ps
traf_total [] = omega arith
traf_total (traf_part.Head h ∷ ps) = let t = traf_total ps in omega (arith, t)
traf_total (traf_part.Run r ∷ ps) = let t = traf_total ps in omega (arith, t)
traf_total (traf_part.Placed k x ∷ ps) =
    let t = traf_total ps in
    let n = one_kind k in
    omega (arith, t, n, placed_more (codes "senc") k x ps, placed_more (codes "saiz") k x ps, placed_more (codes "saio") k x ps, placed_more (codes "sgpd") k x ps, placed_more (codes "sbgp") k x ps)
traf_total (traf_part.Other ∷ ps) = let t = traf_total ps in omega (arith, t)

traf_few : (b : Found) (t : Traf) → traf_at b ≡ Ok t → traf_items t ≤ length b.body
unfolding traf_at
traf_few b t h =
    let p = then_ok _ (traf_from b.place) t h in
    let q = then_ok (required (fault_at b.place NoTfhd) (first (heads p.0))) _ t p.2 in
    let small = all_small header_fault traf_size part_at head_seen (λ seen b p e. traf_small_as (traf_box b.kind) seen b p e) false (inside b) p.0 p.1 in
    let few = traf_total p.0 in
    let took = inside_took b in
    same_size traf_items (record { place = b.place; tfhd = q.0; runs = runs p.0; senc = spans_of (codes "senc") p.0; saiz = spans_of (codes "saiz") p.0; saio = spans_of (codes "saio") p.0; sgpd = spans_of (codes "sgpd") p.0; sbgp = spans_of (codes "sbgp") p.0 }) t _ (omega (arith, small, took, few)) cc

abbrev moof_size : MoofPart → ℕ
moof_size (moof_part.Fragment t) = 1 + traf_items t
moof_size (moof_part.Pssh x) = 1
moof_size moof_part.Other = 0

moof_small_as : (k : MoofBox) (b : Found) (p : MoofPart) → moof_part_as k b ≡ Ok p → moof_size p ≤ 1 + length b.body
moof_small_as moof.Traf b p h =
    let q = then_ok (traf_at b) _ p h in
    let few = traf_few b q.0 q.1 in
    same_size moof_size (moof_part.Fragment q.0) p _ (omega (arith, few)) cc
moof_small_as moof.Pssh b p h = same_size moof_size (moof_part.Pssh (span b)) p _ (omega arith) cc
moof_small_as moof.Other b p h = same_size moof_size moof_part.Other p _ (omega arith) cc

moof_total : (ps : List MoofPart) → count_of traf_items (trafs ps) + length (psshs ps) ≡ total moof_size ps
moof_total [] = refl
moof_total (moof_part.Fragment t ∷ ps) = omega (arith, moof_total ps)
moof_total (moof_part.Pssh x ∷ ps) = omega (arith, moof_total ps)
moof_total (moof_part.Other ∷ ps) = omega (arith, moof_total ps)

pub moof_few : (b : Found) (m : Moof) → moof_at b ≡ Ok m → moof_items m ≤ length b.body
unfolding moof_at
moof_few b m h =
    let p = then_ok _ _ m h in
    let small = all_small header_fault moof_size (λ (none : Unit {0}) b. moof_part_at b) (λ none x. tt) (λ none b p e. moof_small_as (moof_box b.kind) b p e) tt (inside b) p.0 p.1 in
    let took = inside_took b in
    same_size moof_items (record { place = b.place; trafs = trafs p.0; psshs = psshs p.0 }) m _ (omega (arith, small, took, moof_total p.0)) cc

-- ---- the answers of the readers

pub few_in_movie : (r : Result Movie FragFault) (b : Found) → GivesBox r (moov_at b) → IfOk r (λ m. movie_items m ≤ length b.body)
few_in_movie (Ok m) b h = moov_few b m h
few_in_movie (Err e) b h = tt

pub few_in_fragment : (r : Result Moof FragFault) (b : Found) → GivesBox r (moof_at b) → IfOk r (λ m. moof_items m ≤ length b.body)
few_in_fragment (Ok m) b h = moof_few b m h
few_in_fragment (Err e) b h = tt
