-- The boxes of a file do not overlap, so what is held of them is no more than the file.
use Rattle.std.proofs.Common.{◌≡◌, ℕ, ◌+◌, ◌≤◌, Bool, true, false, List, [], ◌∷◌, ◌++◌, length, Option, Some, None, Result, Ok, Err, refl, subst, arith}
use Rattle.std.specs.Prelude.{IfOk, drop, if◌then◌else◌}
use Rattle.std.specs.List.{All, sum_by}
use Rattle.std.proofs.lemmas.List.Elements.{All-nil, All-cons, All-head, All-tail}
use Rattle.std.proofs.lemmas.List.Sums.{sum_by-cons, sum_by-append}
use Rattle.eme_types.specs.declared.media.InitData.{InitData}
use Rattle.eme_types.specs.declared.media.Fragment.{Fragment}
use Rattle.eme_types.specs.declared.media.Media.{Media}
use Rattle.iso_boxes.specs.Walk.{Found, Walked, walk}
use Rattle.iso_boxes.specs.Children.{each_knowing, ended, all_knowing}
use Rattle.frag_boxes.specs.Moov.{moov_at}
use Rattle.frag_boxes.specs.Moof.{moof_at}
use Rattle.frag_boxes.specs.Extents.{movie_bytes}
use Rattle.frag_boxes.proofs.Taking.{then_ok, total, walk_took, all_small}
use Rattle.frag_boxes.proofs.Few.{same_size}
use Rattle.frag_boxes.proofs.Extents.{moov_takes, moof_takes}
use Rattle.sample_aux.specs.declared.fragment.Room.{Room}
use Rattle.sample_aux.specs.Bounds.{init_bytes, fragment_init_bytes, FragmentHasFewSubs}
use Rattle.sample_aux.specs.Checked.{movie_passes, movie_protection}
use Rattle.sample_aux.specs.Resolve.{known_resolved}
use Rattle.sample_aux.proofs.Bounds.{inits_short, fragment_inits}
use Rattle.sample_aux.proofs.FewSubs.{fragment_few}
use Rattle.track_media.specs.declared.kind.MediaFault.{MediaFault}
use Rattle.track_media.specs.declared.top.TopBox.{TopBox}
use Rattle.track_media.specs.declared.top.TopBox.TheVariants as top
use Rattle.track_media.specs.declared.top.KnownMovie.{KnownMovie}
use Rattle.track_media.specs.declared.top.Seen.{Seen}
use Rattle.track_media.specs.declared.top.TopPart.{TopPart}
use Rattle.track_media.specs.declared.top.TopPart.TheVariants as part
use Rattle.track_media.specs.Refusals.{header_fault, frag_fault, aux_fault, told}
use Rattle.track_media.specs.Mp4.{movie_at, fragment_at, top_box, moov_part, moof_part, top_part_as, top_part_at, movie_in, fragments_in, seen_from, movie_inits, with_first, media_of_parts, followed_by, mp4_media}
use Rattle.track_media.specs.SampleList.{list_media}
use Rattle.track_media.specs.File.{GivesMedia, media_of}
use Rattle.track_media.specs.Held.{is_list, HoldsNoMore}

pub told_ok : {A E : Type 0} (f : E → MediaFault) (r : Result A E) (x : A) → told f r ≡ Ok x → r ≡ Ok x
told_ok {A = A} {E = E} f (Ok y) x h =
    let same : y ≡ x = cc in
    subst (λ (z : A). (let r : Result A E = Ok y in r) ≡ Ok z) same refl
told_ok f (Err e) x h = absurd cc

-- ---- a box

abbrev top_size : TopPart → ℕ
top_size (part.Movie m) = movie_bytes m.movie
top_size (part.Fragment f) = 1 + fragment_init_bytes f
top_size part.Other = 0

abbrev movie_size : KnownMovie → ℕ
movie_size m = movie_bytes m.movie

movie_small : (file : List ℕ) (b : Found) (m : KnownMovie) → movie_at file b ≡ Ok m → movie_size m ≤ length b.body
unfolding movie_at
movie_small file b m h =
    let p = then_ok (told frag_fault (moov_at b)) _ m h in
    let q = then_ok (told aux_fault (movie_passes file p.0)) _ m p.2 in
    let few = moov_takes b p.0 (told_ok frag_fault (moov_at b) p.0 p.1) in
    same_size movie_size (record { movie = p.0; protection = movie_protection file p.0 }) m _ few cc

fragment_small : (file : List ℕ) (movie : KnownMovie) (room : Room) (b : Found) (f : Fragment) → fragment_at file movie room b ≡ Ok f → fragment_init_bytes f ≤ length b.body
unfolding fragment_at
fragment_small file movie room b f h =
    let p = then_ok (told frag_fault (moof_at b)) _ f h in
    let took = moof_takes b p.0 (told_ok frag_fault (moof_at b) p.0 p.1) in
    let few = (fragment_inits file movie.protection p.0 room f (told_ok aux_fault (known_resolved file movie.protection p.0 room) f p.2)).1 in
    omega (arith, took, few)

moov_small : (file : List ℕ) (o : Option KnownMovie) (b : Found) (p : TopPart) → moov_part file o b ≡ Ok p → top_size p ≤ 1 + length b.body
moov_small file None b p h =
    let q = then_ok (movie_at file b) _ p h in
    let few = movie_small file b q.0 q.1 in
    same_size top_size (part.Movie q.0) p _ (omega (arith, few)) cc
moov_small file (Some m) b p h = absurd cc

moof_small : (file : List ℕ) (o : Option KnownMovie) (room : Room) (b : Found) (p : TopPart) → moof_part file o room b ≡ Ok p → top_size p ≤ 1 + length b.body
moof_small file None room b p h = absurd cc
moof_small file (Some m) room b p h =
    let q = then_ok (fragment_at file m room b) _ p h in
    let few = fragment_small file m room b q.0 q.1 in
    same_size top_size (part.Fragment q.0) p _ (omega (arith, few)) cc

top_small : (k : TopBox) (file : List ℕ) (seen : Seen) (b : Found) (p : TopPart) → top_part_as k file seen b ≡ Ok p → top_size p ≤ 1 + length b.body
top_small top.Moov file seen b p h = moov_small file seen.movie b p h
top_small top.Moof file seen b p h = moof_small file seen.movie seen.room b p h
top_small top.Other file seen b p h = same_size top_size part.Other p _ (omega arith) cc

-- ---- the file

abbrev in_movie : Option KnownMovie → ℕ
in_movie None = 0
in_movie (Some m) = movie_size m

abbrev held : List Fragment → ℕ
held fs = length fs + sum_by fragment_init_bytes fs

parts_held : (ps : List TopPart) → in_movie (movie_in ps) + held (fragments_in ps) ≤ total top_size ps
parts_held [] = omega arith
parts_held (part.Movie m ∷ ps) = let more = parts_held ps in omega (arith, more)
parts_held (part.Fragment f ∷ ps) = let more = parts_held ps in omega (arith, more, sum_by-cons fragment_init_bytes f (fragments_in ps))
parts_held (part.Other ∷ ps) = let more = parts_held ps in omega (arith, more)

movie_inits_few : (file : List ℕ) (o : Option KnownMovie) → sum_by init_bytes (movie_inits file o) ≤ in_movie o
movie_inits_few file None = omega arith
movie_inits_few file (Some m) = inits_short file m.movie.psshs

first_held : (is : List InitData) (fs : List Fragment) → held (with_first is fs) ≤ sum_by init_bytes is + held fs
first_held is [] = omega arith
first_held is (f ∷ fs) =
    let g : Fragment = record f { inits = is ++ f.inits } in
    omega (arith, sum_by-append init_bytes is f.inits, sum_by-cons fragment_init_bytes g fs, sum_by-cons fragment_init_bytes f fs)

-- ---- subsamples

abbrev TopFew : ℕ → TopPart → Type 0
TopFew n (part.Movie m) = Unit {0}
TopFew n (part.Fragment f) = FragmentHasFewSubs n f
TopFew n part.Other = Unit {0}

carried : {A : Type 0} (P : A → Type 0) (x y : A) → P x → x ≡ y → P y
carried P x y p e = subst P e p

moov_few : (file : List ℕ) (o : Option KnownMovie) (b : Found) (p : TopPart) → moov_part file o b ≡ Ok p → TopFew (length file) p
moov_few file None b p h =
    let q = then_ok (movie_at file b) _ p h in
    carried (TopFew (length file)) (part.Movie q.0) p tt cc
moov_few file (Some m) b p h = absurd cc

fragment_subs : (file : List ℕ) (movie : KnownMovie) (room : Room) (b : Found) (f : Fragment) → fragment_at file movie room b ≡ Ok f → FragmentHasFewSubs (length file) f
unfolding fragment_at
fragment_subs file movie room b f h =
    let p = then_ok (told frag_fault (moof_at b)) _ f h in
    fragment_few file movie.protection p.0 room f (told_ok aux_fault (known_resolved file movie.protection p.0 room) f p.2)

moof_few : (file : List ℕ) (o : Option KnownMovie) (room : Room) (b : Found) (p : TopPart) → moof_part file o room b ≡ Ok p → TopFew (length file) p
moof_few file None room b p h = absurd cc
moof_few file (Some m) room b p h =
    let q = then_ok (fragment_at file m room b) _ p h in
    carried (TopFew (length file)) (part.Fragment q.0) p (fragment_subs file m room b q.0 q.1) cc

top_few : (k : TopBox) (file : List ℕ) (seen : Seen) (b : Found) (p : TopPart) → top_part_as k file seen b ≡ Ok p → TopFew (length file) p
top_few top.Moov file seen b p h = moov_few file seen.movie b p h
top_few top.Moof file seen b p h = moof_few file seen.movie seen.room b p h
top_few top.Other file seen b p h = carried (TopFew (length file)) part.Other p tt cc

each_few : (file : List ℕ) (before : List TopPart) (bs : List Found) (ps : List TopPart) → each_knowing (λ before b. top_part_at file (seen_from before) b) followed_by before bs ≡ Ok ps → All (TopFew (length file)) ps
unfolding each_knowing
each_few file before [] ps h = carried (All (TopFew (length file))) [] ps (All-nil (TopFew (length file))) cc
each_few file before (b ∷ bs) ps h =
    let p = then_ok (top_part_at file (seen_from before) b) _ ps h in
    let q = then_ok (each_knowing (λ before b. top_part_at file (seen_from before) b) followed_by (followed_by before p.0) bs) _ ps p.2 in
    let few = All-cons (TopFew (length file)) p.0 q.0 (top_few (top_box b.kind) file (seen_from before) b p.0 p.1) (each_few file (followed_by before p.0) bs q.0 q.1) in
    carried (All (TopFew (length file))) (p.0 ∷ q.0) ps few cc

parts_few : (file : List ℕ) (w : Walked) (ps : List TopPart) → all_knowing header_fault (λ before b. top_part_at file (seen_from before) b) followed_by [] w ≡ Ok ps → All (TopFew (length file)) ps
unfolding all_knowing
parts_few file w ps h =
    let p = then_ok (each_knowing (λ before b. top_part_at file (seen_from before) b) followed_by [] w.boxes) _ ps h in
    let q = then_ok (ended header_fault w.fault) _ ps p.2 in
    carried (All (TopFew (length file))) p.0 ps (each_few file [] w.boxes p.0 p.1) cc

fragments_few : (n : ℕ) (ps : List TopPart) → All (TopFew n) ps → All (FragmentHasFewSubs n) (fragments_in ps)
fragments_few n [] all = All-nil (FragmentHasFewSubs n)
fragments_few n (part.Movie m ∷ ps) all = fragments_few n ps (All-tail (TopFew n) (part.Movie m) ps all)
fragments_few n (part.Fragment f ∷ ps) all = All-cons (FragmentHasFewSubs n) f (fragments_in ps) (All-head (TopFew n) (part.Fragment f) ps all) (fragments_few n ps (All-tail (TopFew n) (part.Fragment f) ps all))
fragments_few n (part.Other ∷ ps) all = fragments_few n ps (All-tail (TopFew n) part.Other ps all)

first_few : (n : ℕ) (is : List InitData) (fs : List Fragment) → All (FragmentHasFewSubs n) fs → All (FragmentHasFewSubs n) (with_first is fs)
first_few n is [] all = all
first_few n is (f ∷ fs) all =
    let g : Fragment = record f { inits = is ++ f.inits } in
    All-cons (FragmentHasFewSubs n) g fs (All-head (FragmentHasFewSubs n) f fs all) (All-tail (FragmentHasFewSubs n) f fs all)

-- ---- the media

file_holds : (file : List ℕ) (m : Media) → mp4_media file ≡ Ok m → HoldsNoMore file m
unfolding mp4_media
file_holds file m h =
    let read = λ (before : List TopPart) (b : Found). top_part_at file (seen_from before) b in
    let p = then_ok (all_knowing header_fault read followed_by [] (walk file 0 true)) _ m h in
    let small = all_small header_fault top_size read followed_by (λ before b x e. top_small (top_box b.kind) file (seen_from before) b x e) [] (walk file 0 true) p.0 p.1 in
    let took = walk_took file 0 true in
    let parts = parts_held p.0 in
    let movie = movie_inits_few file (movie_in p.0) in
    let first = first_held (movie_inits file (movie_in p.0)) (fragments_in p.0) in
    let few = first_few (length file) (movie_inits file (movie_in p.0)) (fragments_in p.0) (fragments_few (length file) p.0 (parts_few file (walk file 0 true) p.0 p.1)) in
    let same : media_of_parts file p.0 ≡ m = cc in
    subst (HoldsNoMore file) same (record { inits = omega (arith, small, took, parts, movie, first); subs = few })

-- ---- the answer of parse_media

by_form : (c : Bool) (list mp4 : Result Media MediaFault) (m : Media) → (if c then list else mp4) ≡ Ok m → c ≡ false → mp4 ≡ Ok m
by_form true list mp4 m h e = absurd cc
by_form false list mp4 m h e = h

pub media_hold : (r : Result Media MediaFault) (file : List ℕ) → GivesMedia r (media_of file) → IfOk r (λ m. is_list file ≡ false → HoldsNoMore file m)
unfolding media_of
media_hold (Ok m) file h = λ e. file_holds file m (by_form (is_list file) (list_media (drop 7 file)) (mp4_media file) m h e)
media_hold (Err e) file h = tt
