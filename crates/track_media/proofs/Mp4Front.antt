-- An MP4 file is read box by box up to its movie, and then fragment by fragment, and what comes of it may be fed.
use Rattle.std.proofs.Common.{◌≡◌, ℕ, ◌+◌, ◌-◌, ◌≤◌, true, List, [], ◌∷◌, ◌++◌, Option, Some, None, Result, Ok, Err, refl, sym, ap, subst, ◌∙◌, arith, lit≤}
use Rattle.std.specs.Option.{option_map}
use Rattle.std.specs.List.{list_all, sum_by}
use Rattle.std.proofs.lemmas.List.{length-map}
use Rattle.std.proofs.lemmas.List.Sums.{sum_by-cons}
use Rattle.eme_types.specs.declared.media.Fragment.{Fragment}
use Rattle.eme_types.specs.declared.media.InitData.{InitData}
use Rattle.eme_types.specs.declared.limits.TheConstants.{MAX_SAMPLES, MAX_SAMPLE_BYTES}
use Rattle.eme_types.specs.Fed.{IsFed, are_known, is_joined, are_well_formed, fragment_samples, fragment_bytes}
use Rattle.iso_boxes.specs.declared.walk.BoxFault.{BoxFault}
use Rattle.iso_boxes.specs.Walk.{Found, Walked, walk}
use Rattle.iso_boxes.specs.Children.{◌>>=◌, each_knowing, ended, all_knowing, onward, read_before}
use Rattle.frag_boxes.specs.Moov.{moov_at}
use Rattle.frag_boxes.specs.Moof.{moof_at}
use Rattle.frag_boxes.specs.Tracks.{track_id, track_ids, HasTracks}
use Rattle.frag_boxes.proofs.Taking.{then_ok}
use Rattle.frag_boxes.proofs.Tracks.{tracks_in_movie}
use Rattle.sample_aux.specs.declared.fragment.Room.{Room}
use Rattle.sample_aux.specs.Inits.{inits_of}
use Rattle.sample_aux.specs.Checked.{protected_ids, movie_passes, movie_protection}
use Rattle.sample_aux.proofs.Known.{ids_same}
use Rattle.sample_aux.specs.Resolve.{known_resolved}
use Rattle.sample_aux.proofs.Within.{FragmentWithin, fragment_within}
use Rattle.track_media.specs.declared.kind.MediaFault.{MediaFault}
use Rattle.track_media.specs.declared.top.TopBox.{TopBox}
use Rattle.track_media.specs.declared.top.TopBox.TheVariants as top
use Rattle.track_media.specs.declared.top.KnownMovie.{KnownMovie}
use Rattle.track_media.specs.declared.top.Seen.{Seen}
use Rattle.track_media.specs.declared.top.TopPart.{TopPart}
use Rattle.track_media.specs.declared.top.TopPart.TheVariants as part
use Rattle.track_media.specs.Refusals.{header_fault, frag_fault, aux_fault, told}
use Rattle.track_media.specs.Mp4.{movie_at, fragment_at, top_box, top_part_as, top_part_at, movie_in, fragments_in, room_behind, seen_from, with_first, media_of_parts, followed_by, mp4_media}
use Rattle.track_media.specs.Rests.{less_room}
use Rattle.track_media.specs.Front.{Coming, Front, refusal, mp4_front_of, mp4_front, to_come}
use Rattle.track_media.specs.Rests.{fragment_in, behind_movie, room_after, coming_of, boxes_coming, walk_coming, movie_coming, whole_room, opened_by, without_movie, boxes_opened, walk_opened}
use Rattle.track_media.proofs.TopParts.{fragments_end, movie_gained, less, same_tests, same_sum}
use Rattle.track_media.proofs.Held.{told_ok}

-- what is kept of the movie's protection is that of its tracks
abbrev pub HasIds : KnownMovie → Type 0
HasIds m = protected_ids m.protection ≡ track_ids m.movie

abbrev top_read : List ℕ → List TopPart → Found → Result TopPart MediaFault
top_read file before b = top_part_at file (seen_from before) b

-- the boxes up to the end
abbrev closing : Option BoxFault → Result (List TopPart) MediaFault → Result (List TopPart) MediaFault
closing end r = r >>= λ xs. (ended header_fault end >>= λ u. Ok xs)

abbrev pushed : TopPart → Result (List TopPart) MediaFault → Result (List TopPart) MediaFault
pushed p r = r >>= λ xs. Ok (p ∷ xs)

same_end : (end : Option BoxFault) (p : TopPart) (r : Result (List TopPart) MediaFault) → refusal (closing end (pushed p r)) ≡ refusal (closing end r)
same_end None p (Ok xs) = refl
same_end (Some f) p (Ok xs) = refl
same_end end p (Err e) = refl

end_alone : (end : Option BoxFault) → refusal (closing end (Ok [])) ≡ option_map header_fault end
end_alone None = refl
end_alone (Some f) = refl

-- ---- behind the movie

-- what comes are the fragments of these parts, and then this rule is broken
pub record Follows (c : Coming) (ps : List TopPart) (broken : Option MediaFault) : Type 0 where
  pub fragments_are : fragments_in ps ≡ c.fragments
  pub ends : broken ≡ c.broken

first_stays : (before : List TopPart) (p : TopPart) (m : KnownMovie) → movie_in before ≡ Some m → movie_in (before ++ p ∷ []) ≡ Some m
first_stays [] p m e = absurd cc
first_stays (part.Movie n ∷ ps) p m e = e
first_stays (part.Fragment f ∷ ps) p m e = first_stays ps p m e
first_stays (part.Other ∷ ps) p m e = first_stays ps p m e

same_room : (a b c d : ℕ) → a ≡ c → b ≡ d → (let r : Room = record { samples = a; bytes = b } in r) ≡ record { samples = c; bytes = d }
same_room a b c d e f = cc

room_more : (before : List TopPart) (p : TopPart) → room_after (room_behind (fragments_in before)) (fragment_in p) ≡ room_behind (fragments_in (before ++ p ∷ []))
room_more before (part.Movie m) = ap room_behind (sym (fragments_end before (part.Movie m)))
room_more before (part.Fragment f) = same_room _ _ _ _ (less MAX_SAMPLES fragment_samples (fragments_in before) f) (less MAX_SAMPLE_BYTES fragment_bytes (fragments_in before) f) ∙ ap room_behind (sym (fragments_end before (part.Fragment f)))
room_more before part.Other = ap room_behind (sym (fragments_end before part.Other))

one_follows : (end : Option BoxFault) (r : Result TopPart MediaFault) (ps : TopPart → List TopPart) (each : TopPart → Result (List TopPart) MediaFault) (c : Option Fragment → Coming)
    → ((p : TopPart) → Follows (c (fragment_in p)) (ps p) (refusal (closing end (each p))))
    → Follows (coming_of (r >>= λ p. Ok (fragment_in p)) c) (onward r ps) (refusal (closing end (r >>= λ p. pushed p (each p))))
one_follows end (Err e) ps each c h = record { fragments_are = refl; ends = refl }
one_follows end (Ok (part.Movie m)) ps each c h = let k = h (part.Movie m) in record { fragments_are = k.fragments_are; ends = same_end end (part.Movie m) (each (part.Movie m)) ∙ k.ends }
one_follows end (Ok (part.Fragment f)) ps each c h = let k = h (part.Fragment f) in record { fragments_are = ap (λ (fs : List Fragment). f ∷ fs) k.fragments_are; ends = same_end end (part.Fragment f) (each (part.Fragment f)) ∙ k.ends }
one_follows end (Ok part.Other) ps each c h = let k = h part.Other in record { fragments_are = k.fragments_are; ends = same_end end part.Other (each part.Other) ∙ k.ends }

boxes_follow : (file : List ℕ) (m : KnownMovie) (end : Option BoxFault) (before : List TopPart) (bs : List Found) → movie_in before ≡ Some m
    → Follows (boxes_coming file m end (room_behind (fragments_in before)) bs) (read_before (top_read file) followed_by before bs) (refusal (closing end (each_knowing (top_read file) followed_by before bs)))
unfolding boxes_coming read_before each_knowing
boxes_follow file m end before [] e = record { fragments_are = refl; ends = end_alone end }
boxes_follow file m end before (b ∷ bs) e =
    let room = room_behind (fragments_in before) in
    let ps = λ (p : TopPart). read_before (top_read file) followed_by (followed_by before p) bs in
    let each = λ (p : TopPart). each_knowing (top_read file) followed_by (followed_by before p) bs in
    let c = λ (o : Option Fragment). boxes_coming file m end (room_after room o) bs in
    let here = one_follows end (top_part_at file (record { movie = Some m; room = room }) b) ps each c (λ p.
    subst (λ (r : Room). Follows (boxes_coming file m end r bs) (ps p) (refusal (closing end (each p)))) (sym (room_more before p)) (boxes_follow file m end (followed_by before p) bs (first_stays before p m e))) in
    subst (λ (o : Option KnownMovie). Follows (coming_of (behind_movie file m room b) c) (onward (top_part_at file (record { movie = o; room = room }) b) ps) (refusal (closing end (top_part_at file (record { movie = o; room = room }) b >>= λ p. pushed p (each p))))) (sym e) here

-- ---- before the movie

no_fragment : (k : TopBox) (file : List ℕ) (b : Found) (f : Fragment) → top_part_as k file (seen_from []) b ≡ Ok (part.Fragment f) → ⊥
no_fragment top.Moov file b f e = let p = then_ok (movie_at file b) _ (part.Fragment f) e in let h = p.2 in cc
no_fragment top.Moof file b f e = cc
no_fragment top.Other file b f e = cc

same_front : (t : List ℕ) (f h : List Fragment) (b c : Option MediaFault) → f ≡ h → b ≡ c → (let r : Result Front MediaFault = Ok (record { tracks = t; coming = record { fragments = f; broken = b } }) in r) ≡ Ok (record { tracks = t; coming = record { fragments = h; broken = c } })
same_front t f h b c d e = cc

abbrev front_at : List ℕ → Option BoxFault → Result (List TopPart) MediaFault → List TopPart → Result Front MediaFault
front_at file end each ps = mp4_front_of file (refusal (closing end each)) ps

at_movie : (file : List ℕ) (m : KnownMovie) (end : Option BoxFault) (bs : List Found) (ps : List TopPart) (each : Result (List TopPart) MediaFault) → Follows (boxes_coming file m end whole_room bs) ps (refusal (closing end each))
    → front_at file end (pushed (part.Movie m) each) (part.Movie m ∷ ps) ≡ Ok (record { tracks = track_ids m.movie; coming = movie_coming true file (Some m) whole_room (record { boxes = bs; fault = end }) })
at_movie file m end bs ps each k =
    same_front _ _ _ _ _ (ap (with_first (inits_of file m.movie.psshs)) k.fragments_are) (same_end end (part.Movie m) each ∙ k.ends)

at_other : (file : List ℕ) (end : Option BoxFault) (ps : List TopPart) (each : Result (List TopPart) MediaFault) → front_at file end (pushed part.Other each) (part.Other ∷ ps) ≡ front_at file end each ps
at_other file end ps each = ap (λ (broken : Option MediaFault). mp4_front_of file broken (part.Other ∷ ps)) (same_end end part.Other each)

one_opened : (file : List ℕ) (end : Option BoxFault) (bs : List Found) (r : Result TopPart MediaFault) (ps : TopPart → List TopPart) (each : TopPart → Result (List TopPart) MediaFault) (more : Result Front MediaFault)
    → ((f : Fragment) → r ≡ Ok (part.Fragment f) → ⊥)
    → ((m : KnownMovie) → Follows (boxes_coming file m end whole_room bs) (ps (part.Movie m)) (refusal (closing end (each (part.Movie m)))))
    → front_at file end (each part.Other) (ps part.Other) ≡ more
    → front_at file end (r >>= λ p. pushed p (each p)) (onward r ps) ≡ (r >>= opened_by file (record { boxes = bs; fault = end }) more)
one_opened file end bs (Err e) ps each more none movie other = refl
one_opened file end bs (Ok (part.Movie m)) ps each more none movie other = at_movie file m end bs (ps (part.Movie m)) (each (part.Movie m)) (movie m)
one_opened file end bs (Ok (part.Fragment f)) ps each more none movie other = absurd (none f refl)
one_opened file end bs (Ok part.Other) ps each more none movie other = at_other file end (ps part.Other) (each part.Other) ∙ other

no_box : (file : List ℕ) (end : Option BoxFault) → front_at file end (Ok []) [] ≡ without_movie end
no_box file None = refl
no_box file (Some f) = refl

same_seen : (m n : Option KnownMovie) (fs gs : List Fragment) → m ≡ n → fs ≡ gs → (let s : Seen = record { movie = m; room = room_behind fs } in s) ≡ record { movie = n; room = room_behind gs }
same_seen m n fs gs e f = cc

boxes_open : (file : List ℕ) (end : Option BoxFault) (before : List TopPart) (bs : List Found) → movie_in before ≡ None → fragments_in before ≡ []
    → front_at file end (each_knowing (top_read file) followed_by before bs) (read_before (top_read file) followed_by before bs) ≡ boxes_opened file end bs
unfolding boxes_opened read_before each_knowing
boxes_open file end before [] none empty = no_box file end
boxes_open file end before (b ∷ bs) none empty =
    let ps = λ (p : TopPart). read_before (top_read file) followed_by (followed_by before p) bs in
    let each = λ (p : TopPart). each_knowing (top_read file) followed_by (followed_by before p) bs in
    let seen : seen_from [] ≡ seen_from before = sym (same_seen (movie_in before) None (fragments_in before) [] none empty) in
    let movie = λ (m : KnownMovie).
    let room : room_behind (fragments_in (followed_by before (part.Movie m))) ≡ whole_room = ap room_behind (fragments_end before (part.Movie m) ∙ empty) in
    subst (λ (r : Room). Follows (boxes_coming file m end r bs) (ps (part.Movie m)) (refusal (closing end (each (part.Movie m))))) room (boxes_follow file m end (followed_by before (part.Movie m)) bs (movie_gained before m none)) in
    let other = boxes_open file end (followed_by before part.Other) bs (other_movie before none) (fragments_end before part.Other ∙ empty) in
    let here = one_opened file end bs (top_part_at file (seen_from []) b) ps each (boxes_opened file end bs) (λ f e. no_fragment (top_box b.kind) file b f e) movie other in
    subst (λ (s : Seen). front_at file end (top_part_at file s b >>= λ p. pushed p (each p)) (onward (top_part_at file s b) ps) ≡ (top_part_at file (seen_from []) b >>= opened_by file (record { boxes = bs; fault = end }) (boxes_opened file end bs))) seen here
  where
    other_movie : (before : List TopPart) → movie_in before ≡ None → movie_in (before ++ part.Other ∷ []) ≡ None
    other_movie [] e = refl
    other_movie (part.Movie m ∷ ps) e = absurd cc
    other_movie (part.Fragment f ∷ ps) e = other_movie ps e
    other_movie (part.Other ∷ ps) e = other_movie ps e

same_refusal : (file : List ℕ) (r : Result (List TopPart) MediaFault) → refusal (r >>= λ parts. Ok (media_of_parts file parts)) ≡ refusal r
same_refusal file (Ok ps) = refl
same_refusal file (Err e) = refl

pub mp4_front_is : (file : List ℕ) → mp4_front file ≡ walk_opened file (walk file 0 true)
unfolding mp4_front mp4_media all_knowing
mp4_front_is file =
    let w = walk file 0 true in
    ap (λ (broken : Option MediaFault). mp4_front_of file broken (read_before (top_read file) followed_by [] w.boxes)) (same_refusal file (closing w.fault (each_knowing (top_read file) followed_by [] w.boxes)))
    ∙ boxes_open file w.fault [] w.boxes refl refl

-- ---- what comes may be fed

-- what comes of a movie, inside a room
pub record ComingFed (m : KnownMovie) (room : Room) (fs : List Fragment) : Type 0 where
  pub known : list_all (are_known (protected_ids m.protection)) fs ≡ true
  pub joined : list_all is_joined fs ≡ true
  pub formed : list_all are_well_formed fs ≡ true
  pub samples : sum_by fragment_samples fs ≤ room.samples
  pub bytes : sum_by fragment_bytes fs ≤ room.bytes

none_fed : (m : KnownMovie) (room : Room) → ComingFed m room []
none_fed m room = record { known = refl; joined = refl; formed = refl; samples = omega arith; bytes = omega arith }

less_sum : (n s room : ℕ) → n ≤ room → s ≤ room - n → n + s ≤ room
less_sum n s room a b = omega (arith, a, b)

one_fed : (m : KnownMovie) (room : Room) (f : Fragment) (fs : List Fragment) → FragmentWithin m.protection room f → ComingFed m (less_room room f) fs → ComingFed m room (f ∷ fs)
one_fed m room f fs w c = record {
  known = rw (w.known, c.known) refl;
  joined = rw (w.joined, c.joined) refl;
  formed = rw (w.formed, c.formed) refl;
  samples = rw (sum_by-cons fragment_samples f fs) (less_sum _ _ _ w.samples c.samples);
  bytes = rw (sum_by-cons fragment_bytes f fs) (less_sum _ _ _ w.bytes c.bytes);
}

fragment_here : (file : List ℕ) (m : KnownMovie) (room : Room) (b : Found) (f : Fragment) → fragment_at file m room b ≡ Ok f → FragmentWithin m.protection room f
unfolding fragment_at
fragment_here file m room b f h =
    let p = then_ok (told frag_fault (moof_at b)) _ f h in
    fragment_within file m.protection p.0 room f (told_ok aux_fault (known_resolved file m.protection p.0 room) f p.2)

part_here : (k : TopBox) (file : List ℕ) (m : KnownMovie) (room : Room) (b : Found) (f : Fragment) → top_part_as k file (record { movie = Some m; room = room }) b ≡ Ok (part.Fragment f) → FragmentWithin m.protection room f
part_here top.Moov file m room b f e = absurd cc
part_here top.Moof file m room b f e =
    let p = then_ok (fragment_at file m room b) _ (part.Fragment f) e in
    let h = p.2 in
    let same : p.0 ≡ f = cc in
    fragment_here file m room b f (subst (λ (g : Fragment). fragment_at file m room b ≡ Ok g) same p.1)
part_here top.Other file m room b f e = absurd cc

only_fragment : (p : TopPart) (f : Fragment) → fragment_in p ≡ Some f → p ≡ part.Fragment f
only_fragment (part.Movie m) f e = absurd cc
only_fragment (part.Fragment g) f e = cc
only_fragment part.Other f e = absurd cc

box_here : (file : List ℕ) (m : KnownMovie) (room : Room) (b : Found) (f : Fragment) → behind_movie file m room b ≡ Ok (Some f) → FragmentWithin m.protection room f
box_here file m room b f e =
    let p = then_ok (top_part_at file (record { movie = Some m; room = room }) b) _ (Some f) e in
    let h = p.2 in
    let some : fragment_in p.0 ≡ Some f = cc in
    part_here (top_box b.kind) file m room b f (subst (λ (q : TopPart). top_part_at file (record { movie = Some m; room = room }) b ≡ Ok q) (only_fragment p.0 f some) p.1)

coming_fed : (m : KnownMovie) (room : Room) (r : Result (Option Fragment) MediaFault) (c : Option Fragment → Coming) → ((f : Fragment) → r ≡ Ok (Some f) → FragmentWithin m.protection room f)
    → ((o : Option Fragment) → ComingFed m (room_after room o) (c o).fragments) → ComingFed m room (coming_of r c).fragments
coming_fed m room (Ok None) c one more = more None
coming_fed m room (Ok (Some f)) c one more = one_fed m room f (c (Some f)).fragments (one f refl) (more (Some f))
coming_fed m room (Err e) c one more = none_fed m room

boxes_fed : (file : List ℕ) (m : KnownMovie) (end : Option BoxFault) (room : Room) (bs : List Found) → ComingFed m room (boxes_coming file m end room bs).fragments
unfolding boxes_coming
boxes_fed file m end room [] = none_fed m room
boxes_fed file m end room (b ∷ bs) =
    coming_fed m room (behind_movie file m room b) (λ (o : Option Fragment). boxes_coming file m end (room_after room o) bs) (λ f e. box_here file m room b f e) (λ o. boxes_fed file m end (room_after room o) bs)

movie_facts : (file : List ℕ) (b : Found) (m : KnownMovie) → movie_at file b ≡ Ok m → HasTracks m.movie × HasIds m
unfolding movie_at
movie_facts file b m h =
    let p = then_ok (told frag_fault (moov_at b)) _ m h in
    let q = then_ok (told aux_fault (movie_passes file p.0)) _ m p.2 in
    let known : KnownMovie = record { movie = p.0; protection = movie_protection file p.0 } in
    let facts : HasTracks known.movie × HasIds known = (tracks_in_movie (Ok p.0) b (told_ok frag_fault (moov_at b) p.0 p.1), ids_same file p.0.tracks) in
    subst (λ (n : KnownMovie). HasTracks n.movie × HasIds n) (let e : known ≡ m = cc in e) facts

movie_here : (k : TopBox) (file : List ℕ) (b : Found) (m : KnownMovie) → top_part_as k file (seen_from []) b ≡ Ok (part.Movie m) → HasTracks m.movie × HasIds m
movie_here top.Moov file b m e =
    let p = then_ok (movie_at file b) _ (part.Movie m) e in
    let h = p.2 in
    let same : p.0 ≡ m = cc in
    movie_facts file b m (subst (λ (n : KnownMovie). movie_at file b ≡ Ok n) same p.1)
movie_here top.Moof file b m e = absurd cc
movie_here top.Other file b m e = absurd cc

no_media : IsFed (record { tracks = []; fragments = [] })
no_media = record { few = lit≤ tt; distinct = refl; known = refl; joined = refl; formed = refl; samples = lit≤ tt; bytes = lit≤ tt }

-- initialization data changes no part
movie_fed : (is : List InitData) (m : KnownMovie) (fs : List Fragment) → HasTracks m.movie → HasIds m → ComingFed m whole_room fs → IsFed (record { tracks = track_ids m.movie; fragments = with_first is fs })
movie_fed is m fs tracks ids c =
    let known : list_all (are_known (track_ids m.movie)) fs ≡ true = subst (λ (ts : List ℕ). list_all (are_known ts) fs ≡ true) ids c.known in
    let samples : sum_by fragment_samples (with_first is fs) ≤ MAX_SAMPLES = rw (same_sum fragment_samples (λ f is. refl) is fs) c.samples in
    let bytes : sum_by fragment_bytes (with_first is fs) ≤ MAX_SAMPLE_BYTES = rw (same_sum fragment_bytes (λ f is. refl) is fs) c.bytes in
    record {
      few = omega (arith, tracks.few, length-map m.movie.tracks track_id);
      distinct = tracks.distinct;
      known = same_tests (are_known (track_ids m.movie)) (λ f is. refl) is fs known;
      joined = same_tests is_joined (λ f is. refl) is fs c.joined;
      formed = same_tests are_well_formed (λ f is. refl) is fs c.formed;
      samples = samples;
      bytes = bytes;
    }

fed_front : (x f : Front) → IsFed (to_come x) → (let r : Result Front MediaFault = Ok x in r) ≡ Ok f → IsFed (to_come f)
fed_front x f fed e = subst (λ (y : Front). IsFed (to_come y)) (let h : x ≡ f = cc in h) fed

one_opened_fed : (file : List ℕ) (w : Walked) (r : Result TopPart MediaFault) (more : Result Front MediaFault)
    → ((m : KnownMovie) → r ≡ Ok (part.Movie m) → HasTracks m.movie × HasIds m) → ((f : Front) → more ≡ Ok f → IsFed (to_come f)) → (f : Front) → (r >>= opened_by file w more) ≡ Ok f → IsFed (to_come f)
one_opened_fed file w (Ok (part.Movie m)) more movie rest f e =
    let facts = movie m refl in
    fed_front _ f (movie_fed (inits_of file m.movie.psshs) m (walk_coming file m whole_room w).fragments facts.0 facts.1 (boxes_fed file m w.fault whole_room w.boxes)) e
one_opened_fed file w (Ok (part.Fragment g)) more movie rest f e = rest f e
one_opened_fed file w (Ok part.Other) more movie rest f e = rest f e
one_opened_fed file w (Err fault) more movie rest f e = absurd cc

boxes_opened_fed : (file : List ℕ) (end : Option BoxFault) (bs : List Found) (f : Front) → boxes_opened file end bs ≡ Ok f → IsFed (to_come f)
unfolding boxes_opened
boxes_opened_fed file None [] f e = fed_front _ f no_media e
boxes_opened_fed file (Some fault) [] f e = absurd cc
boxes_opened_fed file end (b ∷ bs) f e =
    one_opened_fed file (record { boxes = bs; fault = end }) (top_part_at file (seen_from []) b) (boxes_opened file end bs) (λ m h. movie_here (top_box b.kind) file b m h) (λ g h. boxes_opened_fed file end bs g h) f e

pub mp4_front_fed : (file : List ℕ) (f : Front) → mp4_front file ≡ Ok f → IsFed (to_come f)
mp4_front_fed file f e = boxes_opened_fed file (walk file 0 true).fault (walk file 0 true).boxes f (sym (mp4_front_is file) ∙ e)
