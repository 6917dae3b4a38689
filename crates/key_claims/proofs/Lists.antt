-- Lists of tracks, as they are stored and as they are seen.
use Rattle.std.proofs.Common.{zero, suc, ◌≡◌, ◌≢◌, ℕ, ◌+◌, ◌<◌, ◌≤◌, Bool, true, false, List, [], ◌∷◌, ◌++◌, length, get_or, set, Option, Some, None, inl, inr, refl, ap, sym, subst, ◌∙◌, arith, map, take, drop, eqb, add-one, length-append, get_or-set_same, get_or-set_other}
use Rattle.std.specs.Prelude.{if◌then◌else◌}
use Rattle.std.specs.List.{sum_by}
use Rattle.std.proofs.lemmas.List.{map-append, length-map, take_more, take-append-drop}
use Rattle.std.proofs.lemmas.List.Sums.{fold-append, sum_by-cons, sum_by-append, get_or-le-sum_by}
use Rattle.std.proofs.Math.ListN.{length-set}
use Rattle.std.proofs.Math.Nat.{eq-or-lt_of_le}
use Rattle.std.proofs.lemmas.Bool.Decides.{eqb_tells}
use Rattle.eme_types.specs.declared.media.TrackPart.{TrackPart}
use Rattle.key_claims.specs.declared.feed.Batch.{Batch}
use Rattle.key_claims.specs.TracksState.{FedTrack}
use Rattle.key_claims.specs.TrackValue.{TrackValue, fed_track, left_of, fed_of, all_left, all_fed}
use Rattle.key_claims.specs.Changes.{find_fed, StandsAt, changed_at, change_fed, feed_one, feed_all, more_fed}
use Rattle.key_claims.specs.Feeds.{batch_len, batch_part, coming, needed_by, IsReadyFor, AreReadyFor, Took, TookBatch}

pub no_track : TrackValue
no_track = record { track = record { id = 0; fed = []; outputs = []; waiting = false }; spare = 0; room = 0 }

pub any_value : (vs : List TrackValue) (i : ℕ) (d e : TrackValue) → i < length vs → get_or vs i d ≡ get_or vs i e
any_value [] i d e lt = absurd (omega arith)
any_value (v ∷ vs) zero d e lt = refl
any_value (v ∷ vs) (suc i) d e lt = any_value vs i d e (omega arith)

get_seen : (vs : List TrackValue) (i : ℕ) (d : FedTrack) (v : TrackValue) → i < length vs → get_or (map fed_track vs) i d ≡ (get_or vs i v).track
get_seen [] i d v lt = absurd (omega arith)
get_seen (x ∷ vs) zero d v lt = refl
get_seen (x ∷ vs) (suc i) d v lt = get_seen vs i d v (omega arith)

pub seen_length : (vs : List TrackValue) → length (map fed_track vs) ≡ length vs
seen_length vs = length-map vs fed_track

pub within : (vs : List TrackValue) (i : ℕ) → i < length vs → i < length (map fed_track vs)
within vs i lt = omega (arith, lt, seen_length vs)

-- what holds of the track at an index
pub here : (P : FedTrack → Type 0) (vs : List TrackValue) (i : ℕ) (v : TrackValue) → i < length vs → P (get_or vs i v).track → (d : FedTrack) → P (get_or (map fed_track vs) i d)
here P vs i v lt p d = subst P (sym (get_seen vs i d v lt)) p

pub seen_here : (P : FedTrack → Type 0) (vs : List TrackValue) (i : ℕ) (d : FedTrack) → i < length vs → P (get_or (map fed_track vs) i d) → (v : TrackValue) → P (get_or vs i v).track
seen_here P vs i d lt p v = subst P (get_seen vs i d v lt) p

-- and of all before
pub before_more : (P : FedTrack → Type 0) (vs : List TrackValue) (i : ℕ) (v : TrackValue) → i < length vs → ((k : ℕ) (d : FedTrack) → k < i → P (get_or (map fed_track vs) k d)) → P (get_or vs i v).track → (k : ℕ) (d : FedTrack) → k < i + 1 → P (get_or (map fed_track vs) k d)
before_more P vs i v lt before p k d le =
    let most : k ≤ i = omega arith in
    elim (eq-or-lt_of_le most) [
      | inl e ↦ subst (λ (n : ℕ). P (get_or (map fed_track vs) n d)) (sym e) (here P vs i v lt p d)
      | inr l ↦ before k d l
    ]

pub all_of : (P : FedTrack → Type 0) (vs : List TrackValue) (i : ℕ) → length vs ≤ i → ((k : ℕ) (d : FedTrack) → k < i → P (get_or (map fed_track vs) k d)) → (k : ℕ) (d : FedTrack) → k < length (map fed_track vs) → P (get_or (map fed_track vs) k d)
all_of P vs i le before k d lt = before k d (omega (arith, le, lt, seen_length vs))

-- the track at a place is changed
pub changed_is : (vs : List TrackValue) (i : ℕ) (f : FedTrack → FedTrack) (v u : TrackValue) → i < length vs → u ≡ get_or vs i u → v.track ≡ f u.track → map fed_track (set vs i v) ≡ changed_at (map fed_track vs) i f
changed_is [] i f v u lt at is = absurd (omega arith)
changed_is (x ∷ vs) zero f v u lt at is = ap (λ (t : FedTrack). t ∷ map fed_track vs) (is ∙ ap (λ (y : TrackValue). f y.track) at)
changed_is (x ∷ vs) (suc i) f v u lt at is = ap (λ (ts : List FedTrack). x.track ∷ ts) (changed_is vs i f v u (omega arith) at is)

pub same_seen : (vs us : List TrackValue) (i : ℕ) (v u : TrackValue) → map fed_track vs ≡ map fed_track us → u ≡ get_or vs i u → v.track ≡ u.track → map fed_track (set vs i v) ≡ map fed_track us
same_seen vs us i v u before at is = go vs i at ∙ before where
  go : (vs : List TrackValue) (i : ℕ) → u ≡ get_or vs i u → map fed_track (set vs i v) ≡ map fed_track vs
  go [] i at = refl
  go (x ∷ vs) zero at = ap (λ (t : FedTrack). t ∷ map fed_track vs) (is ∙ ap (λ (y : TrackValue). y.track) at)
  go (x ∷ vs) (suc i) at = ap (λ (ts : List FedTrack). x.track ∷ ts) (go vs i at)

find_none : (b : Bool) (t : FedTrack) (o : Option FedTrack) → (if b then Some t else o) ≡ None → (b ≡ false) × (o ≡ None)
find_none true t o e = absurd cc
find_none false t o e = (refl, e)

pub same_yes : (a b : ℕ) → a ≡ b → eqb a b ≡ true
same_yes a b e = elim (eqb_tells a b) [ inl p ↦ p.0 | inr p ↦ absurd (p.1 e) ]

pub not_same : (a b : ℕ) → (a ≡ b → ⊥) → eqb a b ≡ false
not_same a b ne = elim (eqb_tells a b) [ inl p ↦ absurd (ne p.1) | inr p ↦ p.0 ]

pub none_more : (vs : List TrackValue) (i id : ℕ) (v : TrackValue) → i < length vs → find_fed (take i (map fed_track vs)) id ≡ None → eqb (get_or vs i v).track.id id ≡ false → find_fed (take (i + 1) (map fed_track vs)) id ≡ None
none_more vs i id v lt none other = rw add-one (go vs i lt none other) where
  go : (vs : List TrackValue) (i : ℕ) → i < length vs → find_fed (take i (map fed_track vs)) id ≡ None → eqb (get_or vs i v).track.id id ≡ false → find_fed (take (suc i) (map fed_track vs)) id ≡ None
  go [] i lt none other = refl
  go (x ∷ vs) zero lt none other = rw other refl
  go (x ∷ vs) (suc i) lt none other =
      let k = find_none (eqb x.track.id id) x.track (find_fed (take i (map fed_track vs)) id) none in
      rw k.0 (go vs i (omega arith) k.1 other)

pub stands_here : (vs : List TrackValue) (i id : ℕ) (v : TrackValue) → i < length vs → find_fed (take i (map fed_track vs)) id ≡ None → (get_or vs i v).track.id ≡ id → StandsAt (map fed_track vs) id i
stands_here vs i id v lt none same = record { within = within vs i lt; first = none; same = here (λ t. t.id ≡ id) vs i v lt same }

-- the track that an id finds
found_here : (vs : List TrackValue) (i id : ℕ) (v : TrackValue) → i < length vs → StandsAt (map fed_track vs) id i → find_fed (map fed_track vs) id ≡ Some (get_or vs i v).track
found_here vs i id v lt stands = go vs i lt stands.first (seen_here (λ t. t.id ≡ id) vs i v.track lt (stands.same v.track) v) where
  go : (vs : List TrackValue) (i : ℕ) → i < length vs → find_fed (take i (map fed_track vs)) id ≡ None → (get_or vs i v).track.id ≡ id → find_fed (map fed_track vs) id ≡ Some (get_or vs i v).track
  go [] i lt none same = absurd (omega arith)
  go (x ∷ vs) zero lt none same = rw (same_yes x.track.id id same) refl
  go (x ∷ vs) (suc i) lt none same =
      let k = find_none (eqb x.track.id id) x.track (find_fed (take i (map fed_track vs)) id) none in
      rw k.0 (go vs i (omega arith) k.1 same)

pub change_here : (vs : List TrackValue) (i id : ℕ) (f : FedTrack → FedTrack) (v u : TrackValue) → i < length vs → find_fed (take i (map fed_track vs)) id ≡ None → u ≡ get_or vs i u → u.track.id ≡ id → v.track ≡ f u.track → map fed_track (set vs i v) ≡ change_fed (map fed_track vs) id f
change_here [] i id f v u lt none at same is = absurd (omega arith)
change_here (x ∷ vs) zero id f v u lt none at same is =
    let e : eqb x.track.id id ≡ true = same_yes x.track.id id (ap (λ (y : TrackValue). y.track.id) (sym at) ∙ same) in
    rw e (ap (λ (t : FedTrack). t ∷ map fed_track vs) (is ∙ ap (λ (y : TrackValue). f y.track) at))
change_here (x ∷ vs) (suc i) id f v u lt none at same is =
    let k = find_none (eqb x.track.id id) x.track (find_fed (take i (map fed_track vs)) id) none in
    rw k.0 (ap (λ (ts : List FedTrack). x.track ∷ ts) (change_here vs i id f v u (omega arith) k.1 at same is))

pub change_none : (ts : List FedTrack) (id : ℕ) (f : FedTrack → FedTrack) → find_fed ts id ≡ None → change_fed ts id f ≡ ts
change_none [] id f none = refl
change_none (t ∷ ts) id f none =
    let k = find_none (eqb t.id id) t (find_fed ts id) none in
    rw k.0 (ap (λ (us : List FedTrack). t ∷ us) (change_none ts id f k.1))

-- the tracks before the index are changed
pub map_more : (f : TrackValue → TrackValue) (xs ys : List TrackValue) (i : ℕ) (d v : TrackValue) → i < length xs → ys ≡ map f (take i xs) ++ drop i xs → v ≡ f (get_or ys i d) → set ys i v ≡ map f (take (i + 1) xs) ++ drop (i + 1) xs
map_more f xs ys i d v lt e is = rw (is, add-one, e) (go xs i lt) where
  go : (xs : List TrackValue) (i : ℕ) → i < length xs → set (map f (take i xs) ++ drop i xs) i (f (get_or (map f (take i xs) ++ drop i xs) i d)) ≡ map f (take (suc i) xs) ++ drop (suc i) xs
  go [] i lt = absurd (omega arith)
  go (x ∷ xs) zero lt = refl
  go (x ∷ xs) (suc i) lt = ap (λ zs. f x ∷ zs) (go xs i (omega arith))

pub map_seen : (f : FedTrack → FedTrack) (g : TrackValue → TrackValue) (vs : List TrackValue) → ((v : TrackValue) → (g v).track ≡ f v.track) → map fed_track (map g vs) ≡ map f (map fed_track vs)
map_seen f g [] same = refl
map_seen f g (v ∷ vs) same = rw (same v, map_seen f g vs same) refl

-- the samples of one track are within those of all
pub fed_within : (vs : List TrackValue) (n i : ℕ) (v : TrackValue) → all_fed (map fed_track vs) ≤ n → i < length vs → length (get_or vs i v).track.fed ≤ n
fed_within vs n i v few lt =
    let most = get_or-le-sum_by fed_of (map fed_track vs) i v.track (within vs i lt) in
    seen_here (λ t. length t.fed ≤ n) vs i v.track lt (omega (arith, most, few)) v

-- a feed

pub ready_less : (b : Batch) (rest : List Batch) (old new : TrackValue) → Took old new (coming old.track.id b) → IsReadyFor (b ∷ rest) old → IsReadyFor rest new
ready_less b rest old new took ready =
    let all = sum_by-cons (coming old.track.id) b rest in
    let same : needed_by new.track.id rest ≡ needed_by old.track.id rest = ap (λ n. needed_by n rest) took.id in
    record {
      fed = omega (arith, ready.fed, all, same, took.spare);
      outputs = omega (arith, ready.outputs, all, same, took.left, took.room);
    }

pub ready_first : (b : Batch) (rest : List Batch) (v : TrackValue) → IsReadyFor (b ∷ rest) v → IsReadyFor (b ∷ []) v
ready_first b rest v ready =
    let all = sum_by-cons (coming v.track.id) b rest in
    let one = sum_by-cons (coming v.track.id) b [] in
    let z : sum_by (coming v.track.id) [] ≡ 0 = refl in
    record { fed = omega (arith, ready.fed, all, one, z); outputs = omega (arith, ready.outputs, all, one, z) }

pub ready_on : (b : Batch) (rest : List Batch) (vs us : List TrackValue) → TookBatch b vs us → AreReadyFor (b ∷ rest) vs → AreReadyFor rest us
ready_on b rest vs us took ready k d lt =
    let le : k < length vs = omega (arith, lt, took.length_) in
    ready_less b rest (get_or vs k d) (get_or us k d) (took.each k d le) (ready k d le)

pub fed_on : (ts us vs : List FedTrack) (done more : List Batch) (b : Batch) → more ≡ done ++ b ∷ [] → us ≡ feed_all ts (map batch_part done) → vs ≡ feed_one us (batch_part b) → vs ≡ feed_all ts (map batch_part more)
fed_on ts us vs done more b is before now =
    now ∙ (ap (λ (x : List FedTrack). feed_one x (batch_part b)) before ∙ (sym (fold-append feed_one ts (map batch_part done) (batch_part b ∷ [])) ∙ (ap (λ (x : List TrackPart). feed_all ts x) (sym (map-append batch_part done (b ∷ []))) ∙ ap (λ (x : List Batch). feed_all ts (map batch_part x)) (sym is))))

-- the tracks before the index are ready
pub ready_set : (bs : List Batch) (vs : List TrackValue) (i : ℕ) (v : TrackValue) → i < length vs → ((k : ℕ) (d : TrackValue) → k < i → IsReadyFor bs (get_or vs k d)) → IsReadyFor bs v → (k : ℕ) (d : TrackValue) → k < i + 1 → IsReadyFor bs (get_or (set vs i v) k d)
ready_set bs vs i v lt before ready k d le =
    let most : k ≤ i = omega arith in
    elim (eq-or-lt_of_le most) [
      | inl e ↦ (let at : get_or (set vs i v) k d ≡ v = subst (λ (n : ℕ). get_or (set vs i v) n d ≡ v) (sym e) (get_or-set_same vs i v d lt) in subst (λ (x : TrackValue). IsReadyFor bs x) (sym at) ready)
      | inr l ↦ (let ne : k ≢ i = (λ e. omega (arith, l, e)) in subst (λ (x : TrackValue). IsReadyFor bs x) (sym (get_or-set_other vs i k v d ne)) (before k d l))
    ]

-- the room of the track of a batch
pub room_for : (b : Batch) (v : TrackValue) → v.track.id ≡ b.track → IsReadyFor (b ∷ []) v → (batch_len b ≤ v.spare) × (left_of v.track + batch_len b ≤ v.room)
room_for b v same ready =
    let one = sum_by-cons (coming v.track.id) b [] in
    let z : sum_by (coming v.track.id) [] ≡ 0 = refl in
    let at : coming v.track.id b ≡ batch_len b = ap (λ (x : Bool). if x then batch_len b else 0) (same_yes b.track v.track.id (sym same)) in
    (omega (arith, ready.fed, one, z, at), omega (arith, ready.outputs, one, z, at))

pub unwithin : (vs : List TrackValue) (i : ℕ) → i < length (map fed_track vs) → i < length vs
unwithin vs i lt = omega (arith, lt, seen_length vs)

-- the track at the place that an id finds
pub found_at : (vs : List TrackValue) (i id : ℕ) (v : TrackValue) → StandsAt (map fed_track vs) id i → v ≡ get_or vs i v → find_fed (map fed_track vs) id ≡ Some v.track
found_at vs i id v stands is = found_here vs i id v (unwithin vs i stands.within) stands ∙ ap (λ (x : TrackValue). Some x.track) (sym is)

took_same : (b : Batch) (v : TrackValue) → Took v v (coming v.track.id b)
took_same b v = record { id = refl; spare = omega arith; left = omega arith; room = refl }

-- the samples of a batch came to the track at a place
pub took_set : (b : Batch) (vs : List TrackValue) (i : ℕ) (v u : TrackValue) → i < length vs → u ≡ get_or vs i u → u.track.id ≡ b.track → v.track ≡ more_fed b.samples.items u.track → u.spare ≤ v.spare + batch_len b → v.room ≡ u.room → TookBatch b vs (set vs i v)
took_set b vs i v u lt at same fed spare room = record {
  length_ = length-set vs i v;
  each = λ k d le. elim (eqb_tells k i) [
    | inl p ↦ (let new : get_or (set vs i v) k d ≡ v = subst (λ (n : ℕ). get_or (set vs i v) n d ≡ v) (sym p.1) (get_or-set_same vs i v d lt) in
        let old : get_or vs k d ≡ u = ap (λ (n : ℕ). get_or vs n d) p.1 ∙ (any_value vs i d u lt ∙ sym at) in
        let here : coming u.track.id b ≡ batch_len b = ap (λ (x : Bool). if x then batch_len b else 0) (same_yes b.track u.track.id (sym same)) in
        let more : length v.track.fed ≡ length u.track.fed + batch_len b = ap (λ (t : FedTrack). length t.fed) fed ∙ length-append u.track.fed b.samples.items in
        let out : length v.track.outputs ≡ length u.track.outputs = ap (λ (t : FedTrack). length t.outputs) fed in
        let took : Took u v (coming u.track.id b) = record { id = ap (λ (t : FedTrack). t.id) fed; spare = omega (arith, spare, here); left = omega (arith, more, out, here); room = room } in
        rw (new, old) took)
    | inr p ↦ subst (λ (x : TrackValue). Took (get_or vs k d) x (coming (get_or vs k d).track.id b)) (sym (get_or-set_other vs i k v d p.1)) (took_same b (get_or vs k d))
  ];
}

pub map_end : (f : TrackValue → TrackValue) (xs : List TrackValue) (i : ℕ) → length xs ≤ i → map f (take i xs) ++ drop i xs ≡ map f xs
map_end f [] i le = ends i where
  ends : (i : ℕ) → map f (take i []) ++ drop i [] ≡ []
  ends zero = refl
  ends (suc i) = refl
map_end f (x ∷ xs) zero le = absurd (omega arith)
map_end f (x ∷ xs) (suc i) le = ap (λ zs. f x ∷ zs) (map_end f xs i (omega arith))

-- what is left is within what was fed
left_within : (ts : List FedTrack) → all_left ts ≤ all_fed ts
left_within [] = omega arith
left_within (t ∷ ts) = (let a = sum_by-cons left_of t ts in let b = sum_by-cons fed_of t ts in let r = left_within ts in omega (arith, a, b, r))

pub left_more : (vs : List TrackValue) (n i : ℕ) (v : TrackValue) → all_fed (map fed_track vs) ≤ n → i < length vs → (all_left (map fed_track (take (i + 1) vs)) ≡ all_left (map fed_track (take i vs)) + left_of (get_or vs i v).track) × (all_left (map fed_track (take i vs)) + left_of (get_or vs i v).track ≤ n)
left_more vs n i v few lt =
    let more : map fed_track (take (i + 1) vs) ≡ map fed_track (take i vs) ++ (get_or vs i v).track ∷ [] = ap (λ (us : List TrackValue). map fed_track us) (take_more vs i v lt) ∙ map-append fed_track (take i vs) (get_or vs i v ∷ []) in
    let one = sum_by-cons left_of (get_or vs i v).track [] in
    let z : sum_by left_of [] ≡ 0 = refl in
    let sum = ap (λ (ts : List FedTrack). all_left ts) more ∙ sum_by-append left_of (map fed_track (take i vs)) ((get_or vs i v).track ∷ []) in
    let all : map fed_track (take (i + 1) vs) ++ map fed_track (drop (i + 1) vs) ≡ map fed_track vs = sym (map-append fed_track (take (i + 1) vs) (drop (i + 1) vs)) ∙ ap (λ (us : List TrackValue). map fed_track us) (take-append-drop (i + 1) vs) in
    let parts = sym (ap (λ (ts : List FedTrack). all_left ts) all) ∙ sum_by-append left_of (map fed_track (take (i + 1) vs)) (map fed_track (drop (i + 1) vs)) in
    (omega (arith, sum, one, z), omega (arith, sum, one, z, parts, left_within (map fed_track vs), few))

pub any_seen : (P : FedTrack → Type 0) (vs : List TrackValue) (i : ℕ) (d : FedTrack) → i < length vs → P (get_or (map fed_track vs) i d) → (e : FedTrack) → P (get_or (map fed_track vs) i e)
any_seen P vs i d lt p = here P vs i no_track lt (seen_here P vs i d lt p no_track)
