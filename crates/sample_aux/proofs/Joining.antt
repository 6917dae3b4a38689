-- Parts that were joined are of distinct tracks, and keep their samples.
use Rattle.std.proofs.Common.{◌≡◌, inl, inr, ℕ, ◌+◌, ◌≤◌, Bool, true, false, List, [], ◌∷◌, ◌++◌, map, refl, sym, arith, length-append}
use Rattle.std.proofs.lemmas.Bool.{and_from}
use Rattle.std.specs.Prelude.{◌==◌, not, ◌&&◌, ◌||◌, cond, filter}
use Rattle.std.specs.List.{list_all, sum_by}
use Rattle.std.proofs.lemmas.Bool.Decides.{eqb_tells}
use Rattle.std.proofs.lemmas.List.Folds.{list_all-append}
use Rattle.std.proofs.lemmas.List.Sums.{sum_by-append, sum_by-cons}
use Rattle.eme_types.specs.WellFormed.{is_well_formed}
use Rattle.eme_types.specs.declared.media.TrackPart.{TrackPart}
use Rattle.eme_types.specs.Fed.{is_among, are_distinct, part_track, part_samples, part_bytes, sample_bytes, has_samples}
use Rattle.sample_aux.specs.Resolve.{put_part, joined}

-- ---- of one part each

pub and_both : (a b : Bool) → (a && b) ≡ true → (a ≡ true) × (b ≡ true)
and_both true b e = (refl, e)
and_both false b e = absurd cc

or_false : (a : Bool) → (a || false) ≡ a
or_false true = refl
or_false false = refl

pub or_right : (a : Bool) → (a || true) ≡ true
or_right true = refl
or_right false = refl

again : (a b : Bool) → (a || b) ≡ ((a || b) || a)
again true b = refl
again false b = sym (or_false b)

or_assoc : (a b c : Bool) → (a || (b || c)) ≡ ((a || b) || c)
or_assoc true b c = refl
or_assoc false b c = refl

among_put : (qs : List TrackPart) (p : TrackPart) (id : ℕ) → is_among (map part_track (put_part qs p)) id ≡ (is_among (map part_track qs) id || (p.track == id))
among_put [] p id = or_false (p.track == id)
among_put (q ∷ qs) p id = elim (eqb_tells q.track p.track) [
  | inl h ↦ rw h.0 (rw (sym h.1) (again (q.track == id) (is_among (map part_track qs) id)))
  | inr h ↦ rw h.0 (rw (among_put qs p id) (or_assoc (q.track == id) (is_among (map part_track qs) id) (p.track == id)))
]

not_equal : (a b : ℕ) → (a == b) ≡ false → (b == a) ≡ false
not_equal a b e = elim (eqb_tells b a) [
  | inl h ↦ absurd (let g = rw h.1 at e in elim (eqb_tells a a) [ inl k ↦ (let f = k.0 in cc) | inr k ↦ absurd (k.1 refl) ])
  | inr h ↦ h.0
]

pub distinct_put : (qs : List TrackPart) (p : TrackPart) → are_distinct (map part_track qs) ≡ true → are_distinct (map part_track (put_part qs p)) ≡ true
distinct_put [] p e = refl
distinct_put (q ∷ qs) p e = elim (eqb_tells q.track p.track) [
  | inl h ↦ rw h.0 e
  | inr h ↦
      let both = and_both (not (is_among (map part_track qs) q.track)) (are_distinct (map part_track qs)) e in
      rw h.0 (rw (among_put qs p q.track, not_equal q.track p.track h.0, or_false (is_among (map part_track qs) q.track)) (and_from _ _ both.0 (distinct_put qs p both.1)))
]

pub distinct_joined : (qs ps : List TrackPart) → are_distinct (map part_track qs) ≡ true → are_distinct (map part_track (joined qs ps)) ≡ true
distinct_joined qs [] e = e
distinct_joined qs (p ∷ ps) e = distinct_joined (put_part qs p) ps (distinct_put qs p e)

-- ---- a fact of the track of each part

abbrev pub of_track : (ℕ → Bool) → List TrackPart → Bool
of_track test ps = list_all (λ (p : TrackPart). test p.track) ps

put_of : (test : ℕ → Bool) (qs : List TrackPart) (p : TrackPart) → of_track test qs ≡ true → test p.track ≡ true → of_track test (put_part qs p) ≡ true
put_of test [] p e f = and_from _ _ f refl
put_of test (q ∷ qs) p e f = elim (eqb_tells q.track p.track) [
  | inl h ↦ rw h.0 e
  | inr h ↦ let both = and_both (test q.track) (of_track test qs) e in rw h.0 (and_from _ _ both.0 (put_of test qs p both.1 f))
]

pub joined_of : (test : ℕ → Bool) (qs ps : List TrackPart) → of_track test qs ≡ true → of_track test ps ≡ true → of_track test (joined qs ps) ≡ true
joined_of test qs [] e f = e
joined_of test qs (p ∷ ps) e f =
    let both = and_both (test p.track) (of_track test ps) f in
    joined_of test (put_part qs p) ps (put_of test qs p e both.0) both.1

-- ---- well-formed samples

abbrev pub is_formed : TrackPart → Bool
is_formed p = list_all is_well_formed p.samples

put_formed : (qs : List TrackPart) (p : TrackPart) → list_all is_formed qs ≡ true → is_formed p ≡ true → list_all is_formed (put_part qs p) ≡ true
put_formed [] p e f = and_from _ _ f refl
put_formed (q ∷ qs) p e f = elim (eqb_tells q.track p.track) [
  | inl h ↦
      let both = and_both (is_formed q) (list_all is_formed qs) e in
      rw h.0 (rw (list_all-append is_well_formed q.samples p.samples) (and_from _ _ (and_from _ _ both.0 f) both.1))
  | inr h ↦ let both = and_both (is_formed q) (list_all is_formed qs) e in rw h.0 (and_from _ _ both.0 (put_formed qs p both.1 f))
]

pub joined_formed : (qs ps : List TrackPart) → list_all is_formed qs ≡ true → list_all is_formed ps ≡ true → list_all is_formed (joined qs ps) ≡ true
joined_formed qs [] e f = e
joined_formed qs (p ∷ ps) e f =
    let both = and_both (is_formed p) (list_all is_formed ps) f in
    joined_formed (put_part qs p) ps (put_formed qs p e both.0) both.1

-- ---- how many samples and bytes

put_samples : (qs : List TrackPart) (p : TrackPart) → sum_by part_samples (put_part qs p) ≡ sum_by part_samples qs + part_samples p
put_samples [] p = refl
put_samples (q ∷ qs) p = elim (eqb_tells q.track p.track) [
  | inl h ↦ rw h.0 (omega (arith, length-append q.samples p.samples, sum_by-cons part_samples (record q { samples = q.samples ++ p.samples }) qs, sum_by-cons part_samples q qs))
  | inr h ↦ rw h.0 (omega (arith, put_samples qs p, sum_by-cons part_samples q (put_part qs p), sum_by-cons part_samples q qs))
]

pub joined_samples : (qs ps : List TrackPart) → sum_by part_samples (joined qs ps) ≡ sum_by part_samples qs + sum_by part_samples ps
joined_samples qs [] = omega arith
joined_samples qs (p ∷ ps) = omega (arith, joined_samples (put_part qs p) ps, put_samples qs p, sum_by-cons part_samples p ps)

put_bytes : (qs : List TrackPart) (p : TrackPart) → sum_by part_bytes (put_part qs p) ≡ sum_by part_bytes qs + part_bytes p
put_bytes [] p = refl
put_bytes (q ∷ qs) p = elim (eqb_tells q.track p.track) [
  | inl h ↦ rw h.0 (omega (arith, sum_by-append sample_bytes q.samples p.samples, sum_by-cons part_bytes (record q { samples = q.samples ++ p.samples }) qs, sum_by-cons part_bytes q qs))
  | inr h ↦ rw h.0 (omega (arith, put_bytes qs p, sum_by-cons part_bytes q (put_part qs p), sum_by-cons part_bytes q qs))
]

pub joined_bytes : (qs ps : List TrackPart) → sum_by part_bytes (joined qs ps) ≡ sum_by part_bytes qs + sum_by part_bytes ps
joined_bytes qs [] = omega arith
joined_bytes qs (p ∷ ps) = omega (arith, joined_bytes (put_part qs p) ps, put_bytes qs p, sum_by-cons part_bytes p ps)

-- ---- parts that have samples

among_kept : (b : Bool) (q id : ℕ) (xs ys : List TrackPart) (p : TrackPart) → p.track ≡ q → (is_among (map part_track xs) id ≡ true → is_among (map part_track ys) id ≡ true)
    → is_among (map part_track (cond b (p ∷ xs) xs)) id ≡ true → ((p.track == id) || is_among (map part_track ys) id) ≡ true
among_kept true q id xs ys p same h e = elim (eqb_tells p.track id) [ inl k ↦ rw k.0 refl | inr k ↦ rw k.0 (h (rw k.0 at e)) ]
among_kept false q id xs ys p same h e = rw (h e) (or_right (p.track == id))

among_filter : (qs : List TrackPart) (id : ℕ) → is_among (map part_track (filter has_samples qs)) id ≡ true → is_among (map part_track qs) id ≡ true
among_filter [] id e = absurd cc
among_filter (q ∷ qs) id e = among_kept (has_samples q) q.track id (filter has_samples qs) qs q refl (among_filter qs id) e

not_among : (a b : Bool) → (a ≡ true → b ≡ true) → not b ≡ true → not a ≡ true
not_among true b h e = let k = h refl in absurd (let g = rw k at e in cc)
not_among false b h e = refl

distinct_kept : (b : Bool) (p : TrackPart) (xs : List TrackPart) → not (is_among (map part_track xs) p.track) ≡ true → are_distinct (map part_track xs) ≡ true → are_distinct (map part_track (cond b (p ∷ xs) xs)) ≡ true
distinct_kept true p xs e f = and_from _ _ e f
distinct_kept false p xs e f = f

pub distinct_filter : (qs : List TrackPart) → are_distinct (map part_track qs) ≡ true → are_distinct (map part_track (filter has_samples qs)) ≡ true
distinct_filter [] e = refl
distinct_filter (q ∷ qs) e =
    let both = and_both (not (is_among (map part_track qs) q.track)) (are_distinct (map part_track qs)) e in
    distinct_kept (has_samples q) q (filter has_samples qs) (not_among _ _ (among_filter qs q.track) both.0) (distinct_filter qs both.1)

all_kept : (test : TrackPart → Bool) (b : Bool) (p : TrackPart) (xs : List TrackPart) → (b ≡ true → test p ≡ true) → list_all test xs ≡ true → list_all test (cond b (p ∷ xs) xs) ≡ true
all_kept test true p xs e f = and_from _ _ (e refl) f
all_kept test false p xs e f = f

pub filter_keeps : (test : TrackPart → Bool) (qs : List TrackPart) → list_all test qs ≡ true → list_all test (filter has_samples qs) ≡ true
filter_keeps test [] e = refl
filter_keeps test (q ∷ qs) e =
    let both = and_both (test q) (list_all test qs) e in
    all_kept test (has_samples q) q (filter has_samples qs) (λ h. both.0) (filter_keeps test qs both.1)

pub filter_has : (qs : List TrackPart) → list_all has_samples (filter has_samples qs) ≡ true
filter_has [] = refl
filter_has (q ∷ qs) = all_kept has_samples (has_samples q) q (filter has_samples qs) (λ h. h) (filter_has qs)

sum_kept : (f : TrackPart → ℕ) (b : Bool) (p : TrackPart) (xs : List TrackPart) → sum_by f (cond b (p ∷ xs) xs) ≤ f p + sum_by f xs
sum_kept f true p xs = omega (arith, sum_by-cons f p xs)
sum_kept f false p xs = omega arith

pub sum_filter : (f : TrackPart → ℕ) (qs : List TrackPart) → sum_by f (filter has_samples qs) ≤ sum_by f qs
sum_filter f [] = omega arith
sum_filter f (q ∷ qs) = omega (arith, sum_kept f (has_samples q) q (filter has_samples qs), sum_filter f qs, sum_by-cons f q qs)
