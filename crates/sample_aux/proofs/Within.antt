-- A resolved movie fragment may be fed, and is within the room that was left.
use Rattle.std.proofs.Common.{◌≡◌, inl, inr, ℕ, zero, suc, ◌+◌, ◌-◌, ◌≤◌, Bool, true, false, List, [], ◌∷◌, ◌++◌, length, map, take, drop, Option, Some, None, Result, Ok, Err, refl, ap, subst, arith, length-append}
use Rattle.std.proofs.lemmas.Bool.{and_from}
use Rattle.std.specs.Prelude.{IfOk, IsTrue, ℤ, nat_lt, ◌==◌, not, ◌&&◌, if◌then◌else◌, filter, unwrap_or}
use Rattle.std.specs.List.{list_all, sum_by}
use Rattle.std.specs.Option.{option_map}
use Rattle.std.proofs.lemmas.Bool.Decides.{eqb_tells, leb_tells}
use Rattle.std.proofs.lemmas.List.{length-take}
use Rattle.std.proofs.lemmas.List.Sums.{sum_by-append, sum_by-cons}
use Rattle.iso_boxes.specs.Children.{◌>>=◌, required}
use Rattle.eme_types.specs.WellFormed.{is_covered, iv_fits, pattern_fits, is_well_protected, is_well_formed}
use Rattle.eme_types.specs.declared.sample.EncSample.{EncSample}
use Rattle.eme_types.specs.declared.sample.Protect.{Protect}
use Rattle.eme_types.specs.declared.media.TrackPart.{TrackPart}
use Rattle.eme_types.specs.declared.media.Fragment.{Fragment}
use Rattle.eme_types.specs.Fed.{is_among, part_samples, part_bytes, sample_bytes, has_samples, fragment_samples, fragment_bytes, are_well_formed, are_known, is_joined}
use Rattle.prot_boxes.specs.declared.senc.SencItem.{SencItem}
use Rattle.frag_boxes.specs.declared.records.Trun.{Trun}
use Rattle.frag_boxes.specs.declared.records.Traf.{Traf}
use Rattle.frag_boxes.specs.declared.records.Moof.{Moof}
use Rattle.pattern_map.specs.SampleFaults.{first_fault_of}
use Rattle.pattern_map.specs.declared.check.SampleFault.TheVariants.{Sum, IvSize, Pattern}
use Rattle.sample_aux.specs.declared.fault.AuxFault.{AuxFault}
use Rattle.sample_aux.specs.declared.fault.AuxKind.TheVariants.{UnknownTrack, NoTrex, Description}
use Rattle.sample_aux.specs.declared.groups.Protection.{Protection}
use Rattle.sample_aux.specs.declared.auxiliary.Auxiliary.{Auxiliary}
use Rattle.sample_aux.specs.declared.fragment.Room.{Room}
use Rattle.sample_aux.specs.Faults.{fault_at, Gives}
use Rattle.sample_aux.specs.Groups.{protection_of}
use Rattle.sample_aux.specs.Checked.{protected_ids}
use Rattle.sample_aux.specs.declared.protection.TrackProtection.{TrackProtection}
use Rattle.sample_aux.specs.declared.protection.MovieProtection.{MovieProtection}
use Rattle.sample_aux.specs.declared.groups.SampleProtection.{SampleProtection}
use Rattle.sample_aux.specs.declared.laying.DataCursor.{DataCursor}
use Rattle.sample_aux.specs.declared.laying.SampleRange.{SampleRange}
use Rattle.sample_aux.specs.Spans.{part_of}
use Rattle.sample_aux.specs.InOrder.{in_order, learnt, each_passes}
use Rattle.sample_aux.specs.Laying.{base_of, is_outside, size_of, range_at, after, counted, run_at, run_laid, begun, runs_laid}
use Rattle.sample_aux.specs.Auxiliary.{rule_of, auxiliary_of}
use Rattle.sample_aux.specs.Resolve.{entry_with, samples_of, traf_resolved, trafs_resolved, joined, all_joined, begin, fragment_of, known_resolved, track_with, place_of, item_of, protect_of, sample_at, samples_at, check_place, as_fault, sample_passes}
use Rattle.sample_aux.proofs.Joining.{or_right, is_formed, of_track, distinct_joined, joined_of, joined_formed, joined_samples, joined_bytes, distinct_filter, filter_keeps, filter_has, sum_filter}

-- what >>= gave was given by both
pub bound : {E A B : Type 0} (x : Result A E) (f : A → Result B E) (y : B) → (x >>= f) ≡ Ok y → (a : A) × ((x ≡ Ok a) × (f a ≡ Ok y))
bound (Ok a) f y e = (a, (refl, e))
bound (Err g) f y e = absurd cc

abbrev sure : {A : Type 0} → A → Result A AuxFault
sure x = Ok x

pub same_ok : {A : Type 0} (x y : A) → sure x ≡ sure y → x ≡ y
same_ok x y e = cc

-- ---- the samples of a run

abbrev pub range_size : SampleRange → ℕ
range_size s = s.size

range_if : (many outside : Bool) (e f : AuxFault) (s t : SampleRange) → (if many then Err e else if outside then Err f else Ok s) ≡ Ok t → (many ≡ false) × (s ≡ t)
range_if true outside e f s t h = absurd cc
range_if false true e f s t h = absurd cc
range_if false false e f s t h = (refl, cc)

not_below : (a b : ℕ) → nat_lt a b ≡ false → b ≤ a
not_below a b e = elim (leb_tells (suc a) b) [ inl h ↦ absurd (let g = h.0 in cc) | inr h ↦ (let g = h.1 in omega (arith, g)) ]

pub range_fits : (end place : ℕ) (l : DataCursor) (size : ℕ) (s : SampleRange) → range_at end place l size ≡ Ok s → s.size ≤ l.bytes
unfolding range_at
range_fits end place l size s e =
    let h = range_if (nat_lt l.bytes size) (is_outside end l.at size) _ _ _ s e in
    let n : size ≡ s.size = ap (λ (t : SampleRange). t.size) h.1 in
    let m = not_below l.bytes size h.0 in
    omega (arith, n, m)

-- what is left behind the samples of a run
pub record Left (l : DataCursor) (n : ℕ) (ranges : List SampleRange) (next : DataCursor) : Type 0 where
  pub many : length ranges ≡ n
  pub samples : next.samples ≡ l.samples
  pub bytes : sum_by range_size ranges + next.bytes ≤ l.bytes

left_more : (l : DataCursor) (s : SampleRange) (n : ℕ) (ranges : List SampleRange) (next : DataCursor) → s.size ≤ l.bytes → Left (after l s) n ranges next → Left l (suc n) (s ∷ ranges) next
left_more l s n ranges next fits h =
    let b = h.bytes in
    let c = sum_by-cons range_size s ranges in
    record { many = ap suc h.many; samples = h.samples; bytes = omega (arith, fits, b, c) }

pub laid_left : (end place : ℕ) (sizes : ℕ → ℕ) (n k : ℕ) (l : DataCursor) (ranges : List SampleRange) → in_order (λ known j. range_at end place known (sizes j)) after l k n ≡ Ok ranges → Left l n ranges (learnt after l ranges)
unfolding in_order
laid_left end place sizes zero k l ranges e =
    let same : [] ≡ ranges = same_ok [] ranges e in
    subst (λ (xs : List SampleRange). Left l 0 xs (learnt after l xs)) same (let b : 0 + l.bytes ≤ l.bytes = omega arith in record { many = refl; samples = refl; bytes = b })
laid_left end place sizes (suc n) k l ranges e =
    let read = λ (known : DataCursor) (j : ℕ). range_at end place known (sizes j) in
    let a = bound (read l k) (λ (x : SampleRange). in_order read after (after l x) (k + 1) n >>= λ xs. Ok (x ∷ xs)) ranges e in
    let b = bound (in_order read after (after l a.0) (k + 1) n) (λ (xs : List SampleRange). Ok (a.0 ∷ xs)) ranges a.1.1 in
    let same : a.0 ∷ b.0 ≡ ranges = same_ok (a.0 ∷ b.0) ranges b.1.1 in
    let fits = range_fits end place l (sizes k) a.0 a.1.0 in
    subst (λ (xs : List SampleRange). Left l (suc n) xs (learnt after l xs)) same (left_more l a.0 n b.0 _ fits (laid_left end place sizes n (k + 1) (after l a.0) b.0 b.1.0))

-- ---- runs

pub record RunsLeft (l : DataCursor) (ranges : List SampleRange) (next : DataCursor) : Type 0 where
  pub samples : length ranges + next.samples ≤ l.samples
  pub bytes : sum_by range_size ranges + next.bytes ≤ l.bytes

run_if : (many : Bool) (f : AuxFault) (rest : Result (List SampleRange) AuxFault) (ranges : List SampleRange) → (if many then Err f else rest) ≡ Ok ranges → (many ≡ false) × (rest ≡ Ok ranges)
run_if true f rest ranges e = absurd cc
run_if false f rest ranges e = (refl, e)

run_left : (end default : ℕ) (l : DataCursor) (run : Trun) (ranges : List SampleRange) → run_at end default l run ≡ Ok ranges → RunsLeft l ranges (learnt after (counted run l) ranges)
unfolding run_at
run_left end default l run ranges e =
    let h = run_if (nat_lt l.samples run.count) _ _ ranges e in
    let m = not_below l.samples run.count h.0 in
    let g = laid_left end run.place (size_of run default) run.count 0 (counted run l) ranges h.1 in
    let a = g.many in
    let b : (learnt after (counted run l) ranges).samples ≡ l.samples - run.count = g.samples in
    record { samples = omega (arith, m, a, b); bytes = g.bytes }

pub one_run_left : (end default : ℕ) (l : DataCursor) (run : Trun) (x : List SampleRange × DataCursor) → run_laid end default l run ≡ Ok x → RunsLeft l x.0 x.1
unfolding run_laid
one_run_left end default l run x e =
    let a = bound (run_at end default l run) (λ (ranges : List SampleRange). Ok (ranges, learnt after (counted run l) ranges)) x e in
    let same : (a.0, learnt after (counted run l) a.0) ≡ x = same_ok (a.0, learnt after (counted run l) a.0) x a.1.1 in
    subst (λ (y : List SampleRange × DataCursor). RunsLeft l y.0 y.1) same (run_left end default l run a.0 a.1.0)

both_left : (l m : DataCursor) (xs ys : List SampleRange) (next : DataCursor) → RunsLeft l xs m → RunsLeft m ys next → RunsLeft l (xs ++ ys) next
both_left l m xs ys next a b =
    let p = a.samples in let q = b.samples in let r = a.bytes in let s = b.bytes in
    record { samples = omega (arith, p, q, length-append xs ys); bytes = omega (arith, r, s, sum_by-append range_size xs ys) }

pub runs_left : (end default : ℕ) (base : ℤ) (l : DataCursor) (runs : List Trun) (x : List SampleRange × DataCursor) → runs_laid end default base l runs ≡ Ok x → RunsLeft l x.0 x.1
unfolding runs_laid
runs_left end default base l [] x e =
    let same : ([], l) ≡ x = same_ok ([], l) x e in
    subst (λ (y : List SampleRange × DataCursor). RunsLeft l y.0 y.1) same (let a : 0 + l.samples ≤ l.samples = omega arith in let b : 0 + l.bytes ≤ l.bytes = omega arith in record { samples = a; bytes = b })
runs_left end default base l (run ∷ runs) x e =
    let a = bound (run_laid end default (begun base run l) run) (λ (one : List SampleRange × DataCursor). runs_laid end default base one.1 runs >>= λ others. Ok (one.0 ++ others.0, others.1)) x e in
    let b = bound (runs_laid end default base a.0.1 runs) (λ (others : List SampleRange × DataCursor). Ok (a.0.0 ++ others.0, others.1)) x a.1.1 in
    let same : (a.0.0 ++ b.0.0, b.0.1) ≡ x = same_ok (a.0.0 ++ b.0.0, b.0.1) x b.1.1 in
    let first : RunsLeft l a.0.0 a.0.1 = let g = one_run_left end default (begun base run l) run a.0 a.1.0 in record { samples = g.samples; bytes = g.bytes } in
    subst (λ (y : List SampleRange × DataCursor). RunsLeft l y.0 y.1) same (both_left l a.0.1 a.0.0 b.0.0 b.0.1 first (runs_left end default base a.0.1 runs b.0 b.1.0))

-- ---- the samples of a track fragment

short_take : (n : ℕ) (xs : List ℕ) → length (take n xs) ≤ n
short_take n xs = omega (arith, length-take n xs)

pub part_short : (file : List ℕ) (place len : ℕ) → length (part_of file place len) ≤ len
part_short file place len = short_take len (drop place file)

sample_short : (file : List ℕ) (place : ℕ) (range : SampleRange) (rule : Option SampleProtection) (item : SencItem) (x : EncSample) → sample_at file place range rule item ≡ Ok x → length x.bytes ≤ range.size
unfolding sample_at
sample_short file place range rule item x e =
    let a = bound (protect_of place rule item) (λ (protect : Option Protect). Ok (record { protect = protect; bytes = part_of file range.place range.size })) x e in
    let same : part_of file range.place range.size ≡ x.bytes = ap (λ (s : EncSample). s.bytes) (same_ok (record { protect = a.0; bytes = part_of file range.place range.size }) x a.1.1) in
    subst (λ (b : List ℕ). length b ≤ range.size) same (part_short file range.place range.size)

pub record Fits (ranges : List SampleRange) (samples : List EncSample) : Type 0 where
  pub many : length samples ≡ length ranges
  pub bytes : sum_by sample_bytes samples ≤ sum_by range_size ranges

abbrev ItemsFit : (ℕ → Result EncSample AuxFault) → ℕ → List SampleRange → Type 0
ItemsFit read k rest = (j : ℕ) (x : EncSample) → read (k + j) ≡ Ok x → length x.bytes ≤ (place_of rest j).size

fits_more : (s : SampleRange) (rest : List SampleRange) (x : EncSample) (xs : List EncSample) → length x.bytes ≤ s.size → Fits rest xs → Fits (s ∷ rest) (x ∷ xs)
fits_more s rest x xs le h =
    let b = h.bytes in
    record { many = ap suc h.many; bytes = omega (arith, le, b, sum_by-cons sample_bytes x xs, sum_by-cons range_size s rest) }

fit_rest : (read : ℕ → Result EncSample AuxFault) (k : ℕ) (s : SampleRange) (rest : List SampleRange) → ItemsFit read k (s ∷ rest) → ItemsFit read (k + 1) rest
fit_rest read k s rest h j x e =
    let n : (k + 1) + j ≡ k + suc j = omega arith in
    h (suc j) x (rw n at e)

fit_first : (read : ℕ → Result EncSample AuxFault) (k : ℕ) (s : SampleRange) (rest : List SampleRange) (x : EncSample) → ItemsFit read k (s ∷ rest) → read k ≡ Ok x → length x.bytes ≤ s.size
fit_first read k s rest x h e =
    let n : k ≡ k + 0 = omega arith in
    h 0 x (subst (λ (i : ℕ). read i ≡ Ok x) n e)

all_fit : (read : ℕ → Result EncSample AuxFault) (k : ℕ) (rest : List SampleRange) (samples : List EncSample) → ItemsFit read k rest → in_order (λ (none : Unit {0}) j. read j) (λ none x. tt) tt k (length rest) ≡ Ok samples → Fits rest samples
unfolding in_order
all_fit read k [] samples h e =
    let same : [] ≡ samples = same_ok [] samples e in
    subst (λ (xs : List EncSample). Fits [] xs) same (let b : 0 ≤ 0 = omega arith in record { many = refl; bytes = b })
all_fit read k (s ∷ rest) samples h e =
    let go = in_order (λ (none : Unit {0}) j. read j) (λ none x. tt) tt (k + 1) (length rest) in
    let a = bound (read k) (λ (x : EncSample). go >>= λ xs. Ok (x ∷ xs)) samples e in
    let b = bound go (λ (xs : List EncSample). Ok (a.0 ∷ xs)) samples a.1.1 in
    let same : a.0 ∷ b.0 ≡ samples = same_ok (a.0 ∷ b.0) samples b.1.1 in
    let le = fit_first read k s rest a.0 h a.1.0 in
    subst (λ (xs : List EncSample). Fits (s ∷ rest) xs) same (fits_more s rest a.0 b.0 le (all_fit read (k + 1) rest b.0 (fit_rest read k s rest h) b.1.0))

samples_fit : (file : List ℕ) (place : ℕ) (ranges : List SampleRange) (rules : List (Option SampleProtection)) (items : List SencItem) (samples : List EncSample) → samples_at file place ranges rules items ≡ Ok samples → Fits ranges samples
unfolding samples_at
samples_fit file place ranges rules items samples e =
    all_fit (λ k. sample_at file place (place_of ranges k) (rule_of rules k) (item_of items k)) 0 ranges samples
    (λ j x h. let n : 0 + j ≡ j = omega arith in sample_short file place (place_of ranges j) (rule_of rules j) (item_of items j) x (rw n at h)) e

-- ---- well-formed samples

formed_if : (a b c : Bool) (place : ℕ) → as_fault place (if not a then Err Sum else if not b then Err IvSize else if not c then Err Pattern else Ok tt) ≡ Ok tt → (a && b && c) ≡ true
formed_if true true true place e = refl
formed_if true true false place e = absurd cc
formed_if true false c place e = absurd cc
formed_if false b c place e = absurd cc

formed_of : (o : Option Protect) (size place : ℕ) → as_fault place (first_fault_of o size) ≡ Ok tt → is_well_protected o size ≡ true
formed_of None size place e = refl
formed_of (Some p) size place e = formed_if (is_covered p.subs size) (iv_fits p.scheme p.iv) (pattern_fits p.scheme p.crypt p.skip) place e

all_formed : (senc : Option ℕ) (traf : ℕ) (samples : List EncSample) (u : Unit {0}) → each_passes (λ s. sample_passes senc traf s) samples ≡ Ok u → list_all is_well_formed samples ≡ true
unfolding each_passes
all_formed senc traf [] u e = refl
all_formed senc traf (s ∷ ss) u e =
    let a = bound (sample_passes senc traf s) (λ (passed : Unit {0}). each_passes (λ x. sample_passes senc traf x) ss) u e in
    and_from (is_well_formed s) (list_all is_well_formed ss) (formed_of s.protect (length s.bytes) (check_place senc traf s) a.1.0) (all_formed senc traf ss u a.1.1)

-- ---- the track

abbrev id_of : TrackProtection → ℕ
id_of t = t.id

same_number : (n : ℕ) → (n == n) ≡ true
same_number n = elim (eqb_tells n n) [ inl h ↦ h.0 | inr h ↦ absurd (h.1 refl) ]

known_if : (b : Bool) (t x : TrackProtection) (ts : List TrackProtection) (rest : Option TrackProtection) → (rest ≡ Some x → is_among (map id_of ts) x.id ≡ true) → (if b then Some t else rest) ≡ Some x → is_among (map id_of (t ∷ ts)) x.id ≡ true
known_if true t x ts rest h e =
    let same : t.id ≡ x.id = ap (λ (o : Option TrackProtection). unwrap_or (option_map id_of o) 0) e in
    rw (same, same_number x.id) refl
known_if false t x ts rest h e = rw (h e) (or_right (t.id == x.id))

known : (id : ℕ) (ts : List TrackProtection) (x : TrackProtection) → track_with id ts ≡ Some x → is_among (map id_of ts) x.id ≡ true
known id [] x e = absurd cc
known id (t ∷ ts) x e = known_if (t.id == id) t x ts (track_with id ts) (known id ts x) e

there : {A : Type 0} (f : AuxFault) (o : Option A) (x : A) → required f o ≡ Ok x → o ≡ Some x
there f None x e = absurd cc
there {A = A} f (Some y) x e = let some : A → Option A = λ z. Some z in ap some (same_ok y x e)

-- ---- a track fragment

pub record PartWithin (m : MovieProtection) (l : DataCursor) (x : TrackPart × DataCursor) : Type 0 where
  pub known : is_among (protected_ids m) x.0.track ≡ true
  pub formed : is_formed x.0 ≡ true
  pub samples : part_samples x.0 + x.1.samples ≤ l.samples
  pub bytes : part_bytes x.0 + x.1.bytes ≤ l.bytes

record Sampled (ranges : List SampleRange) (samples : List EncSample) : Type 0 where
  fits : Fits ranges samples
  formed : list_all is_well_formed samples ≡ true

sampled : (file : List ℕ) (traf : Traf) (base : ℤ) (ranges : List SampleRange) (protection : Protection) (x : List EncSample) → samples_of file traf base ranges protection ≡ Ok x → Sampled ranges x
unfolding samples_of
sampled file traf base ranges protection x e =
    let a = bound (auxiliary_of file protection.entry traf base protection.rules)
    (λ (auxiliary : Auxiliary). samples_at file traf.place ranges protection.rules auxiliary.items >>= λ samples. each_passes (λ s. sample_passes auxiliary.senc traf.place s) samples >>= λ passed. Ok samples) x e in
    let b = bound (samples_at file traf.place ranges protection.rules a.0.items) (λ (samples : List EncSample). each_passes (λ s. sample_passes a.0.senc traf.place s) samples >>= λ passed. Ok samples) x a.1.1 in
    let c = bound (each_passes (λ s. sample_passes a.0.senc traf.place s) b.0) (λ (passed : Unit {0}). Ok b.0) x b.1.1 in
    let same : b.0 ≡ x = same_ok b.0 x c.1.1 in
    subst (λ (xs : List EncSample). Sampled ranges xs) same (record { fits = samples_fit file traf.place ranges protection.rules a.0.items b.0 b.1.0; formed = all_formed a.0.senc traf.place b.0 c.0 c.1.0 })

within : (m : MovieProtection) (l : DataCursor) (at : ℤ) (track : TrackProtection) (ranges : List SampleRange) (next : DataCursor) (samples : List EncSample) → is_among (protected_ids m) track.id ≡ true → RunsLeft (record l { at = at }) ranges next → Sampled ranges samples
    → PartWithin m l (record { track = track.id; samples = samples }, next)
within m l at track ranges next samples k r s =
    let a : length ranges + next.samples ≤ l.samples = r.samples in
    let b : sum_by range_size ranges + next.bytes ≤ l.bytes = r.bytes in
    let c = s.fits.many in
    let d = s.fits.bytes in
    let e : length samples + next.samples ≤ l.samples = omega (arith, a, c) in
    let f : sum_by sample_bytes samples + next.bytes ≤ l.bytes = omega (arith, b, d) in
    record { known = k; formed = s.formed; samples = e; bytes = f }

pub part_within : (file : List ℕ) (m : MovieProtection) (start : ℕ) (l : DataCursor) (traf : Traf) (x : TrackPart × DataCursor) → traf_resolved file m start l traf ≡ Ok x → PartWithin m l x
unfolding traf_resolved
part_within file m start l traf x e =
    let at = base_of start traf.tfhd l.at in
    let a = bound (required (fault_at traf.tfhd.place UnknownTrack) (track_with traf.tfhd.track m.tracks)) _ x e in
    let b = bound (required (fault_at traf.tfhd.place NoTrex) a.0.trex) _ x a.1.1 in
    let c = bound (required (fault_at traf.tfhd.place Description) (entry_with (unwrap_or traf.tfhd.description b.0.description) a.0.entries)) _ x b.1.1 in
    let d = bound (runs_laid (length file) (unwrap_or traf.tfhd.size b.0.size) at (record l { at = at }) traf.runs) _ x c.1.1 in
    let p = bound (protection_of file c.0 a.0.groups traf (length d.0.0)) _ x d.1.1 in
    let s = bound (samples_of file traf at d.0.0 p.0) _ x p.1.1 in
    let same : (record { track = a.0.id; samples = s.0 }, d.0.1) ≡ x = same_ok (record { track = a.0.id; samples = s.0 }, d.0.1) x s.1.1 in
    let k = known traf.tfhd.track m.tracks a.0 (there _ _ a.0 a.1.0) in
    let r = runs_left (length file) (unwrap_or traf.tfhd.size b.0.size) at (record l { at = at }) traf.runs d.0 d.1.0 in
    subst (λ (y : TrackPart × DataCursor). PartWithin m l y) same (within m l at a.0 d.0.0 d.0.1 s.0 k r (sampled file traf at d.0.0 p.0 s.0 s.1.0))

-- ---- all track fragments

pub record PartsWithin (m : MovieProtection) (l : DataCursor) (ps : List TrackPart) : Type 0 where
  pub known : of_track (λ id. is_among (protected_ids m) id) ps ≡ true
  pub formed : list_all is_formed ps ≡ true
  pub samples : sum_by part_samples ps ≤ l.samples
  pub bytes : sum_by part_bytes ps ≤ l.bytes

parts_more : (m : MovieProtection) (l : DataCursor) (x : TrackPart × DataCursor) (ps : List TrackPart) → PartWithin m l x → PartsWithin m x.1 ps → PartsWithin m l (x.0 ∷ ps)
parts_more m l x ps a b =
    let p = a.samples in let q = b.samples in let r = a.bytes in let s = b.bytes in
    record {
      known = and_from _ _ a.known b.known;
      formed = and_from _ _ a.formed b.formed;
      samples = omega (arith, p, q, sum_by-cons part_samples x.0 ps);
      bytes = omega (arith, r, s, sum_by-cons part_bytes x.0 ps);
    }

pub parts_within : (file : List ℕ) (m : MovieProtection) (start : ℕ) (l : DataCursor) (trafs : List Traf) (ps : List TrackPart) → trafs_resolved file m start l trafs ≡ Ok ps → PartsWithin m l ps
unfolding trafs_resolved
parts_within file m start l [] ps e =
    let same : [] ≡ ps = same_ok [] ps e in
    subst (λ (xs : List TrackPart). PartsWithin m l xs) same (let a : 0 ≤ l.samples = omega arith in let b : 0 ≤ l.bytes = omega arith in record { known = refl; formed = refl; samples = a; bytes = b })
parts_within file m start l (traf ∷ trafs) ps e =
    let a = bound (traf_resolved file m start l traf) (λ (one : TrackPart × DataCursor). trafs_resolved file m start one.1 trafs >>= λ others. Ok (one.0 ∷ others)) ps e in
    let b = bound (trafs_resolved file m start a.0.1 trafs) (λ (others : List TrackPart). Ok (a.0.0 ∷ others)) ps a.1.1 in
    let same : a.0.0 ∷ b.0 ≡ ps = same_ok (a.0.0 ∷ b.0) ps b.1.1 in
    subst (λ (xs : List TrackPart). PartsWithin m l xs) same (parts_more m l a.0 b.0 (part_within file m start l traf a.0 a.1.0) (parts_within file m start a.0.1 trafs b.0 b.1.0))

-- ---- the movie fragment

pub record FragmentWithin (m : MovieProtection) (room : Room) (f : Fragment) : Type 0 where
  pub known : are_known (protected_ids m) f ≡ true
  pub joined : is_joined f ≡ true
  pub formed : are_well_formed f ≡ true
  pub samples : fragment_samples f ≤ room.samples
  pub bytes : fragment_bytes f ≤ room.bytes

kept_within : (file : List ℕ) (m : MovieProtection) (moof : Moof) (room : Room) (ps : List TrackPart) → PartsWithin m (begin moof room) ps → FragmentWithin m room (fragment_of file moof (joined [] ps))
kept_within file m moof room ps h =
    let parts = joined [] ps in
    let a : sum_by part_samples ps ≤ room.samples = h.samples in
    let b : sum_by part_bytes ps ≤ room.bytes = h.bytes in
    let none : sum_by part_samples [] ≡ 0 = refl in
    let empty : sum_by part_bytes [] ≡ 0 = refl in
    let samples : sum_by part_samples (filter has_samples parts) ≤ room.samples = omega (arith, a, none, sum_filter part_samples parts, joined_samples [] ps) in
    let bytes : sum_by part_bytes (filter has_samples parts) ≤ room.bytes = omega (arith, b, empty, sum_filter part_bytes parts, joined_bytes [] ps) in
    record {
      known = filter_keeps (λ (p : TrackPart). is_among (protected_ids m) p.track) parts (joined_of (λ id. is_among (protected_ids m) id) [] ps refl h.known);
      joined = and_from _ _ (distinct_filter parts (distinct_joined [] ps refl)) (filter_has parts);
      formed = filter_keeps is_formed parts (joined_formed [] ps refl h.formed);
      samples = samples;
      bytes = bytes;
    }

all_joined_ok : (r : Result (List TrackPart) AuxFault) (parts : List TrackPart) → all_joined [] r ≡ Ok parts → (ps : List TrackPart) × ((r ≡ Ok ps) × (joined [] ps ≡ parts))
all_joined_ok (Ok ps) parts e = (ps, (refl, same_ok (joined [] ps) parts e))
all_joined_ok (Err f) parts e = absurd cc

pub fragment_within : (file : List ℕ) (m : MovieProtection) (moof : Moof) (room : Room) (f : Fragment) → known_resolved file m moof room ≡ Ok f → FragmentWithin m room f
unfolding known_resolved
fragment_within file m moof room f e =
    let a = bound (all_joined [] (trafs_resolved file m moof.place (begin moof room) moof.trafs)) (λ (parts : List TrackPart). Ok (fragment_of file moof parts)) f e in
    let b = all_joined_ok (trafs_resolved file m moof.place (begin moof room) moof.trafs) a.0 a.1.0 in
    let h = kept_within file m moof room b.0 (parts_within file m moof.place (begin moof room) moof.trafs b.0 b.1.0) in
    let g = subst (λ (parts : List TrackPart). FragmentWithin m room (fragment_of file moof parts)) b.1.1 h in
    let same : fragment_of file moof a.0 ≡ f = same_ok (fragment_of file moof a.0) f a.1.1 in
    subst (λ (y : Fragment). FragmentWithin m room y) same g

-- ---- the answer of resolve

pub known_ok : (r : Result Fragment AuxFault) (file : List ℕ) (m : MovieProtection) (moof : Moof) (room : Room) → Gives (λ (f : Fragment). f) r (known_resolved file m moof room) → IfOk r (λ f. IsTrue (are_known (protected_ids m) f))
known_ok (Ok f) file m moof room h = let g = fragment_within file m moof room f h in g.known
known_ok (Err e) file m moof room h = tt

pub joined_ok : (r : Result Fragment AuxFault) (file : List ℕ) (m : MovieProtection) (moof : Moof) (room : Room) → Gives (λ (f : Fragment). f) r (known_resolved file m moof room) → IfOk r (λ f. IsTrue (is_joined f))
joined_ok (Ok f) file m moof room h = let g = fragment_within file m moof room f h in g.joined
joined_ok (Err e) file m moof room h = tt

pub formed_ok : (r : Result Fragment AuxFault) (file : List ℕ) (m : MovieProtection) (moof : Moof) (room : Room) → Gives (λ (f : Fragment). f) r (known_resolved file m moof room) → IfOk r (λ f. IsTrue (are_well_formed f))
formed_ok (Ok f) file m moof room h = let g = fragment_within file m moof room f h in g.formed
formed_ok (Err e) file m moof room h = tt

pub samples_ok : (r : Result Fragment AuxFault) (file : List ℕ) (m : MovieProtection) (moof : Moof) (room : Room) → Gives (λ (f : Fragment). f) r (known_resolved file m moof room) → IfOk r (λ f. fragment_samples f ≤ room.samples)
samples_ok (Ok f) file m moof room h = let g = fragment_within file m moof room f h in g.samples
samples_ok (Err e) file m moof room h = tt

pub bytes_ok : (r : Result Fragment AuxFault) (file : List ℕ) (m : MovieProtection) (moof : Moof) (room : Room) → Gives (λ (f : Fragment). f) r (known_resolved file m moof room) → IfOk r (λ f. fragment_bytes f ≤ room.bytes)
bytes_ok (Ok f) file m moof room h = let g = fragment_within file m moof room f h in g.bytes
bytes_ok (Err e) file m moof room h = tt
