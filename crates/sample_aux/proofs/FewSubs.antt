-- No sample has more subsamples than the file has bytes.
use Rattle.std.proofs.Common.{◌≡◌, ℕ, zero, suc, ◌+◌, ◌≤◌, Bool, true, false, List, [], ◌∷◌, ◌++◌, length, map, drop, Option, Some, None, Result, Ok, Err, refl, subst, arith}
use Rattle.std.specs.Prelude.{IfOk, IfSome, ℤ, unsigned_abs, ◌==◌, not, if◌then◌else◌, unwrap_or}
use Rattle.std.specs.List.{All}
use Rattle.std.proofs.lemmas.List.{length-take, length-drop}
use Rattle.std.proofs.lemmas.List.Elements.{All-nil, All-cons, All-head, All-tail, All-append, All-weaker, All-filter}
use Rattle.eme_types.specs.declared.sample.EncSample.{EncSample}
use Rattle.eme_types.specs.declared.sample.Protect.{Protect}
use Rattle.eme_types.specs.declared.media.TrackPart.{TrackPart}
use Rattle.eme_types.specs.declared.media.Fragment.{Fragment}
use Rattle.eme_types.specs.Fed.{has_samples}
use Rattle.iso_boxes.specs.Children.{◌>>=◌, required, placed}
use Rattle.prot_boxes.specs.Answers.{fault_at as prot_fault_at}
use Rattle.prot_boxes.specs.Senc.{senc_fields, senc_at, item}
use Rattle.prot_boxes.specs.declared.fault.ProtKind.{ProtKind}
use Rattle.prot_boxes.specs.declared.fault.ProtFault.{ProtFault}
use Rattle.prot_boxes.specs.declared.senc.SencItem.{SencItem}
use Rattle.prot_boxes.specs.declared.sinf.Sinf.{Sinf}
use Rattle.prot_boxes.proofs.Few.{few_subs, senc_item_takes}
use Rattle.frag_boxes.specs.declared.records.Span.{Span}
use Rattle.frag_boxes.specs.declared.records.Traf.{Traf}
use Rattle.frag_boxes.specs.declared.records.Moof.{Moof}
use Rattle.sample_aux.specs.declared.fault.AuxFault.{AuxFault}
use Rattle.sample_aux.specs.declared.fault.AuxKind.TheVariants.{UnknownTrack, NoTrex, Description, NoAux, AuxSize, OffsetPastEnd}
use Rattle.sample_aux.specs.declared.groups.SampleProtection.{SampleProtection}
use Rattle.sample_aux.specs.declared.groups.Protection.{Protection}
use Rattle.sample_aux.specs.declared.auxiliary.Auxiliary.{Auxiliary}
use Rattle.sample_aux.specs.declared.sample_data.DataRange.{DataRange}
use Rattle.sample_aux.specs.declared.protection.MovieProtection.{MovieProtection}
use Rattle.sample_aux.specs.declared.laying.DataCursor.{DataCursor}
use Rattle.sample_aux.specs.declared.laying.SampleRange.{SampleRange}
use Rattle.sample_aux.specs.declared.fragment.Room.{Room}
use Rattle.sample_aux.specs.Faults.{fault_at, told, Gives}
use Rattle.sample_aux.specs.Spans.{part_of, box_at, boxes_at, or_else, first_given}
use Rattle.sample_aux.specs.InOrder.{in_order, each_passes}
use Rattle.sample_aux.specs.Counting.{count_fields}
use Rattle.sample_aux.specs.Laying.{base_of, is_outside, runs_laid}
use Rattle.sample_aux.specs.Groups.{protection_of}
use Rattle.sample_aux.specs.Auxiliary.{iv_size_of, by_senc, senc_of, used_saiz, used_saio, data_ranges, exactly, data_of, nothing, data_at, rule_of, range_of, by_ranges, by_sizes, no_data, by_used, auxiliary_of}
use Rattle.sample_aux.specs.Bounds.{count_subs, HasFewSubs, FragmentHasFewSubs}
use Rattle.sample_aux.specs.Resolve.{entry_with, track_with, iv_of, protect_of, item_of, place_of, sample_at, samples_at, sample_passes, samples_of, traf_resolved, trafs_resolved, put_part, joined, all_joined, begin, fragment_of, known_resolved}
use Rattle.sample_aux.proofs.Within.{bound, same_ok}

carried : {A : Type 0} (P : A → Type 0) (x y : A) → P x → x ≡ y → P y
carried P x y p e = subst P e p

told_ok : {A : Type 0} (r : Result A ProtFault) (x : A) → told r ≡ Ok x → r ≡ Ok x
told_ok {A = A} (Ok y) x h =
    let same : y ≡ x = cc in
    subst (λ (z : A). (let r : Result A ProtFault = Ok y in r) ≡ Ok z) same refl
told_ok (Err e) x h = absurd cc

placed_ok : {E K A : Type 0} (at : K → E) (r : Result (A × List ℕ) K) (x : A) → placed at r ≡ Ok x → (y : A × List ℕ) × (r ≡ Ok y) × (y.0 ≡ x)
placed_ok at (Ok y) x h = (y, refl, cc)
placed_ok at (Err k) x h = absurd cc

part_in : (file : List ℕ) (place len : ℕ) → length (part_of file place len) ≤ length file
part_in file place len = omega (arith, length-take len (drop place file), length-drop place file)

abbrev FewItems : ℕ → List SencItem → Type 0
FewItems n items = All (λ (i : SencItem). length i.subs ≤ n) items

-- what holds of each that is read holds of all
all_in_order : {A : Type 0} (P : A → Type 0) (read : ℕ → Result A AuxFault) → ((j : ℕ) (x : A) → read j ≡ Ok x → P x) → (n k : ℕ) (xs : List A) → in_order (λ (none : Unit {0}) j. read j) (λ none x. tt) tt k n ≡ Ok xs → All P xs
unfolding in_order
all_in_order {A = A} P read each zero k xs e = carried (All P) [] xs (All-nil P) (same_ok [] xs e)
all_in_order {A = A} P read each (suc n) k xs e =
    let go = in_order (λ (none : Unit {0}) j. read j) (λ none x. tt) tt (k + 1) n in
    let a = bound (read k) (λ (x : A). go >>= λ ys. Ok (x ∷ ys)) xs e in
    let b = bound go (λ (ys : List A). Ok (a.0 ∷ ys)) xs a.1.1 in
    let same : a.0 ∷ b.0 ≡ xs = same_ok (a.0 ∷ b.0) xs b.1.1 in
    carried (All P) (a.0 ∷ b.0) xs (All-cons P a.0 b.0 (each k a.0 a.1.0) (all_in_order P read each n (k + 1) b.0 b.1.0)) same

-- ---- auxiliary data

in_senc : (file : List ℕ) (rules : List (Option SampleProtection)) (s : Span) (a : Auxiliary) → by_senc rules (box_at file s) ≡ Ok a → FewItems (length file) a.items
unfolding by_senc
in_senc file rules s a h =
    let b = box_at file s in
    let sizes = map iv_size_of rules in
    let p = bound (told (senc_at sizes b)) _ a h in
    let q = placed_ok (prot_fault_at b.place) (senc_fields sizes b.body) p.0 (told_ok (senc_at sizes b) p.0 p.1.0) in
    let few = (few_subs sizes b.body q.0.0 q.0.1 q.1).0 in
    let short = part_in file s.body_place s.len in
    let all = All-weaker (λ (i : SencItem). length i.subs ≤ length b.body) (λ i. length i.subs ≤ length file) (λ i le. omega (arith, le, short)) q.0.0.items few in
    let items : q.0.0.items ≡ a.items = cc in
    carried (FewItems (length file)) q.0.0.items a.items all items

abbrev FewIn : ℕ → Option Auxiliary → Type 0
FewIn n o = IfSome o (λ (a : Auxiliary). FewItems n a.items)

counted : (file : List ℕ) (c : Bool) (rules : List (Option SampleProtection)) (s : Span) (o : Option Auxiliary) → (if c then Ok None else (by_senc rules (box_at file s) >>= λ x. Ok (Some x))) ≡ Ok o → FewIn (length file) o
counted file true rules s o h = carried (FewIn (length file)) None o tt cc
counted file false rules s o h =
    let p = bound (by_senc rules (box_at file s)) _ o h in
    carried (FewIn (length file)) (Some p.0) o (in_senc file rules s p.0 p.1.0) cc

one_senc : (file : List ℕ) (rules : List (Option SampleProtection)) (s : Span) (o : Option Auxiliary) → senc_of rules (box_at file s) ≡ Ok o → FewIn (length file) o
unfolding senc_of
one_senc file rules s o h =
    let b = box_at file s in
    let p = bound (told (placed (prot_fault_at b.place) (count_fields b.body))) _ o h in
    counted file (p.0 == 0) rules s o p.1.1

or_else_few : (n : ℕ) (others : Result (Option Auxiliary) AuxFault) (first o : Option Auxiliary) → FewIn n first → ((x : Option Auxiliary) → others ≡ Ok x → FewIn n x) → or_else others first ≡ Ok o → FewIn n o
or_else_few n others None o few more h = more o h
or_else_few n others (Some a) o few more h = carried (FewIn n) (Some a) o few cc

first_senc : (file : List ℕ) (rules : List (Option SampleProtection)) (ss : List Span) (o : Option Auxiliary) → first_given (senc_of rules) (boxes_at file ss) ≡ Ok o → FewIn (length file) o
unfolding first_given
first_senc file rules [] o h = carried (FewIn (length file)) None o tt cc
first_senc file rules (s ∷ ss) o h =
    let p = bound (senc_of rules (box_at file s)) _ o h in
    or_else_few (length file) (first_given (senc_of rules) (boxes_at file ss)) p.0 o (one_senc file rules s p.0 p.1.0) (first_senc file rules ss) p.1.1

whole_if : (c : Bool) (e : AuxFault) (i x : SencItem) → (if c then Ok i else Err e) ≡ Ok x → i ≡ x
whole_if true e i x h = cc
whole_if false e i x h = absurd cc

exact_few : (e : AuxFault) (n : ℕ) (r : Result (SencItem × List ℕ) ProtKind) (x : SencItem) → ((y : SencItem) (after : List ℕ) → r ≡ Ok (y, after) → length y.subs + length after ≤ n) → exactly e r ≡ Ok x → length x.subs ≤ n
exact_few e n (Ok y) x taken h =
    let t = taken y.0 y.1 refl in
    let low : length y.0.subs ≤ n = omega (arith, t) in
    carried (λ (i : SencItem). length i.subs ≤ n) y.0 x low (whole_if (length y.1 == 0) e y.0 x h)
exact_few e n (Err k) x taken h = absurd cc

inside_if : (c : Bool) (f : AuxFault) (r : Result SencItem AuxFault) (x : SencItem) → (if c then Err f else r) ≡ Ok x → r ≡ Ok x
inside_if true f r x h = absurd cc
inside_if false f r x h = h

one_range : (file : List ℕ) (sizes offsets : ℕ) (rule : Option SampleProtection) (range : DataRange) (x : SencItem) → data_at file sizes offsets rule range ≡ Ok x → length x.subs ≤ length file
unfolding data_at
one_range file sizes offsets None range x h = carried (λ (i : SencItem). length i.subs ≤ length file) nothing x (omega arith) (same_ok nothing x h)
one_range file sizes offsets (Some r) range x h =
    let bytes = part_of file (unsigned_abs range.at) range.size in
    let iv = r.group.iv_size in
    let g = inside_if (is_outside (length file) range.at range.size) (fault_at offsets OffsetPastEnd) (data_of (fault_at sizes AuxSize) iv bytes) x h in
    let few = exact_few (fault_at sizes AuxSize) (length bytes) (item (not (length bytes == iv)) iv bytes) x ((senc_item_takes (not (length bytes == iv)) iv).bound bytes) g in
    let short = part_in file (unsigned_abs range.at) range.size in
    omega (arith, few, short)

by_sizes_few : (file : List ℕ) (entry : Sinf) (traf : Traf) (base : ℤ) (rules : List (Option SampleProtection)) (a : Auxiliary) → by_sizes file entry.scheme traf base rules ≡ Ok a → FewItems (length file) a.items
unfolding by_sizes by_ranges
by_sizes_few file entry traf base rules a h =
    let p = bound (used_saiz file entry.scheme traf (length rules)) _ a h in
    let q = bound (used_saio file entry.scheme traf) _ a p.1.1 in
    let ranges = data_ranges p.0.saiz base q.0.saio.offsets traf.runs (length rules) in
    let s = bound (by_ranges file p.0.place q.0.place rules ranges) _ a q.1.1 in
    let few = all_in_order (λ (i : SencItem). length i.subs ≤ length file) (λ k. data_at file p.0.place q.0.place (rule_of rules k) (range_of ranges k)) (λ k x e. one_range file p.0.place q.0.place (rule_of rules k) (range_of ranges k) x e) (length rules) 0 s.0 s.1.0 in
    let items : s.0 ≡ a.items = cc in
    carried (FewItems (length file)) s.0 a.items few items

nothing_few : (file : List ℕ) (a : Auxiliary) → (let r : Result Auxiliary AuxFault = Ok no_data in r) ≡ Ok a → FewItems (length file) a.items
nothing_few file a h = carried (λ (x : Auxiliary). FewItems (length file) x.items) no_data a (All-nil (λ (i : SencItem). length i.subs ≤ length file)) (same_ok no_data a h)

no_saiz : (c : Bool) (file : List ℕ) (entry : Sinf) (traf : Traf) (base : ℤ) (rules : List (Option SampleProtection)) (a : Auxiliary) → (if c then Ok no_data else by_sizes file entry.scheme traf base rules) ≡ Ok a → FewItems (length file) a.items
no_saiz true file entry traf base rules a h = nothing_few file a h
no_saiz false file entry traf base rules a h = by_sizes_few file entry traf base rules a h

used_few : (file : List ℕ) (entry : Sinf) (traf : Traf) (base : ℤ) (rules : List (Option SampleProtection)) (o : Option Auxiliary) (a : Auxiliary) → FewIn (length file) o → by_used file entry traf base rules o ≡ Ok a → FewItems (length file) a.items
used_few file entry traf base rules (Some x) a few h = carried (λ (y : Auxiliary). FewItems (length file) y.items) x a few cc
used_few file entry traf base rules None a few h = no_saiz (length traf.saiz == 0) file entry traf base rules a h

auxiliary_few : (file : List ℕ) (entry : Option Sinf) (traf : Traf) (base : ℤ) (rules : List (Option SampleProtection)) (a : Auxiliary) → auxiliary_of file entry traf base rules ≡ Ok a → FewItems (length file) a.items
unfolding auxiliary_of
auxiliary_few file None traf base rules a h = nothing_few file a h
auxiliary_few file (Some entry) traf base rules a h =
    let p = bound (first_given (senc_of rules) (boxes_at file traf.senc)) _ a h in
    used_few file entry traf base rules p.0 a (first_senc file rules traf.senc p.0 p.1.0) p.1.1

-- ---- samples

item_few : (n : ℕ) (items : List SencItem) (k : ℕ) → FewItems n items → length (item_of items k).subs ≤ n
item_few n [] k few = omega arith
item_few n (i ∷ items) zero few = All-head (λ (i : SencItem). length i.subs ≤ n) i items few
item_few n (i ∷ items) (suc k) few = item_few n items k (All-tail (λ (i : SencItem). length i.subs ≤ n) i items few)

protect_few : (place : ℕ) (rule : Option SampleProtection) (i : SencItem) (o : Option Protect) → protect_of place rule i ≡ Ok o → count_subs o ≤ length i.subs
protect_few place None i o h = carried (λ (p : Option Protect). count_subs p ≤ length i.subs) None o (omega arith) (same_ok None o h)
protect_few place (Some r) i o h =
    let p = bound (required (fault_at place NoAux) (iv_of i.iv r.group.constant)) _ o h in
    let made : Option Protect = Some (record { scheme = r.scheme; kid = r.group.kid; iv = p.0; crypt = r.group.crypt; skip = r.group.skip; subs = i.subs }) in
    carried (λ (p : Option Protect). count_subs p ≤ length i.subs) made o (omega arith) (same_ok made o p.1.1)

sample_few : (n : ℕ) (file : List ℕ) (place : ℕ) (range : SampleRange) (rule : Option SampleProtection) (i : SencItem) (x : EncSample) → length i.subs ≤ n → sample_at file place range rule i ≡ Ok x → count_subs x.protect ≤ n
unfolding sample_at
sample_few n file place range rule i x few h =
    let p = bound (protect_of place rule i) (λ (protect : Option Protect). Ok (record { protect = protect; bytes = part_of file range.place range.size })) x h in
    let low = protect_few place rule i p.0 p.1.0 in
    let made : EncSample = record { protect = p.0; bytes = part_of file range.place range.size } in
    carried (λ (s : EncSample). count_subs s.protect ≤ n) made x (omega (arith, low, few)) (same_ok made x p.1.1)

samples_few : (n : ℕ) (file : List ℕ) (place : ℕ) (ranges : List SampleRange) (rules : List (Option SampleProtection)) (items : List SencItem) (xs : List EncSample) → FewItems n items → samples_at file place ranges rules items ≡ Ok xs → HasFewSubs n xs
unfolding samples_at
samples_few n file place ranges rules items xs few h =
    all_in_order (λ (s : EncSample). count_subs s.protect ≤ n) (λ k. sample_at file place (place_of ranges k) (rule_of rules k) (item_of items k))
    (λ k x e. sample_few n file place (place_of ranges k) (rule_of rules k) (item_of items k) x (item_few n items k few) e) (length ranges) 0 xs h

-- ---- track fragments

traf_samples_few : (file : List ℕ) (traf : Traf) (base : ℤ) (ranges : List SampleRange) (protection : Protection) (xs : List EncSample) → samples_of file traf base ranges protection ≡ Ok xs → HasFewSubs (length file) xs
unfolding samples_of
traf_samples_few file traf base ranges protection x e =
    let a = bound (auxiliary_of file protection.entry traf base protection.rules)
    (λ (auxiliary : Auxiliary). samples_at file traf.place ranges protection.rules auxiliary.items >>= λ samples. each_passes (λ s. sample_passes auxiliary.senc traf.place s) samples >>= λ passed. Ok samples) x e in
    let b = bound (samples_at file traf.place ranges protection.rules a.0.items) (λ (samples : List EncSample). each_passes (λ s. sample_passes a.0.senc traf.place s) samples >>= λ passed. Ok samples) x a.1.1 in
    let c = bound (each_passes (λ s. sample_passes a.0.senc traf.place s) b.0) (λ (passed : Unit {0}). Ok b.0) x b.1.1 in
    let few = samples_few (length file) file traf.place ranges protection.rules a.0.items b.0 (auxiliary_few file protection.entry traf base protection.rules a.0 a.1.0) b.1.0 in
    carried (HasFewSubs (length file)) b.0 x few (same_ok b.0 x c.1.1)

abbrev PartFew : ℕ → TrackPart → Type 0
PartFew n p = HasFewSubs n p.samples

part_few : (file : List ℕ) (m : MovieProtection) (start : ℕ) (l : DataCursor) (traf : Traf) (x : TrackPart × DataCursor) → traf_resolved file m start l traf ≡ Ok x → PartFew (length file) x.0
unfolding traf_resolved
part_few file m start l traf x e =
    let at = base_of start traf.tfhd l.at in
    let a = bound (required (fault_at traf.tfhd.place UnknownTrack) (track_with traf.tfhd.track m.tracks)) _ x e in
    let b = bound (required (fault_at traf.tfhd.place NoTrex) a.0.trex) _ x a.1.1 in
    let c = bound (required (fault_at traf.tfhd.place Description) (entry_with (unwrap_or traf.tfhd.description b.0.description) a.0.entries)) _ x b.1.1 in
    let d = bound (runs_laid (length file) (unwrap_or traf.tfhd.size b.0.size) at (record l { at = at }) traf.runs) _ x c.1.1 in
    let p = bound (protection_of file c.0 a.0.groups traf (length d.0.0)) _ x d.1.1 in
    let s = bound (samples_of file traf at d.0.0 p.0) _ x p.1.1 in
    let same : (record { track = a.0.id; samples = s.0 }, d.0.1) ≡ x = same_ok (record { track = a.0.id; samples = s.0 }, d.0.1) x s.1.1 in
    carried (λ (y : TrackPart × DataCursor). PartFew (length file) y.0) (record { track = a.0.id; samples = s.0 }, d.0.1) x (traf_samples_few file traf at d.0.0 p.0 s.0 s.1.0) same

parts_few : (file : List ℕ) (m : MovieProtection) (start : ℕ) (l : DataCursor) (trafs : List Traf) (ps : List TrackPart) → trafs_resolved file m start l trafs ≡ Ok ps → All (PartFew (length file)) ps
unfolding trafs_resolved
parts_few file m start l [] ps e = carried (All (PartFew (length file))) [] ps (All-nil (PartFew (length file))) (same_ok [] ps e)
parts_few file m start l (traf ∷ trafs) ps e =
    let a = bound (traf_resolved file m start l traf) (λ (one : TrackPart × DataCursor). trafs_resolved file m start one.1 trafs >>= λ others. Ok (one.0 ∷ others)) ps e in
    let b = bound (trafs_resolved file m start a.0.1 trafs) (λ (others : List TrackPart). Ok (a.0.0 ∷ others)) ps a.1.1 in
    let few = All-cons (PartFew (length file)) a.0.0 b.0 (part_few file m start l traf a.0 a.1.0) (parts_few file m start a.0.1 trafs b.0 b.1.0) in
    carried (All (PartFew (length file))) (a.0.0 ∷ b.0) ps few (same_ok (a.0.0 ∷ b.0) ps b.1.1)

-- ---- parts that are joined

put_if : (n : ℕ) (c : Bool) (q p : TrackPart) (qs others : List TrackPart) → PartFew n q → PartFew n p → All (PartFew n) qs → All (PartFew n) others
    → All (PartFew n) (if c then record q { samples = q.samples ++ p.samples } ∷ qs else q ∷ others)
put_if n true q p qs others a b all more = All-cons (PartFew n) (record q { samples = q.samples ++ p.samples }) qs (All-append (λ (s : EncSample). count_subs s.protect ≤ n) q.samples p.samples a b) all
put_if n false q p qs others a b all more = All-cons (PartFew n) q others a more

put_few : (n : ℕ) (qs : List TrackPart) (p : TrackPart) → All (PartFew n) qs → PartFew n p → All (PartFew n) (put_part qs p)
put_few n [] p all few = All-cons (PartFew n) p [] few (All-nil (PartFew n))
put_few n (q ∷ qs) p all few =
    let first = All-head (PartFew n) q qs all in
    let rest = All-tail (PartFew n) q qs all in
    put_if n (q.track == p.track) q p qs (put_part qs p) first few rest (put_few n qs p rest few)

joined_few : (n : ℕ) (qs ps : List TrackPart) → All (PartFew n) qs → All (PartFew n) ps → All (PartFew n) (joined qs ps)
joined_few n qs [] all more = all
joined_few n qs (p ∷ ps) all more = joined_few n (put_part qs p) ps (put_few n qs p all (All-head (PartFew n) p ps more)) (All-tail (PartFew n) p ps more)

all_joined_few : (n : ℕ) (r : Result (List TrackPart) AuxFault) (parts : List TrackPart) → ((ps : List TrackPart) → r ≡ Ok ps → All (PartFew n) ps) → all_joined [] r ≡ Ok parts → All (PartFew n) parts
all_joined_few n (Ok ps) parts few e = carried (All (PartFew n)) (joined [] ps) parts (joined_few n [] ps (All-nil (PartFew n)) (few ps refl)) (same_ok (joined [] ps) parts e)
all_joined_few n (Err f) parts few e = absurd cc

pub fragment_few : (file : List ℕ) (m : MovieProtection) (moof : Moof) (room : Room) (f : Fragment) → known_resolved file m moof room ≡ Ok f → FragmentHasFewSubs (length file) f
unfolding known_resolved
fragment_few file m moof room f e =
    let resolved = trafs_resolved file m moof.place (begin moof room) moof.trafs in
    let a = bound (all_joined [] resolved) (λ (parts : List TrackPart). Ok (fragment_of file moof parts)) f e in
    let all = all_joined_few (length file) resolved a.0 (λ ps h. parts_few file m moof.place (begin moof room) moof.trafs ps h) a.1.0 in
    carried (FragmentHasFewSubs (length file)) (fragment_of file moof a.0) f (All-filter has_samples (PartFew (length file)) a.0 all) (same_ok (fragment_of file moof a.0) f a.1.1)

pub subs_ok : (r : Result Fragment AuxFault) (file : List ℕ) (m : MovieProtection) (moof : Moof) (room : Room) → Gives (λ (f : Fragment). f) r (known_resolved file m moof room) → IfOk r (FragmentHasFewSubs (length file))
subs_ok (Ok f) file m moof room h = fragment_few file m moof room f h
subs_ok (Err e) file m moof room h = tt
