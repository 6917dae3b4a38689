-- Sealed samples beside the clear ones.
use Rattle.std.proofs.Common.{◌≡◌, ℕ, suc, ◌+◌, ◌-◌, ◌*◌, List, [], ◌∷◌, ◌++◌, length, map, refl, sym, ap, ◌∙◌, arith, append_assoc, append-nil, take, drop, length-append}
use Rattle.std.proofs.lemmas.List.{take_at, drop_at, drop_all, take_all}
use borrow.Rule.Slice.PartMut.{put_mid}
use Rattle.std.specs.Prelude.{Result, Ok, Err, OnOk, codes}
use Rattle.std.specs.Int.{w32, to_be_bytes}
use Rattle.std.specs.List.{sum_by}
use Rattle.iso_boxes.specs.Writing.{boxed}
use Rattle.std.proofs.lemmas.List.Sums.{sum_by-cons}
use Rattle.std.proofs.lemmas.List.Concat.{length-flat_map}
use Rattle.eme_types.specs.declared.sample.EncSample.{EncSample}
use Rattle.eme_types.specs.declared.media.InitData.{InitData}
use Rattle.eme_types.specs.declared.media.TrackPart.{TrackPart}
use Rattle.eme_types.specs.declared.media.Fragment.{Fragment}
use Rattle.eme_types.specs.Fed.{sample_bytes, part_samples, part_bytes, fragment_samples}
use Rattle.seal_media.specs.declared.plan.SealPlan.{SealPlan}
use Rattle.seal_media.specs.Sealed.{IsSealed, AreSealed, IsSealedPart, AreSealedParts, IsSealedFragment, AreSealedFragments}
use Rattle.seal_media.specs.Lengths.{entry_length, traf_length, moof_length}
use Rattle.seal_media.specs.Layout.{item_of, traf_boxes, moof_body, part_data, mdat_body}
use Rattle.seal_media.specs.Views.{items_from, trafs_at, HasParts, HasFragment}

-- ---- one more

pub one_more : (plan : SealPlan) (n m : ℕ) (cs ss : List EncSample) (c s : EncSample) → AreSealed plan n cs ss → m ≡ n + length cs → IsSealed plan m c s → AreSealed plan n (cs ++ c ∷ []) (ss ++ s ∷ [])
one_more plan n m [] [] c s are e is = let same : m ≡ n = omega (arith, e) in (rw same at is, tt)
one_more plan n m [] (t ∷ ts) c s are e is = absurd are
one_more plan n m (x ∷ xs) [] c s are e is = absurd are
one_more plan n m (x ∷ xs) (t ∷ ts) c s are e is = (are.0, one_more plan (n + 1) m xs ts c s are.1 (omega (arith, e)) is)

pub one_part_more : (plan : SealPlan) (n m : ℕ) (cs ss : List TrackPart) (c s : TrackPart) → AreSealedParts plan n cs ss → m ≡ n + sum_by part_samples cs → IsSealedPart plan m c s → AreSealedParts plan n (cs ++ c ∷ []) (ss ++ s ∷ [])
one_part_more plan n m [] [] c s are e is = let same : m ≡ n = omega (arith, e) in (rw same at is, tt)
one_part_more plan n m [] (t ∷ ts) c s are e is = absurd are
one_part_more plan n m (x ∷ xs) [] c s are e is = absurd are
one_part_more plan n m (x ∷ xs) (t ∷ ts) c s are e is = (are.0, one_part_more plan (n + part_samples x) m xs ts c s are.1 (omega (arith, e, sum_by-cons part_samples x xs)) is)

-- the initialization data of the fragment behind these
abbrev pub next_given : List InitData → List Fragment → List InitData
next_given given [] = given
next_given given (f ∷ fs) = []

none_next : (fs : List Fragment) → next_given [] fs ≡ []
none_next [] = refl
none_next (f ∷ fs) = refl

pub one_fragment_more : (plan : SealPlan) (n m : ℕ) (given : List InitData) (cs ss : List Fragment) (c s : Fragment) → AreSealedFragments plan n given cs ss → m ≡ n + sum_by fragment_samples cs
    → IsSealedFragment plan m (next_given given cs) c s → AreSealedFragments plan n given (cs ++ c ∷ []) (ss ++ s ∷ [])
one_fragment_more plan n m given [] [] c s are e is = let same : m ≡ n = omega (arith, e) in (rw same at is, tt)
one_fragment_more plan n m given [] (t ∷ ts) c s are e is = absurd are
one_fragment_more plan n m given (x ∷ xs) [] c s are e is = absurd are
one_fragment_more plan n m given (x ∷ xs) (t ∷ ts) c s are e is =
    (are.0, one_fragment_more plan (n + fragment_samples x) m [] xs ts c s are.1 (omega (arith, e, sum_by-cons fragment_samples x xs)) (rw (none_next xs) is))

-- ---- what the boxes say of them

pub same_count : (plan : SealPlan) (n : ℕ) (cs ss : List EncSample) → AreSealed plan n cs ss → length ss ≡ length cs
same_count plan n [] [] are = refl
same_count plan n [] (s ∷ ss) are = absurd are
same_count plan n (c ∷ cs) [] are = absurd are
same_count plan n (c ∷ cs) (s ∷ ss) are = ap suc (same_count plan (n + 1) cs ss are.1)

pub same_sizes : (plan : SealPlan) (n : ℕ) (cs ss : List EncSample) → AreSealed plan n cs ss → map sample_bytes cs ≡ map sample_bytes ss
same_sizes plan n [] [] are = refl
same_sizes plan n [] (s ∷ ss) are = absurd are
same_sizes plan n (c ∷ cs) [] are = absurd are
same_sizes plan n (c ∷ cs) (s ∷ ss) are = rw (are.0.size, same_sizes plan (n + 1) cs ss are.1) refl

pub same_items : (plan : SealPlan) (n : ℕ) (cs ss : List EncSample) → AreSealed plan n cs ss → items_from plan n cs ≡ map item_of ss
same_items plan n [] [] are = refl
same_items plan n [] (s ∷ ss) are = absurd are
same_items plan n (c ∷ cs) [] are = absurd are
same_items plan n (c ∷ cs) (s ∷ ss) are = rw (are.0.protect, same_items plan (n + 1) cs ss are.1) refl

pub same_bytes : (plan : SealPlan) (n : ℕ) (cs ss : List EncSample) → AreSealed plan n cs ss → sum_by sample_bytes ss ≡ sum_by sample_bytes cs
same_bytes plan n [] [] are = refl
same_bytes plan n [] (s ∷ ss) are = absurd are
same_bytes plan n (c ∷ cs) [] are = absurd are
same_bytes plan n (c ∷ cs) (s ∷ ss) are = omega (arith, are.0.size, same_bytes plan (n + 1) cs ss are.1, sum_by-cons sample_bytes c cs, sum_by-cons sample_bytes s ss)

pub same_trafs : (plan : SealPlan) (n offset : ℕ) (ps qs : List TrackPart) → AreSealedParts plan n ps qs → trafs_at plan n offset ps ≡ traf_boxes offset qs
same_trafs plan n offset [] [] are = refl
same_trafs plan n offset [] (q ∷ qs) are = absurd are
same_trafs plan n offset (p ∷ ps) [] are = absurd are
same_trafs plan n offset (p ∷ ps) (q ∷ qs) are =
    let samples = are.0.samples in
    let rest = same_trafs plan (n + part_samples p) (offset + part_bytes p) ps qs are.1 in
    rw (rest, same_items plan n p.samples q.samples samples, same_sizes plan n p.samples q.samples samples, sym (same_bytes plan n p.samples q.samples samples), are.0.track) refl

pub same_lengths : (plan : SealPlan) (n : ℕ) (ps qs : List TrackPart) → AreSealedParts plan n ps qs → sum_by (traf_length plan.scheme) qs ≡ sum_by (traf_length plan.scheme) ps
same_lengths plan n [] [] are = refl
same_lengths plan n [] (q ∷ qs) are = absurd are
same_lengths plan n (p ∷ ps) [] are = absurd are
same_lengths plan n (p ∷ ps) (q ∷ qs) are =
    let f = traf_length plan.scheme in
    let one : f q ≡ f p = ap (λ (k : ℕ). 60 + k * entry_length plan.scheme) (same_count plan n p.samples q.samples are.0.samples) in
    omega (arith, one, same_lengths plan (n + part_samples p) ps qs are.1, sum_by-cons f p ps, sum_by-cons f q qs)

pub data_size : (plan : SealPlan) (n : ℕ) (ps qs : List TrackPart) → AreSealedParts plan n ps qs → length (mdat_body qs) ≡ sum_by part_bytes ps
data_size plan n [] [] are = refl
data_size plan n [] (q ∷ qs) are = absurd are
data_size plan n (p ∷ ps) [] are = absurd are
data_size plan n (p ∷ ps) (q ∷ qs) are =
    let one : length (part_data q) ≡ sum_by sample_bytes q.samples = length-flat_map (λ (s : EncSample). s.bytes) q.samples in
    let whole : length (mdat_body (q ∷ qs)) ≡ length (part_data q) + length (mdat_body qs) = length-append (part_data q) (mdat_body qs) in
    omega (arith, one, whole, same_bytes plan n p.samples q.samples are.0.samples, data_size plan (n + part_samples p) ps qs are.1, sum_by-cons part_bytes p ps)

-- bytes behind which a piece is overwritten
pub overwritten : (n : ℕ) (old was ys : List ℕ) → n ≡ length was → put_mid (length old) n (old ++ was) ys ≡ old ++ ys
overwritten n old was ys e =
    let behind : drop (length old) (old ++ was) ≡ was = drop_at old was (length old) refl in
    let before : take (length old) (old ++ was) ≡ old = take_at old was (length old) refl in
    rw (before, behind, drop_all n was (omega (arith, e)), append-nil) refl

-- the same in a list whose items are given back
pub written : (len start : ℕ) (items xs old was ys : List ℕ) → xs ≡ items → items ≡ old ++ was → start ≡ length old → len ≡ length items → length ys ≡ length was
    → take len (put_mid start (length xs - start) xs ys ++ drop (length (put_mid start (length xs - start) xs ys)) items) ≡ old ++ ys
written len start items xs old was ys same filled at all ys_len =
    let whole = ap length filled ∙ length-append old was in
    let piece : length (old ++ was) - length old ≡ length was = omega (arith, length-append old was) in
    let over : put_mid start (length xs - start) xs ys ≡ old ++ ys = rw (same, filled, at) (overwritten (length (old ++ was) - length old) old was ys piece) in
    let long : length (old ++ ys) ≡ len = omega (arith, length-append old ys, whole, all, ys_len) in
    rw over (take_at (old ++ ys) (drop (length (old ++ ys)) items) len long)

-- what was there before
pub was_there : (start : ℕ) (items xs old was : List ℕ) → xs ≡ items → items ≡ old ++ was → start ≡ length old → take (length xs - start) (drop start xs) ≡ was
was_there start items xs old was same filled at =
    let piece : length (old ++ was) - length old ≡ length was = omega (arith, length-append old was) in
    let behind : drop (length old) (old ++ was) ≡ was = drop_at old was (length old) refl in
    rw (same, filled, at, piece, behind) (take_all (length was) was (omega arith))

-- ---- the boxes of a fragment

in_a_row : (a b c d e : List ℕ) → (((a ++ b) ++ c) ++ d) ++ e ≡ a ++ (b ++ (c ++ (d ++ e)))
in_a_row a b c d e = simp append_assoc

pub whole_fragment : (plan : SealPlan) (n : ℕ) (f : Fragment) (old moof size mid new : List ℕ)
    → moof ≡ boxed (codes "moof") (trafs_at plan n (moof_length plan.scheme f.parts + 8) f.parts) → size ≡ to_be_bytes w32 (8 + sum_by part_bytes f.parts)
    → mid ≡ ((old ++ moof) ++ size) ++ codes "mdat" → HasParts plan n f.parts mid new → HasFragment plan n f old new
unfolding boxed
whole_fragment plan n f old moof size mid new moof_is size_is mid_is has =
    let qs = has.sealed in
    let longs : moof_length plan.scheme qs ≡ moof_length plan.scheme f.parts = ap (λ (k : ℕ). 8 + k) (same_lengths plan n f.parts qs has.are) in
    let trafs : trafs_at plan n (moof_length plan.scheme f.parts + 8) f.parts ≡ moof_body plan.scheme qs = rw longs (same_trafs plan n (moof_length plan.scheme f.parts + 8) f.parts qs has.are) in
    let moofs : moof ≡ boxed (codes "moof") (moof_body plan.scheme qs) = moof_is ∙ ap (boxed (codes "moof")) trafs in
    let sizes : size ≡ to_be_bytes w32 (8 + length (mdat_body qs)) = rw (data_size plan n f.parts qs has.are) size_is in
    record {
      sealed = qs;
      are = has.are;
      behind = has.behind ∙ ap (λ (xs : List ℕ). xs ++ mdat_body qs) mid_is ∙ in_a_row old moof size (codes "mdat") (mdat_body qs) ∙ rw (moofs, sizes) refl;
    }

pub on_ok : {A E P Q : Type 0} (r : Result A E) → (P → Q) → OnOk r P → OnOk r Q
on_ok (Ok x) f p = f p
on_ok (Err e) f p = tt
