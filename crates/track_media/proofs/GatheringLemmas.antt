-- A sample is put into the part of its track.
use Rattle.std.proofs.Common.{◌≡◌, ◌<◌, ℕ, zero, suc, List, [], ◌∷◌, length, Bool, true, false, Some, None, refl, ap, ◌∙◌, arith, get_or}
use Rattle.std.specs.Prelude.{Result, Ok, Err, OnOk, position, cond, slice_set}
use Rattle.std.proofs.lemmas.List.Quantifiers.{position-Some}
use Rattle.std.proofs.lemmas.List.Sums.{fails_before_first}
use borrow.Author.Tests.{ltb-false}
use Rattle.eme_types.specs.declared.sample.EncSample.{EncSample}
use Rattle.eme_types.specs.declared.media.TrackPart.{TrackPart}
use Rattle.track_media.specs.Gathering.{pushed, is_of, with_sample}

at_index : (parts : List TrackPart) (i track : ℕ) (s : EncSample) (d : TrackPart) → i < length parts → is_of track (get_or parts i d) ≡ true → ((k : ℕ) → k < i → is_of track (get_or parts k d) ≡ false) → slice_set parts i (with_sample s (get_or parts i d)) ≡ pushed track s parts
at_index [] i track s d lt here before = absurd (omega arith)
at_index (p ∷ more) zero track s d lt here before = rw here refl
at_index (p ∷ more) (suc i) track s d lt here before =
    let head : is_of track p ≡ false = before 0 (omega arith) in
    rw head (ap (λ ps. p ∷ ps) (at_index more i track s d (omega arith) here (λ k below. before (suc k) (omega arith))))

pub pushed_at : (parts : List TrackPart) (i track : ℕ) (s : EncSample) (p : TrackPart) → position (is_of track) parts ≡ Some i → p ≡ get_or parts i p → slice_set parts i (with_sample s p) ≡ pushed track s parts
pushed_at parts i track s p e read =
    let at = position-Some (is_of track) parts i p e in
    ap (λ q. slice_set parts i (with_sample s q)) read ∙ at_index parts i track s p at.0 at.1 at.2

pub on_ok : {E : Type 0} (r : Result (Unit {0}) E) (P Q : Type 0) → (P → Q) → OnOk r P → OnOk r Q
on_ok (Ok u) P Q f h = f h
on_ok (Err e) P Q f h = h

no_index : (t : Bool) (i : ℕ) → cond t (Some i) None ≡ None → t ≡ false
no_index true i e = absurd cc
no_index false i e = refl

no_part : (parts : List TrackPart) (track : ℕ) (s : EncSample) → ((k : ℕ) → k < length parts → (d : TrackPart) → is_of track (get_or parts k d) ≡ false) → pushed track s parts ≡ parts
no_part [] track s none = refl
no_part (p ∷ more) track s none =
    let head : is_of track p ≡ false = none 0 (omega arith) p in
    rw head (ap (λ ps. p ∷ ps) (no_part more track s (λ k lt. none (suc k) (omega arith))))

pub pushed_nowhere : (parts : List TrackPart) (track : ℕ) (s : EncSample) → position (is_of track) parts ≡ None → pushed track s parts ≡ parts
pushed_nowhere parts track s e =
    let past = ltb-false _ _ (no_index _ _ e) in
    no_part parts track s (λ k lt d. fails_before_first (is_of track) parts k d (omega (arith, past, lt)))
