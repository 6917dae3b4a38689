-- A track moves, sample by sample.
use Rattle.std.proofs.Common.{zero, suc, ◌≡◌, ℕ, ◌+◌, Bool, true, false, List, [], ◌∷◌, ◌++◌, length, drop, Option, Some, None, slice_get, refl, ap, ◌∙◌, sym, append-nil, append_assoc, add-zero, arith}
use Rattle.std.specs.List.{concat}
use Rattle.std.proofs.lemmas.List.{drop_more}
use Rattle.std.proofs.lemmas.Option.{slice_get_within, get_or_from_slice_get}
use Rattle.eme_types.specs.declared.sample.EncSample.{EncSample}
use Rattle.cdm_world.specs.Tracks.{Picks}
use Rattle.serial_play.specs.Serial.{passed, up_to, gives}
use Rattle.serial_play.specs.declared.track.SerialTrack.{SerialTrack}
use Rattle.serial_play.specs.Answer.{Passes, gives_on, moved_track}

pub pass_none : (o : Option (List ℕ)) (old new : List ℕ) → Passes o old false new → (o ≡ None) × (new ≡ old)
pass_none None old new p = (refl, p.1)
pass_none (Some bytes) old new p = absurd (let never = p.0 in cc)

pub pass_some : (o : Option (List ℕ)) (old new : List ℕ) → Passes o old true new → (bytes : List ℕ) × (o ≡ Some bytes) × (new ≡ old ++ bytes)
pass_some None old new p = absurd (let never = p.0 in cc)
pass_some (Some bytes) old new p = (bytes, refl, p.1)

drop_here : (xs : List EncSample) (n : ℕ) (x : EncSample) → slice_get xs n ≡ Some x → drop n xs ≡ x ∷ drop (n + 1) xs
drop_here xs n x at = drop_more xs n x (slice_get_within xs n x at) ∙ ap (λ (y : EncSample). y ∷ drop (n + 1) xs) (get_or_from_slice_get xs n x x at)

drop_past : (xs : List EncSample) (n : ℕ) → slice_get xs n ≡ None → drop n xs ≡ []
drop_past [] zero at = refl
drop_past [] (suc n) at = refl
drop_past (x ∷ xs) zero at = absurd cc
drop_past (x ∷ xs) (suc n) at = drop_past xs n at

-- a track of which nothing more comes out
still : (picks : Picks) (t : SerialTrack) → gives_on picks t ≡ [] → moved_track picks t ≡ t
still picks t none =
    ap (λ (out : List (List ℕ)). let u : SerialTrack = record t { count = t.count + length out; bytes = t.bytes ++ concat out } in u) none ∙ (ap (λ (n : ℕ). let u : SerialTrack = record t { count = n; bytes = t.bytes ++ [] } in u) (add-zero t.count) ∙ ap (λ (bytes : List ℕ). let u : SerialTrack = record t { bytes = bytes } in u) (append-nil t.bytes))

-- the sample at the count gives nothing
pub moved_stop : (picks : Picks) (t : SerialTrack) (x : EncSample) → slice_get t.fed t.count ≡ Some x → passed picks x ≡ None → moved_track picks t ≡ t
moved_stop picks t x at none =
    still picks t (ap (gives picks) (drop_here t.fed t.count x at) ∙ ap (λ (o : Option (List ℕ)). up_to o (gives picks (drop (t.count + 1) t.fed))) none)

-- there is no sample at the count
pub moved_end : (picks : Picks) (t : SerialTrack) → slice_get t.fed t.count ≡ None → moved_track picks t ≡ t
moved_end picks t at = still picks t (ap (gives picks) (drop_past t.fed t.count at))

moved_on : (t : SerialTrack) (bytes : List ℕ) (out all : List (List ℕ)) → all ≡ bytes ∷ out → (let a : SerialTrack = record t { count = t.count + 1 + length out; bytes = (t.bytes ++ bytes) ++ concat out } in a) ≡ (let b : SerialTrack = record t { count = t.count + length all; bytes = t.bytes ++ concat all } in b)
moved_on t bytes out all is =
    ap (λ (n : ℕ). let a : SerialTrack = record t { count = n; bytes = (t.bytes ++ bytes) ++ concat out } in a) (let same : t.count + 1 + length out ≡ t.count + suc (length out) = omega arith in same)
    ∙ (ap (λ (bs : List ℕ). let a : SerialTrack = record t { count = t.count + suc (length out); bytes = bs } in a) (append_assoc t.bytes bytes (concat out))
    ∙ ap (λ (xs : List (List ℕ)). let a : SerialTrack = record t { count = t.count + length xs; bytes = t.bytes ++ concat xs } in a) (sym is))

-- the sample at the count gives these bytes
pub moved_one : (picks : Picks) (t : SerialTrack) (x : EncSample) (bytes : List ℕ) → slice_get t.fed t.count ≡ Some x → passed picks x ≡ Some bytes → moved_track picks (let u : SerialTrack = record t { count = t.count + 1; bytes = t.bytes ++ bytes } in u) ≡ moved_track picks t
moved_one picks t x bytes at some =
    moved_on t bytes (gives picks (drop (t.count + 1) t.fed)) (gives_on picks t) (ap (gives picks) (drop_here t.fed t.count x at) ∙ ap (λ (o : Option (List ℕ)). up_to o (gives picks (drop (t.count + 1) t.fed))) some)
