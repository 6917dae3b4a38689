-- The samples of a part lie one behind the other from where its data begins, and are found there.
use Rattle.std.proofs.Common.{◌≡◌, ℕ, zero, suc, ◌+◌, ◌-◌, ◌≤◌, false, ltb, List, [], ◌∷◌, length, map, pos, Some, Result, Ok, refl, ap, ◌∙◌, arith, append-nil}
use Rattle.std.specs.Prelude.{slice_get}
use Rattle.std.specs.List.{sum_by, flat_map}
use Rattle.std.proofs.lemmas.Bool.{le-ltb}
use Rattle.std.proofs.lemmas.Option.{slice_get-map, same_Some}
use Rattle.std.proofs.lemmas.List.{length-map}
use Rattle.std.proofs.lemmas.List.Concat.{length-flat_map}
use Rattle.std.proofs.lemmas.List.Sums.{sum_by-cons}
use Rattle.eme_types.specs.declared.sample.EncSample.{EncSample}
use Rattle.eme_types.specs.Fed.{sample_bytes}
use Rattle.sample_aux.specs.declared.fault.AuxFault.{AuxFault}
use Rattle.sample_aux.specs.declared.laying.DataCursor.{DataCursor}
use Rattle.sample_aux.specs.declared.laying.SampleRange.{SampleRange}
use Rattle.sample_aux.specs.InOrder.{in_order, learnt}
use Rattle.sample_aux.specs.Laying.{size_of, range_at, after, run_at, run_laid, runs_laid}
use Rattle.sample_aux.specs.Resolve.{place_of, bytes_at}
use Rattle.seal_media.proofs.BackStands.{Stands, stands_left, stands_right}
use Rattle.seal_media.proofs.BackFields.{item_read, trun_read}

-- ---- reading by numbers

-- what is read of each number is the item of that number
pub numbers_again : {A : Type 0} (read : ℕ → Result A AuxFault) (xs : List A) (k : ℕ) → ((j : ℕ) (x : A) → slice_get xs j ≡ Some x → read (k + j) ≡ Ok x)
    → in_order (λ (none : Unit {0}) i. read i) (λ none x. tt) tt k (length xs) ≡ Ok xs
unfolding in_order
numbers_again read [] k says = refl
numbers_again read (x ∷ xs) k says =
    let start : k + 0 ≡ k = omega arith in
    let here : read k ≡ Ok x = rw start at (says 0 x refl) in
    let more = numbers_again read xs (k + 1) (λ j y e. (let next : k + suc j ≡ k + 1 + j = omega arith in rw next at (says (suc j) y e))) in
    rw (here, more) refl

-- ---- the ranges of samples

-- one behind the other, the first at a place
abbrev pub ranges_from : ℕ → List EncSample → List SampleRange
ranges_from place [] = []
ranges_from place (s ∷ ss) = record { place = place; size = sample_bytes s } ∷ ranges_from (place + sample_bytes s) ss

pub ranges_count : (place : ℕ) (ss : List EncSample) → length (ranges_from place ss) ≡ length ss
ranges_count place [] = refl
ranges_count place (s ∷ ss) = ap suc (ranges_count (place + sample_bytes s) ss)

-- where the next sample begins, and what the limits leave
abbrev pub cursor : ℕ → ℕ → ℕ → DataCursor
cursor place samples bytes = record { at = pos place; samples = samples; bytes = bytes }

-- a sample that fits
range_again : (end place at samples bytes size : ℕ) → at + size ≤ end → size ≤ bytes → range_at end place (cursor at samples bytes) size ≡ Ok (record { place = at; size = size })
unfolding range_at
range_again end place at samples bytes size inside room =
    let enough : ltb bytes size ≡ false = le-ltb _ _ room in
    let low : ltb at 0 ≡ false = le-ltb _ _ (omega arith) in
    let high : ltb end (at + size) ≡ false = le-ltb _ _ inside in
    rw (enough, low, high) refl

ranges_again : (end place at samples bytes k : ℕ) (size : ℕ → ℕ) (ss : List EncSample) → ((j : ℕ) (s : EncSample) → slice_get ss j ≡ Some s → size (k + j) ≡ sample_bytes s)
    → at + sum_by sample_bytes ss ≤ end → sum_by sample_bytes ss ≤ bytes → in_order (λ known i. range_at end place known (size i)) after (cursor at samples bytes) k (length ss) ≡ Ok (ranges_from at ss)
unfolding in_order
ranges_again end place at samples bytes k size [] says inside room = refl
ranges_again end place at samples bytes k size (s ∷ ss) says inside room =
    let sum = sum_by-cons sample_bytes s ss in
    let start : k + 0 ≡ k = omega arith in
    let here : size k ≡ sample_bytes s = rw start at (says 0 s refl) in
    let more = ranges_again end place (at + sample_bytes s) samples (bytes - sample_bytes s) (k + 1) size ss (λ j t e. (let next : k + suc j ≡ k + 1 + j = omega arith in rw next at (says (suc j) t e))) (omega arith) (omega arith) in
    rw (here, range_again end place at samples bytes (sample_bytes s) (omega arith) (omega arith), more) refl

same_cursor : (a b samples m n : ℕ) → a ≡ b → m ≡ n → cursor a samples m ≡ cursor b samples n
same_cursor a b samples m n e f = rw (e, f) refl

pub learnt_again : (at samples bytes : ℕ) (ss : List EncSample) → learnt after (cursor at samples bytes) (ranges_from at ss) ≡ cursor (at + sum_by sample_bytes ss) samples (bytes - sum_by sample_bytes ss)
learnt_again at samples bytes [] = same_cursor at (at + 0) samples bytes (bytes - 0) (omega arith) (omega arith)
learnt_again at samples bytes (s ∷ ss) =
    let sum = sum_by-cons sample_bytes s ss in
    learnt_again (at + sample_bytes s) samples (bytes - sample_bytes s) ss
    ∙ same_cursor (at + sample_bytes s + sum_by sample_bytes ss) (at + sum_by sample_bytes (s ∷ ss)) samples (bytes - sample_bytes s - sum_by sample_bytes ss) (bytes - sum_by sample_bytes (s ∷ ss)) (omega arith) (omega arith)

-- the sizes of a run are those of the samples
size_again : (place offset default : ℕ) (ss : List EncSample) (j : ℕ) (s : EncSample) → slice_get ss j ≡ Some s → size_of (trun_read place offset (map sample_bytes ss)) default (0 + j) ≡ sample_bytes s
size_again place offset default ss j s e =
    let first : 0 + j ≡ j = omega arith in
    rw (first, slice_get-map item_read (map sample_bytes ss) j, slice_get-map sample_bytes ss j, e) refl

-- the one run of a track fragment
pub laid_again : (end default start samples bytes place offset : ℕ) (ss : List EncSample) → start + offset + sum_by sample_bytes ss ≤ end → sum_by sample_bytes ss ≤ bytes → length ss ≤ samples
    → runs_laid end default (pos start) (cursor start samples bytes) (trun_read place offset (map sample_bytes ss) ∷ [])
    ≡ Ok (ranges_from (start + offset) ss, cursor (start + offset + sum_by sample_bytes ss) (samples - length ss) (bytes - sum_by sample_bytes ss))
unfolding runs_laid run_laid run_at
laid_again end default start samples bytes place offset ss inside room count =
    let many : length (map sample_bytes ss) ≡ length ss = length-map ss sample_bytes in
    let few : ltb samples (length ss) ≡ false = le-ltb _ _ count in
    rw (
      many,
      few,
      ranges_again end place (start + offset) (samples - length ss) bytes 0 (size_of (trun_read place offset (map sample_bytes ss)) default) ss (size_again place offset default ss) inside room,
      learnt_again (start + offset) (samples - length ss) bytes ss,
      append-nil (ranges_from (start + offset) ss),
    ) refl

-- ---- the bytes of samples

-- the data of samples
abbrev pub data_of : List EncSample → List ℕ
data_of ss = flat_map (λ (s : EncSample). s.bytes) ss

pub bytes_again : (file : List ℕ) (place : ℕ) (ss : List EncSample) (j : ℕ) (s : EncSample) → Stands file place (data_of ss) → slice_get ss j ≡ Some s → bytes_at file (place_of (ranges_from place ss) j) ≡ s.bytes
bytes_again file place [] j s stands e = absurd cc
bytes_again file place (t ∷ ss) zero s stands e =
    let same : t ≡ s = same_Some t s e in
    let here = stands_left file place t.bytes (data_of ss) stands in
    here.same ∙ ap (λ (x : EncSample). x.bytes) same
bytes_again file place (t ∷ ss) (suc j) s stands e = bytes_again file (place + length t.bytes) ss j s (stands_right file place t.bytes (data_of ss) stands) e

pub data_length : (ss : List EncSample) → length (data_of ss) ≡ sum_by sample_bytes ss
data_length ss = length-flat_map (λ (s : EncSample). s.bytes) ss
