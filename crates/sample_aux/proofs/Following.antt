-- Where auxiliary data stands, sample by sample and run by run.
use Rattle.std.proofs.Common.{◌≡◌, ℕ, suc, ◌-◌, ◌+◌, ◌*◌, ◌≤◌, ◌<◌, List, [], ◌∷◌, ◌++◌, sym, ◌∙◌, append_assoc, arith}
use Rattle.std.specs.Prelude.{ℤ, pos, ◌+ℤ◌, ◌≤ℤ◌}
use Rattle.std.proofs.lemmas.Int.{ints}
use Rattle.std.proofs.lemmas.List.{append-nil}
use Rattle.prot_boxes.specs.declared.saiz.Saiz.{Saiz}
use Rattle.frag_boxes.specs.declared.records.Trun.{Trun}
use Rattle.sample_aux.specs.declared.sample_data.DataRange.{DataRange}
use Rattle.sample_aux.specs.Auxiliary.{size_at, offset_of, follow, by_run}

pub one_more : (s : Saiz) (at : ℤ) (k end : ℕ) (front total : List DataRange) → k < end → front ++ follow s at k (end - k) ≡ total
    → (front ++ record { at = at; size = size_at s k } ∷ []) ++ follow s (at +ℤ pos (size_at s k)) (k + 1) (end - (k + 1)) ≡ total
unfolding follow
one_more s at k end front total lt so_far =
    let e : end - k ≡ suc (end - (k + 1)) = omega arith in
    simp append_assoc (rw e at so_far)

-- each sample has at most 255 bytes of data
pub near_more : (start at : ℤ) (first k size : ℕ) → size < 256 → first ≤ k → at ≤ℤ (start +ℤ pos (255 * (k - first))) → (at +ℤ pos size) ≤ℤ (start +ℤ pos (255 * ((k + 1) - first)))
near_more start at first k size small low near = omega (arith, ints, small, low, near)

pub finished : (s : Saiz) (at : ℤ) (k end : ℕ) (front total : List DataRange) → end ≤ k → front ++ follow s at k (end - k) ≡ total → front ≡ total
unfolding follow
finished s at k end front total le so_far =
    let e : end - k ≡ 0 = omega arith in
    sym (append-nil front) ∙ (rw e at so_far)

pub one_run : (s : Saiz) (base : ℤ) (offsets : List ℕ) (i k end : ℕ) (run : Trun) (runs : List Trun) (front ranges total : List DataRange) → end ≡ k + run.count
    → ranges ≡ follow s (base +ℤ pos (offset_of offsets i)) k (end - k) → front ++ by_run s base offsets i k (run ∷ runs) ≡ total → (front ++ ranges) ++ by_run s base offsets (i + 1) end runs ≡ total
unfolding by_run
one_run s base offsets i k end run runs front ranges total e h so_far =
    let n : (k + run.count) - k ≡ run.count = omega arith in
    rw (h, e, n) (simp append_assoc so_far)

pub no_run : (s : Saiz) (base : ℤ) (offsets : List ℕ) (i k : ℕ) (front total : List DataRange) → front ++ by_run s base offsets i k [] ≡ total → front ≡ total
unfolding by_run
no_run s base offsets i k front total so_far = sym (append-nil front) ∙ so_far
