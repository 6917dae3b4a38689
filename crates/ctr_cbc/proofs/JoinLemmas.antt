-- The blocks of two runs in a row, of which the first is of whole blocks.
use Rattle.std.proofs.Common.{◌≡◌, ℕ, zero, suc, ◌+◌, ◌*◌, ◌/◌, ◌%◌, ◌<◌, ◌≤◌, List, ◌++◌, length, drop, refl, arith, length-drop}
use Rattle.std.proofs.lemmas.List.{drop-append-le, take-append-le}
use Rattle.std.proofs.Math.Seq.{drop-append-add}
use Rattle.std.proofs.Math.Nat.{add-suc}
use Rattle.ctr_cbc.specs.Blocks.{block}
use Rattle.ctr_cbc.specs.Chain.{block_before}

pub block_of_first : (one two : List ℕ) (r : ℕ) → length one % 16 ≡ 0 → r * 16 < length one → block (one ++ two) r ≡ block one r
block_of_first one two r whole lt =
    rw (drop-append-le (r * 16) one two (omega arith)) (take-append-le 16 (drop (r * 16) one) two (omega (arith, length-drop (r * 16) one)))

pub block_of_second : (one two : List ℕ) (r : ℕ) → length one % 16 ≡ 0 → block (one ++ two) (length one / 16 + r) ≡ block two r
block_of_second one two r whole =
    let place : (length one / 16 + r) * 16 ≡ length one + r * 16 = omega arith in
    rw (place, drop-append-add one two (r * 16)) refl

pub before_of_first : (iv one two : List ℕ) (r : ℕ) → length one % 16 ≡ 0 → r * 16 ≤ length one → block_before iv (one ++ two) r ≡ block_before iv one r
before_of_first iv one two zero whole le = refl
before_of_first iv one two (suc r) whole le = block_of_first one two r whole (omega arith)

pub before_of_second : (iv one two : List ℕ) (r : ℕ) → length one % 16 ≡ 0
    → block_before iv (one ++ two) (length one / 16 + r) ≡ block_before (block_before iv one (length one / 16)) two r
before_of_second iv one two zero whole =
    let here : length one / 16 + 0 ≡ length one / 16 = omega arith in
    rw here (before_of_first iv one two (length one / 16) whole (omega arith))
before_of_second iv one two (suc r) whole =
    rw (add-suc (length one / 16) r) (block_of_second one two r whole)
