-- Samples by reference.
use Rattle.std.proofs.Common.{◌≡◌, ℕ, ◌≤◌, List, map, length, Option, Some, None, slice_get, ap, ◌∙◌, arith}
use Rattle.std.specs.Prelude.{option_map}
use Rattle.std.specs.Borrow.{Bor}
use Rattle.std.proofs.lemmas.List.{length-map}
use Rattle.std.proofs.lemmas.Option.{slice_get-map, slice_get_past}
use Rattle.eme_types.specs.declared.sample.EncSample.{EncSample}
use Rattle.serial_play.specs.Behind.{all_behind}

abbrev now : Bor EncSample → EncSample
now x = x.now

pub behind_at : (xs : List (Bor EncSample)) (n : ℕ) (x : Bor EncSample) → slice_get xs n ≡ Some x → slice_get (all_behind xs) n ≡ Some x.now
behind_at xs n x at = slice_get-map now xs n ∙ ap (option_map now) at

pub behind_past : (xs : List (Bor EncSample)) (n : ℕ) → length xs ≤ n → slice_get (all_behind xs) n ≡ None
behind_past xs n le = slice_get_past (all_behind xs) n (let many = length-map xs now in omega (arith, many, le))
