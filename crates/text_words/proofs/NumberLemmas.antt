-- The value of digits.
use Rattle.std.proofs.Common.{◌≡◌, ◌<◌, ◌≤◌, ◌+◌, ◌-◌, ◌*◌, ℕ, List, length, take, get_or, inl, inr, lit≤, Bool, true, false, Some, None, ap, ◌∙◌, arith}
use Rattle.std.specs.Prelude.{nat_le, if◌then◌else◌}
use Rattle.std.specs.List.{list_all}
use Rattle.std.specs.Char.{is_ascii_digit, digit_value}
use Rattle.std.specs.Str.Parse.{digits_value}
use Rattle.std.proofs.lemmas.Bool.{cases_Bool}
use Rattle.std.proofs.lemmas.Bool.Decides.{nat_tests}
use Rattle.std.proofs.lemmas.List.Folds.{list_all_at}
use Rattle.std.proofs.lemmas.Int.Digits.{digits_value_more}
use Rattle.std.proofs.lemmas.Str.Parse.{digits_value-take-le}

passes : (p : ℕ → Bool) (ds : List ℕ) (i : ℕ) → list_all p ds ≡ true → i < length ds → p (get_or ds i 0) ≡ true
passes p ds i all lt = elim (cases_Bool (p (get_or ds i 0))) [
  | inl yes' ↦ yes'
  | inr no' ↦ let none : list_all p ds ≡ false = list_all_at p ds i 0 lt no' in absurd cc
]

digit_is : (c : ℕ) → is_ascii_digit c ≡ true → digit_value c ≡ c - 48
digit_is c e = grind (arith, nat_tests)

pub value_more : (ds : List ℕ) (i : ℕ) → list_all is_ascii_digit ds ≡ true → i < length ds → digits_value 10 (take (i + 1) ds) ≡ digits_value 10 (take i ds) * 10 + (get_or ds i 0 - 48)
value_more ds i all lt =
    digits_value_more 10 ds i lt ∙ ap (λ n. digits_value 10 (take i ds) * 10 + n) (digit_is (get_or ds i 0) (passes is_ascii_digit ds i all lt))

chosen_none : (v most : ℕ) → most < v → None ≡ (if nat_le v most then Some v else None)
chosen_none v most lt = grind (arith, nat_tests)

-- a value above the limit stays above it
pub too_large : (ds : List ℕ) (i most next : ℕ) → list_all is_ascii_digit ds ≡ true → i < length ds → next ≡ digits_value 10 (take i ds) * 10 + (get_or ds i 0 - 48) → most < next → None ≡ (if nat_le (digits_value 10 ds) most then Some (digits_value 10 ds) else None)
too_large ds i most next all lt is above =
    let more = value_more ds i all lt in
    let within : digits_value 10 (take (i + 1) ds) ≤ digits_value 10 ds = digits_value-take-le 10 ds (i + 1) (lit≤ tt) in
    chosen_none (digits_value 10 ds) most (omega (arith, more, within, is, above))
