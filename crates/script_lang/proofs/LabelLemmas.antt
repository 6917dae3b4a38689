-- Labels as texts.
use Rattle.std.proofs.Common.{◌≡◌, Bool, List, [], ◌∷◌, refl, ap, map}
use Rattle.std.specs.Prelude.{◌||◌}
use Rattle.std.specs.List.{list_any}

-- some item is seen as a value that passes, where some value of those seen passes
pub any_seen : {X Y : Type 0} (view : X → Y) (p : Y → Bool) (xs : List X) → list_any (λ x. p (view x)) xs ≡ list_any p (map view xs)
any_seen view p [] = refl
any_seen view p (x ∷ xs) = ap (λ b. p (view x) || b) (any_seen view p xs)
