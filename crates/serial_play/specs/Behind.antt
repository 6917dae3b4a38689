-- What references point to.
use Rattle.std.specs.Prelude.{List, map}
use Rattle.std.specs.Borrow.{Bor}

-- the values behind these references
abbrev pub all_behind : {A : Type 0} → List (Bor A) → List A
all_behind {A} xs = map (λ (x : Bor A). x.now) xs
