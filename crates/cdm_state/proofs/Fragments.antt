-- How many fragments a history feeds.
use Rattle.std.proofs.Common.{◌≡◌, ◌≤◌, ◌+◌, ℕ, List, [], ◌∷◌, length, Some, None, arith}
use Rattle.std.specs.List.{sum_by}
use Rattle.std.proofs.lemmas.List.Sums.{sum_by-cons}
use Rattle.eme_types.specs.declared.entry.Entry.{Entry}
use Rattle.eme_types.specs.declared.entry.Entry.TheVariants.{Feed}
use Rattle.cdm_state.specs.Feeds.{fragments_fed}

pub one_at_most : (e : Entry) → fragments_fed e ≤ 1
one_at_most (Feed line None) = omega arith
one_at_most (Feed line (Some f)) = omega arith
one_at_most e = omega arith

-- at most as many as it has entries
pub few_fragments : (h : List Entry) → sum_by fragments_fed h ≤ length h
few_fragments [] = omega arith
few_fragments (e ∷ h) =
    let one : fragments_fed e ≤ 1 = one_at_most e in
    let rest : sum_by fragments_fed h ≤ length h = few_fragments h in
    let sum : sum_by fragments_fed (e ∷ h) ≡ fragments_fed e + sum_by fragments_fed h = sum_by-cons fragments_fed e h in
    omega (arith, one, rest, sum)
