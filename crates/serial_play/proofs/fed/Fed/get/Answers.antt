use Rattle.std.proofs.Common.{◌≡◌, ℕ, List, Some, slice_get, length, ap, ◌∙◌, sym, rules, refl}
use Rattle.std.specs.Borrow.{Bor}
use Rattle.std.proofs.lemmas.Option.{slice_get_read}
use Rattle.eme_types.specs.declared.sample.EncSample.{EncSample}
use Rattle.eme_types.specs.WellFormed.{is_well_formed}
use Rattle.play_parts.proofs.Reading.{true_at}
use Rattle.serial_play.specs.Behind.{all_behind}
use Rattle.serial_play.proofs.Feds.{behind_at, behind_past}
use Rattle.serial_play.proofs.fed.Fed.get.Goals as goal

pub returns-then-place-len-clause-formed : goal.returns-then-place-len-clause-formed
returns-then-place-len-clause-formed c =
    let items : List (Bor EncSample) = c.self.inside.samples.items in
    let here : slice_get items c.args.place ≡ Some c.index.result.now = slice_get_read items (length items) c.args.place c.index.result.now refl (search rules) c.index.ensures in
    true_at is_well_formed (all_behind items) c.args.place c.index.result.now.now c.self.invariant (behind_at items c.args.place c.index.result.now here)

pub returns-else-place-len-clause-found : goal.returns-else-place-len-clause-found
returns-else-place-len-clause-found c =
    ap (λ (xs : List EncSample). slice_get xs c.args.place) (sym c.self.view_is) ∙ behind_past c.self.inside.samples.items c.args.place (search rules)
