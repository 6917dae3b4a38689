-- What a history that goes on puts out and does: its front, and what is new.
use Rattle.std.proofs.Common.{◌≡◌, ℕ, ◌+◌, List, [], ◌∷◌, ◌++◌, length, refl, ap, ◌∙◌, length-append}
use Rattle.std.specs.Prelude.{count_by}
use Rattle.std.specs.List.{concat, sum_by, fold}
use Rattle.std.proofs.lemmas.List.Folds.{concat-append}
use Rattle.std.proofs.lemmas.List.Sums.{sum_by-append}
use Rattle.eme_types.specs.declared.call.Effect.{Effect}
use Rattle.eme_types.specs.declared.entry.Entry.{Entry}
use Rattle.key_sessions.specs.World.{World, empty_world}
use Rattle.cdm_state.specs.After.{after_entry, effects_of}
use Rattle.cdm_state.specs.History.{world}
use Rattle.cdm_state.specs.Output.{out_from, out}
use Rattle.cdm_state.specs.Settlements.{effects_from, effects_in, is_call}
use Rattle.cdm_state.proofs.OutOn.{out_goes_on}
use Rattle.output_order.specs.Summary.{resolves, rejects}
use Rattle.output_order.specs.TrackFile.{file_of}
use Rattle.output_order.specs.Law.{FileGoesOn, SummaryGoesOn}

effects_from-append : (w : World) (h g : List Entry) → effects_from w (h ++ g) ≡ effects_from w h ++ effects_from (fold after_entry w h) g
effects_from-append w [] g = refl
effects_from-append w (x ∷ h) g = ap (λ (fx : List (List Effect)). effects_of w x ∷ fx) (effects_from-append (after_entry w x) h g)

effects_go_on : (ids : List ℕ) (h g : List Entry) → effects_in ids (h ++ g) ≡ effects_in ids h ++ effects_from (world ids h) g
unfolding effects_in world
effects_go_on ids h g = effects_from-append (empty_world ids) h g

pub file_goes_on : FileGoesOn
unfolding file_of
file_goes_on ids h g t = ap concat (out_goes_on ids h g t) ∙ concat-append (out ids h t) (out_from ids h t g)

-- a sum over what the entries did
counts_go_on : (f : List Effect → ℕ) (ids : List ℕ) (h g : List Entry) → sum_by f (effects_in ids (h ++ g)) ≡ sum_by f (effects_in ids h) + sum_by f (effects_from (world ids h) g)
counts_go_on f ids h g = ap (λ (fx : List (List Effect)). sum_by f fx) (effects_go_on ids h g) ∙ sum_by-append f (effects_in ids h) (effects_from (world ids h) g)

pub summary_goes_on : SummaryGoesOn
summary_goes_on ids h g = record {
  entries = length-append h g;
  promises = sum_by-append is_call h g;
  resolved = counts_go_on (count_by resolves) ids h g;
  rejected = counts_go_on (count_by rejects) ids h g;
  samples = λ t. ap length (out_goes_on ids h g t) ∙ length-append (out ids h t) (out_from ids h t g);
  bytes = λ t. ap (λ (xs : List (List ℕ)). sum_by (length {A = ℕ}) xs) (out_goes_on ids h g t) ∙ sum_by-append (length {A = ℕ}) (out ids h t) (out_from ids h t g);
}
