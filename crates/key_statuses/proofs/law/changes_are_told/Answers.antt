use Rattle.std.proofs.Common.{◌≡◌, Bool, true, false, IsFalse, Decides, ◌↔◌, not, refl}
use Rattle.key_statuses.specs.Statuses.{is_changed}
use Rattle.key_statuses.proofs.Alike.{tables_alike, statuses_alike, changed_exactly}
use Rattle.key_statuses.proofs.law.changes_are_told.Goals as goal

-- a test is false exactly where its negation is true
told_false : {P : Type 0} → (b : Bool) → Decides (not b) P → IsFalse b ↔ P
told_false true d = (λ e. cc, λ p. absurd (let f : false ≡ true = d.1 p in cc))
told_false false d = (λ _. d.0 refl, λ _. refl)

pub returns : goal.returns
returns c = record {
  tables = tables_alike;
  statuses = statuses_alike;
  changes = λ old before new after. told_false (is_changed old before new after) (changed_exactly old before new after);
}
