use Rattle.std.proofs.Common.{◌≡◌, ◌≤◌, ◌*◌, length, IsTrue}
use Rattle.std.specs.List.{sum_by, list_all}
use Rattle.eme_types.specs.Fed.{sample_bytes}
use Rattle.eme_types.specs.WellFormed.{is_well_formed}
use Rattle.cdm_state.proofs.tests.samples.Given as goal

abbrev pub invariant-loop-n : goal.invariant-loop-n
invariant-loop-n l = IsTrue (list_all is_well_formed l.samples) × (length l.samples ≡ l.n) × (sum_by sample_bytes l.samples ≤ 16 * l.n)
