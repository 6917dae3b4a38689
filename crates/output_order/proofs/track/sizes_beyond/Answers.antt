use Rattle.std.proofs.Common.{◌≡◌, ◌+◌, ◌≤◌, ◌<◌, ℕ, List, length, take, ap, ◌∙◌, sym, arith}
use Rattle.std.specs.List.{sum_by}
use Rattle.std.proofs.lemmas.List.{take_all}
use Rattle.cdm_state.specs.Output.{out}
use Rattle.output_order.proofs.Sizes.{nothing_at, something_at, sum_by_at}
use Rattle.output_order.proofs.track.sizes_beyond.Goals as goal

pub returns-in-None-clause-samples : goal.returns-in-None-clause-samples
returns-in-None-clause-samples c =
    let le : length (out c.args.cdm.now.tracks c.args.cdm.now.history c.args.track) ≤ c.loop-index.index = nothing_at _ _ c.in-None.ensures in
    let ge : c.loop-index.index ≤ length (out c.args.cdm.now.tracks c.args.cdm.now.history c.args.track) = c.loop-index.invariant.within in
    omega (arith, le, ge)

pub returns-in-None-clause-bytes : goal.returns-in-None-clause-bytes
returns-in-None-clause-bytes c =
    let xs : List (List ℕ) = out c.args.cdm.now.tracks c.args.cdm.now.history c.args.track in
    sym (ap (λ ys. sum_by (length {A = ℕ}) ys) (take_all c.loop-index.index xs (nothing_at xs c.loop-index.index c.in-None.ensures))) ∙ c.loop-index.invariant.bytes

pub loop-index-preserved : goal.loop-index-preserved
loop-index-preserved c =
    let xs : List (List ℕ) = out c.args.cdm.now.tracks c.args.cdm.now.history c.args.track in
    let i : ℕ = c.loop-index.index in
    let lt : i < length xs = something_at xs i c.in-Some.sample.now c.in-Some.ensures in
    let more : sum_by (length {A = ℕ}) (take (i + 1) xs) ≡ sum_by (length {A = ℕ}) (take i xs) + length c.in-Some.sample.now = sum_by_at (length {A = ℕ}) xs i c.in-Some.sample.now c.in-Some.ensures in
    let added : c.in-Some-checked_add.more ≡ c.loop-index.bytes + length c.in-Some.sample.now = c.in-Some-checked_add.ensures.1 in
    let so_far : sum_by (length {A = ℕ}) (take i xs) ≡ sum_by (length {A = ℕ}) (take c.args.first xs) + c.loop-index.bytes = c.loop-index.invariant.bytes in
    record {
      within = omega (arith, lt);
      bytes = omega (arith, more, added, so_far);
    }
