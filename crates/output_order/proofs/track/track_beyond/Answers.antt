use Rattle.std.proofs.Common.{◌≡◌, ℕ, ◌≤◌, List, ◌++◌, length, take, ap, ◌∙◌, sym, append_assoc, append-nil, arith}
use Rattle.std.specs.List.{concat}
use Rattle.std.proofs.lemmas.List.{take_all}
use Rattle.cdm_state.specs.Output.{out}
use Rattle.output_order.specs.TrackFile.{file_of}
use Rattle.output_order.proofs.Sizes.{concat_more}
use Rattle.output_order.proofs.track.track_beyond.Goals as goal

pub loop-index-init : goal.loop-index-init
loop-index-init c =
    let front : List ℕ = concat (take c.args.first (out c.args.cdm.now.tracks c.args.cdm.now.history c.args.track)) in
    sym (append-nil front) ∙ ap (λ (x : List ℕ). front ++ x) (sym c.in_ok-joined.ensures)

pub loop-index-preserved : goal.loop-index-preserved
loop-index-preserved c =
    let xs : List (List ℕ) = out c.args.cdm.now.tracks c.args.cdm.now.history c.args.track in
    let front : List ℕ = concat (take c.args.first xs) in
    let new : List ℕ = c.in-Some.bytes.now in
    concat_more xs c.loop-index.index new c.in-Some.ensures ∙ (ap (λ (x : List ℕ). x ++ new) c.loop-index.invariant ∙ (append_assoc front c.loop-index.joined new ∙ ap (λ (x : List ℕ). front ++ x) (sym c.in_ok-extend_from_slice-in-Some.ensures.ok)))

pub returns-clause-bytes : goal.returns-clause-bytes
unfolding file_of
returns-clause-bytes c =
    let xs : List (List ℕ) = out c.args.cdm.now.tracks c.args.cdm.now.history c.args.track in
    let many : c.in_ok-samples.field-0.samples ≡ length xs = c.in_ok-samples.ensures.samples in
    let all : length xs ≤ c.loop-index.index = omega (arith, many, c.in_ok-samples.samples-is, c.loop-index-test.false) in
    sym (ap concat (take_all c.loop-index.index xs all)) ∙ c.loop-index.invariant
