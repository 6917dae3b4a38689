use Rattle.std.proofs.Common.{◌≡◌, ℕ, List, length, get_or, take, ◌∙◌}
use Rattle.eme_types.specs.declared.entry.Entry.{Entry}
use Rattle.cdm_state.specs.Output.{out}
use Rattle.output_order.proofs.Beyond.{front_fewer, count_at, told_more}
use Rattle.output_order.proofs.since.files_beyond.Goals as goal

pub track_beyond-requires : goal.track_beyond-requires
track_beyond-requires c =
    let tracks = c.as_slice-tracks.ensures ∙ c.tracks.ensures in
    let counts = c.as_slice-before.ensures ∙ c.requires.published in
    front_fewer c.args.cdm.now.tracks c.args.cdm.now.history c.args.mark.now.entries _ _ (count_at c.args.cdm.now.tracks c.args.cdm.now.history c.args.mark.now.entries c.as_slice-before.result.now c.as_slice-tracks.result.now c.loop-at.at counts tracks c.loop-at-test.true)

pub loop-at-preserved : goal.loop-at-preserved
loop-at-preserved c =
    let ids : List ℕ = c.args.cdm.now.tracks in
    let h : List Entry = c.args.cdm.now.history in
    let n : ℕ = c.args.mark.now.entries in
    let before : List ℕ = c.as_slice-before.result.now in
    let tracks : List ℕ = c.as_slice-tracks.result.now in
    let at : ℕ = c.loop-at.at in
    let first : get_or before at 0 ≡ length (out ids (take n h) (get_or tracks at 0)) = count_at ids h n before tracks at (c.as_slice-before.ensures ∙ c.requires.published) (c.as_slice-tracks.ensures ∙ c.tracks.ensures) c.loop-at-test.true in
    rw (c.in_ok-push.ensures.ok, c.in_ok-push-2.ensures.ok) (told_more ids h n tracks at c.loop-at.texts c.loop-at.published (get_or before at 0) c.in_ok-beyond.beyond.bytes c.in_ok-beyond.beyond.samples c.loop-at-test.true (record { before = first; bytes = c.in_ok-beyond.ensures.bytes; samples_ = c.in_ok-beyond.ensures.samples }) c.loop-at.invariant)
