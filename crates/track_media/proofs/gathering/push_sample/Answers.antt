use Rattle.std.proofs.Common.{◌≡◌, sym, ap, ◌∙◌, Some, None}
use Rattle.std.specs.Prelude.{position, slice_set}
use Rattle.track_media.specs.Gathering.{is_of}
use Rattle.track_media.proofs.GatheringLemmas.{pushed_at, pushed_nowhere, on_ok}
use Rattle.track_media.proofs.gathering.push_sample.Goals as goal

pub returns-in-Some : goal.returns-in-Some
returns-in-Some c =
    let items = c.args.parts.now.items in
    let r = c.index_mut.result.now in
    let place : position (is_of c.args.id) items ≡ Some c.in-Some.i = ap (position (is_of c.args.id)) (sym c.deref.ensures.value) ∙ sym c.part_place.ensures ∙ c.in-Some.is in
    on_ok c.push.result _ _ (λ e. ap (λ xs. slice_set items c.in-Some.i (record { track = r.track; samples = xs })) e ∙ pushed_at items c.in-Some.i c.args.id c.args.sample r place c.index_mut.ensures.value) c.push.ensures.ok

pub returns-in-None : goal.returns-in-None
returns-in-None c =
    let items = c.args.parts.now.items in
    let place : position (is_of c.args.id) items ≡ None = ap (position (is_of c.args.id)) (sym c.deref.ensures.value) ∙ sym c.part_place.ensures ∙ c.in-None.is in
    sym (pushed_nowhere items c.args.id c.args.sample place)
