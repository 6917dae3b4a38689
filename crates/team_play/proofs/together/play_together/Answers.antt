use Rattle.std.proofs.Common.{◌≡◌, ap, ◌∙◌}
use Rattle.eme_types.specs.declared.media.Media.{Media}
use Rattle.cdm_state.specs.Run.{Run}
use Rattle.shared_cdm.specs.Passes.{seen, own_places}
use Rattle.team_play.proofs.Teams.{all_whole}
use Rattle.team_play.proofs.together.play_together.Goals as goal

pub returns-in-Ok-close-clause-whole : goal.returns-in-Ok-close-clause-whole
returns-in-Ok-close-clause-whole g c =
    let same : c.of-whole.result.value ≡ c.args.media = c.of-whole.ensures in
    let is : c.in-Ok-close.cdm.history ≡ seen c.run_crew-pass.result.0 = ap (λ (r : Run). r.history) c.in-Ok-close.ensures.list in
    let tracks : c.in-Ok-close.cdm.tracks ≡ c.args.media.tracks = ap (λ (r : Run). r.tracks) c.in-Ok-close.ensures.list ∙ (c.run_crew-pass.ensures.tracks ∙ ap (λ (m : Media). m.tracks) same) in
    all_whole _ _ c.of-whole.result.value _ _ (own_places c.run_crew-pass.result.0) (seen c.run_crew-pass.result.0) _ c.the_parts_make_a_whole.ensures same tracks is c.history-legal.ensures.legal (rw c.in_ok-end-in-Ok.was at c.run_crew-pass.ensures.over) c.in-Ok-close.ensures.own
