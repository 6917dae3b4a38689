use Rattle.std.proofs.Common.{ℕ, List, ap, ◌∙◌, sym}
use Rattle.player_core.specs.Demo.{words_of, media_text}
use Rattle.player_core.proofs.Demos.{demo_put}
use Rattle.player_core.proofs.demo.demo_input.Goals as goal

pub returns : goal.returns
returns c =
    demo_put c.args.n (words_of c.seed_from_u64-rng.result) (words_of c.next_words.new.rng) c.in_ok-keys.keys c.as_slice.result.now c.in_ok-script.script c.in_ok-media.media (ap words_of c.seed_from_u64-rng.ensures) c.in_ok-keys.ensures.bytes c.as_slice.ensures c.in_ok-script.ensures
    (c.in_ok-media.ensures ∙ ap (λ (keys : List ℕ). media_text keys (words_of c.next_words.new.rng)) (c.as_slice-2.ensures ∙ sym c.as_slice.ensures))
