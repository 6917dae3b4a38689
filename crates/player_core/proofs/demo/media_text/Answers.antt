use Rattle.std.proofs.Common.{◌≡◌, ℕ, ◌%◌, List, ◌++◌, codes, ap, ◌∙◌, sym, arith}
use Rattle.player_core.specs.Demo.{words_of, joined, kid_at, fragment_text, behind_fragment, fragment_at, media_text}
use Rattle.player_core.proofs.Demos.{put_none, put_text, times_none, times_more}
use Rattle.player_core.proofs.demo.media_text.Goals as goal

pub loop-f-init : goal.loop-f-init
loop-f-init c = record {
  out = c.in_ok-out.ensures ∙ put_none (codes "SMPL 1\ntrack 1\ntrack 2\n") (fragment_at c.args.keys.now (words_of c.args.rng.now));
  words = times_none behind_fragment (words_of c.args.rng.now);
}

pub loop-f-preserved : goal.loop-f-preserved
loop-f-preserved c = record {
  out = put_text (codes "SMPL 1\ntrack 1\ntrack 2\n") c.loop-f.out c.put_fragment.new.out (fragment_at c.args.keys.now (words_of c.args.rng.now)) c.loop-f.f c.loop-f.invariant.out
      (c.in_ok-put_fragment.ensures.out ∙ (ap (λ (kid : List ℕ). c.loop-f.out ++ fragment_text kid (words_of c.loop-f.rng)) c.kid_of.ensures ∙ ap (λ s. c.loop-f.out ++ fragment_text (kid_at c.args.keys.now (c.loop-f.f % 4)) s) c.loop-f.invariant.words));
  words = c.in_ok-put_fragment.ensures.words ∙ (ap behind_fragment c.loop-f.invariant.words ∙ sym (times_more behind_fragment c.loop-f.f (words_of c.args.rng.now)));
}

pub returns : goal.returns
unfolding media_text
returns c =
    let same : c.loop-f.f ≡ 256 = omega (arith, c.loop-f-test.false, c.loop-f.auto.f-end) in
    c.loop-f.invariant.out ∙ ap (λ n. codes "SMPL 1\ntrack 1\ntrack 2\n" ++ joined (fragment_at c.args.keys.now (words_of c.args.rng.now)) n) same
