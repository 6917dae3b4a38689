use Rattle.std.proofs.Common.{◌≡◌, ◌++◌, ap, ◌∙◌, sym, arith}
use Rattle.player_core.specs.Demo.{words_of, joined, times, sample_line, behind_sample, samples_text, behind_samples}
use Rattle.player_core.proofs.Demos.{put_none, put_text, times_none, times_more}
use Rattle.player_core.proofs.demo.put_samples.Goals as goal

pub loop-i-init : goal.loop-i-init
loop-i-init c = record {
  out = put_none c.args.out.now (λ i. sample_line c.args.scheme c.args.kid.now (times behind_sample i (words_of c.args.rng.now)));
  words = times_none behind_sample (words_of c.args.rng.now);
}

pub loop-i-preserved : goal.loop-i-preserved
loop-i-preserved c = record {
  out = put_text c.args.out.now c.loop-i.out c.put_sample.new.out (λ i. sample_line c.args.scheme c.args.kid.now (times behind_sample i (words_of c.args.rng.now))) c.loop-i.i c.loop-i.invariant.out
      (c.in_ok-put_sample.ensures.out ∙ ap (λ s. c.loop-i.out ++ sample_line c.args.scheme c.args.kid.now s) c.loop-i.invariant.words);
  words = c.in_ok-put_sample.ensures.words ∙ (ap behind_sample c.loop-i.invariant.words ∙ sym (times_more behind_sample c.loop-i.i (words_of c.args.rng.now)));
}

pub returns-clause-out : goal.returns-clause-out
unfolding samples_text
returns-clause-out c =
    let same : c.loop-i.i ≡ 32 = omega (arith, c.loop-i-test.false, c.loop-i.auto.i-end) in
    c.loop-i.invariant.out ∙ ap (λ n. c.args.out.now ++ joined (λ i. sample_line c.args.scheme c.args.kid.now (times behind_sample i (words_of c.args.rng.now))) n) same

pub returns-clause-words : goal.returns-clause-words
unfolding behind_samples
returns-clause-words c =
    let same : c.loop-i.i ≡ 32 = omega (arith, c.loop-i-test.false, c.loop-i.auto.i-end) in
    c.loop-i.invariant.words ∙ ap (λ n. times behind_sample n (words_of c.args.rng.now)) same
