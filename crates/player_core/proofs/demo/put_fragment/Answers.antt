use Rattle.player_core.specs.Demo.{words_of}
use Rattle.player_core.proofs.Demos.{fragment_put}
use Rattle.player_core.proofs.demo.put_fragment.Goals as goal

pub returns-clause-out : goal.returns-clause-out
returns-clause-out c =
    (fragment_put c.args.out.now c.extend_from_slice.new.self c.put_samples.new.out c.put_samples-2.new.out c.args.kid.now (words_of c.args.rng.now) (words_of c.put_samples.new.rng) (words_of c.put_samples-2.new.rng) c.in_ok-extend_from_slice.ensures.ok c.in_ok-put_samples.ensures.out c.in_ok-put_samples.ensures.words c.in_ok-put_samples-2.ensures.out c.in_ok-put_samples-2.ensures.words).0

pub returns-clause-words : goal.returns-clause-words
returns-clause-words c =
    (fragment_put c.args.out.now c.extend_from_slice.new.self c.put_samples.new.out c.put_samples-2.new.out c.args.kid.now (words_of c.args.rng.now) (words_of c.put_samples.new.rng) (words_of c.put_samples-2.new.rng) c.in_ok-extend_from_slice.ensures.ok c.in_ok-put_samples.ensures.out c.in_ok-put_samples.ensures.words c.in_ok-put_samples-2.ensures.out c.in_ok-put_samples-2.ensures.words).1
