use Rattle.std.proofs.Common.{◌≡◌, ◌*◌, length, ap, ◌∙◌, arith}
use Rattle.player_core.specs.Demo.{words_of, next_bytes}
use Rattle.player_core.proofs.Demos.{no_words, one_word, eight_more}
use Rattle.player_core.proofs.demo.next_words.Goals as goal

pub loop-k-init : goal.loop-k-init
loop-k-init c = record { bytes = no_words c.new-bytes.result (words_of c.args.rng.now) c.new-bytes.ensures; many = ap length c.new-bytes.ensures }

pub loop-k-preserved : goal.loop-k-preserved
loop-k-preserved c = record {
  bytes = one_word c.loop-k.k c.next_u64.result (words_of c.args.rng.now) (words_of c.loop-k.rng) (words_of c.next_u64.new.self) c.loop-k.bytes c.to_be_bytes-word.result c.extend_from_slice.new.self c.loop-k.invariant.bytes c.next_u64.ensures c.to_be_bytes-word.ensures c.in_ok-extend_from_slice.ensures.ok;
  many = eight_more c.loop-k.k c.next_u64.result c.loop-k.bytes c.to_be_bytes-word.result c.extend_from_slice.new.self c.loop-k.invariant.many c.to_be_bytes-word.ensures c.in_ok-extend_from_slice.ensures.ok;
}

pub returns-clause-bytes : goal.returns-clause-bytes
returns-clause-bytes c =
    let same : c.loop-k.k ≡ c.args.count = omega (arith, c.loop-k-test.false, c.loop-k.auto.k-end) in
    c.loop-k.invariant.bytes ∙ ap (λ n. next_bytes n (words_of c.args.rng.now)) same

pub returns-clause-many : goal.returns-clause-many
returns-clause-many c =
    let same : c.loop-k.k ≡ c.args.count = omega (arith, c.loop-k-test.false, c.loop-k.auto.k-end) in
    c.loop-k.invariant.many ∙ ap (λ n. 8 * n) same
