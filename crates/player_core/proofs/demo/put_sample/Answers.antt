use Rattle.std.proofs.Common.{◌≡◌, ℕ, ◌+◌, ◌/◌, ◌%◌, List, ◌++◌, take, refl, ap, ◌∙◌}
use Rattle.player_core.specs.Demo.{words_of, sample_words, sample_line}
use Rattle.player_core.proofs.Demos.{sample_put}
use Rattle.player_core.proofs.demo.put_sample.Goals as goal

pub returns-clause-out : goal.returns-clause-out
returns-clause-out c =
    let word = c.next_u64-word.result in
    let size : ℕ = 16 + word % 1009 in
    let clear : ℕ = word / 1009 % 17 in
    let line : sample_words c.args.scheme c.args.kid.now size clear c.in_ok-iv.iv (take size c.in_ok-bytes.bytes) ≡ sample_line c.args.scheme c.args.kid.now (words_of c.args.rng.now) = (sample_put c.args.scheme c.args.kid.now (words_of c.args.rng.now) (words_of c.next_u64-word.new.self) (words_of c.next_words.new.rng) (words_of c.next_words-2.new.rng) word size clear c.in_ok-iv.iv c.in_ok-bytes.bytes c.next_u64-word.ensures refl refl c.in_ok-iv.ensures.bytes c.in_ok-bytes.ensures.bytes).0 in
    let bytes : c.front.result.now ≡ take size c.in_ok-bytes.bytes = c.front.ensures ∙ ap (λ (b : List ℕ). take size b) c.as_slice-2.ensures in
    let text : sample_words c.args.scheme c.args.kid.now size clear c.as_slice.result.now c.front.result.now ≡ sample_words c.args.scheme c.args.kid.now size clear c.in_ok-iv.iv (take size c.in_ok-bytes.bytes) = ap (λ (b : List ℕ). sample_words c.args.scheme c.args.kid.now size clear b c.front.result.now) c.as_slice.ensures ∙ ap (λ (b : List ℕ). sample_words c.args.scheme c.args.kid.now size clear c.in_ok-iv.iv b) bytes in
    c.in_ok-extend_from_slice.ensures.ok ∙ ap (λ (x : List ℕ). c.args.out.now ++ x) (c.as_bytes.ensures.value ∙ (c.in_ok-line.ensures ∙ (text ∙ line)))

pub returns-clause-words : goal.returns-clause-words
returns-clause-words c =
    let word = c.next_u64-word.result in
    (sample_put c.args.scheme c.args.kid.now (words_of c.args.rng.now) (words_of c.next_u64-word.new.self) (words_of c.next_words.new.rng) (words_of c.next_words-2.new.rng) word (16 + word % 1009) (word / 1009 % 17) c.in_ok-iv.iv c.in_ok-bytes.bytes c.next_u64-word.ensures refl refl c.in_ok-iv.ensures.bytes c.in_ok-bytes.ensures.bytes).1
