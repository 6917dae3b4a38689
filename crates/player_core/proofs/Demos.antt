-- The texts of the demonstration file, one item more.
use Rattle.std.proofs.Common.{◌≡◌, ℕ, ◌+◌, ◌*◌, ◌/◌, ◌%◌, List, [], ◌++◌, length, take, codes, length-append, refl, ap, ◌∙◌, sym, append_assoc, append-nil, add-one, arith}
use Rattle.std.specs.Int.{w64, to_be_bytes}
use Rattle.rand_core.specs.Stream.{Stream, next_u64}
use Rattle.rand_core.specs.Steps.{word_bytes}
use Rattle.rand_core.proofs.StepsLemmas.{word_bytes_more}
use Rattle.eme_types.specs.declared.sample.Scheme.{Scheme}
use Rattle.eme_types.specs.declared.sample.Scheme.TheVariants.{Cenc, Cbcs}
use Rattle.player_core.specs.Demo.{next_bytes, words_from, joined, times, size_at, clear_at, iv_at, data_at, sample_words, sample_line, behind_sample, samples_text, behind_samples, fragment_text, behind_fragment, media_text, kid_text, key_text, script_text, demo_script, demo_media}

joined_more : (text : ℕ → List ℕ) (k : ℕ) → joined text (k + 1) ≡ joined text k ++ text k
unfolding joined
joined_more text k = ap (joined text) (add-one k)

pub put_none : (old : List ℕ) (text : ℕ → List ℕ) → old ≡ old ++ joined text 0
unfolding joined
put_none old text = sym (append-nil old)

-- one text more
pub put_text : (old now next : List ℕ) (text : ℕ → List ℕ) (k : ℕ) → now ≡ old ++ joined text k → next ≡ now ++ text k → next ≡ old ++ joined text (k + 1)
put_text old now next text k before more =
    more ∙ (ap (λ (x : List ℕ). x ++ text k) before ∙ (append_assoc old (joined text k) (text k) ∙ ap (λ (x : List ℕ). old ++ x) (sym (joined_more text k))))

pub times_none : {A : Type 0} (step : A → A) (x : A) → x ≡ times step 0 x
unfolding times
times_none step x = refl

-- one step more
pub times_more : {A : Type 0} (step : A → A) (k : ℕ) (x : A) → times step (k + 1) x ≡ step (times step k x)
unfolding times
times_more step k x = ap (λ n. times step n x) (add-one k)

pub no_words : (bytes : List ℕ) (words : Stream) → bytes ≡ [] → (bytes, words) ≡ next_bytes 0 words
unfolding word_bytes
no_words bytes words is = ap (λ (b : List ℕ). let p : List ℕ × Stream = (b, words) in p) is

-- one word more
pub one_word : (k word : ℕ) (first now next : Stream) (before written after : List ℕ) → (before, now) ≡ next_bytes k first → (word, next) ≡ next_u64 now → written ≡ to_be_bytes w64 word → after ≡ before ++ written → (after, next) ≡ next_bytes (k + 1) first
one_word k word first now next before written after so given wrote is =
    ap (λ (b : List ℕ). let p : List ℕ × Stream = (b, next) in p) (is ∙ ap (λ (b : List ℕ). before ++ b) wrote) ∙ word_bytes_more (to_be_bytes w64) next_u64 k first now next before word so given

pub eight_more : (k word : ℕ) (before written after : List ℕ) → length before ≡ 8 * k → written ≡ to_be_bytes w64 word → after ≡ before ++ written → length after ≡ 8 * (k + 1)
eight_more k word before written after long wrote is =
    let eight : length written ≡ 8 = ap length wrote in
    let all : length after ≡ length before + length written = ap length is ∙ length-append before written in
    omega (arith, long, eight, all)

-- the sample that the words give
pub sample_put : (scheme : Scheme) (kid : List ℕ) (s0 s1 s2 s3 : Stream) (word size clear : ℕ) (iv bytes : List ℕ) → (word, s1) ≡ next_u64 s0 → size ≡ 16 + word % 1009 → clear ≡ word / 1009 % 17 → (iv, s2) ≡ next_bytes 2 s1 → (bytes, s3) ≡ next_bytes ((size + 7) / 8) s2 → (sample_words scheme kid size clear iv (take size bytes) ≡ sample_line scheme kid s0) × (s3 ≡ behind_sample s0)
unfolding sample_line behind_sample
sample_put scheme kid s0 s1 s2 s3 word size clear iv bytes given size_is clear_is ivs drawn =
    let first : word ≡ (next_u64 s0).0 = ap (λ (p : ℕ × Stream). p.0) given in
    let behind : s1 ≡ (next_u64 s0).1 = ap (λ (p : ℕ × Stream). p.1) given in
    let sized : size ≡ size_at s0 = size_is ∙ ap (λ n. 16 + n % 1009) first in
    let cleared : clear ≡ clear_at s0 = clear_is ∙ ap (λ n. n / 1009 % 17) first in
    let iv_is : (iv, s2) ≡ iv_at s0 = ivs ∙ ap (next_bytes 2) behind in
    let data_is : (bytes, s3) ≡ data_at s0 = drawn ∙ (ap (λ n. next_bytes ((n + 7) / 8) s2) sized ∙ ap (λ (p : List ℕ × Stream). next_bytes ((size_at s0 + 7) / 8) p.1) iv_is) in (
      ap (λ n. sample_words scheme kid n clear iv (take n bytes)) sized ∙ (ap (λ n. sample_words scheme kid (size_at s0) n iv (take (size_at s0) bytes)) cleared ∙ (ap (λ (p : List ℕ × Stream). sample_words scheme kid (size_at s0) (clear_at s0) p.0 (take (size_at s0) bytes)) iv_is ∙ ap (λ (p : List ℕ × Stream). sample_words scheme kid (size_at s0) (clear_at s0) (iv_at s0).0 (take (size_at s0) p.0)) data_is)),
      ap (λ (p : List ℕ × Stream). p.1) data_is,
    )

pub fragment_put : (old one two three kid : List ℕ) (s0 s1 s2 : Stream) → one ≡ old ++ codes "fragment\n" → two ≡ one ++ samples_text Cenc kid s0 → s1 ≡ behind_samples s0 → three ≡ two ++ samples_text Cbcs kid s1 → s2 ≡ behind_samples s1 → (three ≡ old ++ fragment_text kid s0) × (s2 ≡ behind_fragment s0)
unfolding fragment_text behind_fragment
fragment_put old one two three kid s0 s1 s2 begun first between second behind =
    let cbcs : three ≡ two ++ samples_text Cbcs kid (behind_samples s0) = second ∙ ap (λ s. two ++ samples_text Cbcs kid s) between in
    let cenc : two ≡ old ++ (codes "fragment\n" ++ samples_text Cenc kid s0) = first ∙ (ap (λ (x : List ℕ). x ++ samples_text Cenc kid s0) begun ∙ append_assoc old (codes "fragment\n") (samples_text Cenc kid s0)) in (
      cbcs ∙ (ap (λ (x : List ℕ). x ++ samples_text Cbcs kid (behind_samples s0)) cenc ∙ append_assoc old (codes "fragment\n" ++ samples_text Cenc kid s0) (samples_text Cbcs kid (behind_samples s0))),
      behind ∙ ap behind_samples between,
    )

pub script_put : (keys a b c d e f g : List ℕ) → a ≡ codes "EMES 1\n0 create d temporary\n0 request d keyids text:{\"kids\":[" → b ≡ a ++ joined (kid_text keys) 4 → c ≡ b ++ codes "]}\n0 settle\n0 update d text:{\"keys\":[" → d ≡ c ++ joined (key_text keys) 2 → e ≡ d ++ codes "],\"type\":\"temporary\"}\n0 settle\n0 feed\n0 feed\n0 feed\n0 settle\n0 update d text:{\"keys\":[" → f ≡ e ++ joined (key_text keys) 4 → g ≡ f ++ codes "],\"type\":\"temporary\"}\n" → g ≡ script_text keys
unfolding script_text
script_put keys a b c d e f g ia ib ic id ie if_ ig =
    ig ∙ ap (λ (x : List ℕ). x ++ codes "],\"type\":\"temporary\"}\n")
    (if_ ∙ ap (λ (x : List ℕ). x ++ joined (key_text keys) 4)
    (ie ∙ ap (λ (x : List ℕ). x ++ codes "],\"type\":\"temporary\"}\n0 settle\n0 feed\n0 feed\n0 feed\n0 settle\n0 update d text:{\"keys\":[")
    (id ∙ ap (λ (x : List ℕ). x ++ joined (key_text keys) 2)
    (ic ∙ ap (λ (x : List ℕ). x ++ codes "]}\n0 settle\n0 update d text:{\"keys\":[")
    (ib ∙ ap (λ (x : List ℕ). x ++ joined (kid_text keys) 4) ia)))))

-- the texts of the number
pub demo_put : (n : ℕ) (s0 s1 : Stream) (keys given script media : List ℕ) → s0 ≡ words_from n → (keys, s1) ≡ next_bytes 16 s0 → given ≡ keys → script ≡ script_text given → media ≡ media_text given s1 → (script ≡ demo_script n) × (media ≡ demo_media n)
unfolding demo_script demo_media
demo_put n s0 s1 keys given script media seeded drawn same script_is media_is =
    let pair : (keys, s1) ≡ next_bytes 16 (words_from n) = drawn ∙ ap (next_bytes 16) seeded in (
      script_is ∙ (ap script_text same ∙ ap (λ (p : List ℕ × Stream). script_text p.0) pair),
      media_is ∙ (ap (λ (k : List ℕ). media_text k s1) same ∙ ap (λ (p : List ℕ × Stream). media_text p.0 p.1) pair),
    )
