-- The demonstration file: a script and a media file that are made from a number.
use Rattle.std.specs.Prelude.{ℕ, zero, suc, ◌+◌, ◌-◌, ◌*◌, ◌/◌, ◌%◌, ◌==◌, if◌then◌else◌, List, [], ◌++◌, take, slice_range, codes}
use Rattle.std.specs.Int.{w64, to_be_bytes}
use Rattle.std.specs.Fmt.{decimal}
use Rattle.hex.specs.Hex.{encode_lower}
use Rattle.rand_core.specs.Stream.{Stream, next_u64}
use Rattle.rand_core.specs.Steps.{stream_of, steps_u64_high, word_bytes}
use Rattle.rand_xoshiro.specs.SplitMix64.{splitmix_seed}
use Rattle.rand_xoshiro.specs.Xoshiro256.{plus_plus, of_seed}
use Rattle.eme_types.specs.declared.sample.Scheme.{Scheme}
use Rattle.eme_types.specs.declared.sample.Scheme.TheVariants.{Cenc, Cbcs}
use Rattle.clearkey_json.specs.Base64url.{base64url}

-- what xoshiro256++ answers from a state on
abbrev pub words_of : List ℕ → Stream
words_of state = stream_of (steps_u64_high plus_plus) state

-- the words of the number n
abbrev pub words_from : ℕ → Stream
words_from n = words_of (of_seed (splitmix_seed 32 n))

-- the bytes of the next k words, each big-endian, and the words behind them
abbrev pub next_bytes : ℕ → Stream → List ℕ × Stream
next_bytes k words = word_bytes (to_be_bytes w64) next_u64 k words

-- a step is taken k times
unfoldable pub times : {A : Type 0} → (A → A) → ℕ → A → A
times step zero x = x
times step (suc k) x = step (times step k x)

-- the texts of 0 to k - 1, joined
unfoldable pub joined : (ℕ → List ℕ) → ℕ → List ℕ
joined text zero = []
joined text (suc k) = joined text k ++ text k

-- the first 16 words are four times a key id and a key, of 16 bytes each
abbrev pub kid_at : List ℕ → ℕ → List ℕ
kid_at keys i = slice_range keys (32 * i) (32 * i + 16)

-- and the key that goes with it
abbrev pub key_at : List ℕ → ℕ → List ℕ
key_at keys i = slice_range keys (32 * i + 16) (32 * i + 32)

-- a sample begins with a word
abbrev pub size_at : Stream → ℕ
size_at words = 16 + (next_u64 words).0 % 1009

-- of its bytes so many are clear
abbrev pub clear_at : Stream → ℕ
clear_at words = (next_u64 words).0 / 1009 % 17

-- behind it comes the IV of two words
abbrev pub iv_at : Stream → List ℕ × Stream
iv_at words = next_bytes 2 (next_u64 words).1

-- and then as many words as the data needs
abbrev pub data_at : Stream → List ℕ × Stream
data_at words = next_bytes ((size_at words + 7) / 8) (iv_at words).1

-- track 1 has the scheme `cenc`, track 2 `cbcs` with the pattern 1:9
abbrev pub sample_head : Scheme → List ℕ
sample_head Cenc = codes "sample 1 cenc "
sample_head Cbcs = codes "sample 2 cbcs "

-- the pattern, with the space behind it
abbrev pub pattern : Scheme → List ℕ
pattern Cenc = []
pattern Cbcs = codes "1:9 "

-- the line of a sample: one subsample of its clear and its protected part
abbrev pub sample_words : Scheme → List ℕ → ℕ → ℕ → List ℕ → List ℕ → List ℕ
sample_words scheme kid size clear iv bytes = sample_head scheme ++ (encode_lower kid ++ (codes " " ++ (encode_lower iv ++ (codes " " ++ (pattern scheme ++ (decimal clear ++ (codes "+" ++ (decimal (size - clear) ++ (codes " " ++ (encode_lower bytes ++ codes "\n"))))))))))

-- the line of the next sample
unfoldable pub sample_line : Scheme → List ℕ → Stream → List ℕ
sample_line scheme kid words = sample_words scheme kid (size_at words) (clear_at words) (iv_at words).0 (take (size_at words) (data_at words).0)

-- the words behind it
unfoldable pub behind_sample : Stream → Stream
behind_sample words = (data_at words).1

-- 32 samples of a track
unfoldable pub samples_text : Scheme → List ℕ → Stream → List ℕ
samples_text scheme kid words = joined (λ i. sample_line scheme kid (times behind_sample i words)) 32

-- the words behind them
unfoldable pub behind_samples : Stream → Stream
behind_samples words = times behind_sample 32 words

-- a fragment: samples of track 1, then of track 2
unfoldable pub fragment_text : List ℕ → Stream → List ℕ
fragment_text kid words = codes "fragment\n" ++ samples_text Cenc kid words ++ samples_text Cbcs kid (behind_samples words)

-- the words behind it
unfoldable pub behind_fragment : Stream → Stream
behind_fragment words = behind_samples (behind_samples words)

-- fragment f has the key id of number f mod 4
abbrev pub fragment_at : List ℕ → Stream → ℕ → List ℕ
fragment_at keys words f = fragment_text (kid_at keys (f % 4)) (times behind_fragment f words)

-- the sample list: 256 fragments
unfoldable pub media_text : List ℕ → Stream → List ℕ
media_text keys words = codes "SMPL 1\ntrack 1\ntrack 2\n" ++ joined (fragment_at keys words) 256

-- before each item but the first
abbrev pub comma : ℕ → List ℕ
comma i = if i == 0 then [] else codes ","

-- a key id of the request
abbrev pub kid_text : List ℕ → ℕ → List ℕ
kid_text keys i = comma i ++ (codes "\"" ++ (base64url (kid_at keys i) ++ codes "\""))

-- a key of a key set
abbrev pub key_text : List ℕ → ℕ → List ℕ
key_text keys i = comma i ++ (codes "{\"kty\":\"oct\",\"kid\":\"" ++ (base64url (kid_at keys i) ++ (codes "\",\"k\":\"" ++ (base64url (key_at keys i) ++ codes "\"}"))))

-- a session gets the first two keys, three fragments are fed, and it gets all keys
unfoldable pub script_text : List ℕ → List ℕ
script_text keys =
    codes "EMES 1\n0 create d temporary\n0 request d keyids text:{\"kids\":["
    ++ joined (kid_text keys) 4
    ++ codes "]}\n0 settle\n0 update d text:{\"keys\":["
    ++ joined (key_text keys) 2
    ++ codes "],\"type\":\"temporary\"}\n0 settle\n0 feed\n0 feed\n0 feed\n0 settle\n0 update d text:{\"keys\":["
    ++ joined (key_text keys) 4
    ++ codes "],\"type\":\"temporary\"}\n"

-- the script of the number n
unfoldable pub demo_script : ℕ → List ℕ
demo_script n = script_text (next_bytes 16 (words_from n)).0

-- the media file of the number n, a sample list
unfoldable pub demo_media : ℕ → List ℕ
demo_media n = media_text (next_bytes 16 (words_from n)).0 (next_bytes 16 (words_from n)).1
