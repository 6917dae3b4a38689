-- The line of an entry is read back: its text tells the entry, where the state before it is known.
use Rattle.std.proofs.Common.{zero, suc, ◌≡◌, ℕ, ◌+◌, ◌/◌, ◌%◌, ◌<◌, ◌≤◌, ◌^◌, Bool, true, false, List, [], ◌∷◌, ◌++◌, length, drop, Option, Some, None, ◌⊎◌, inl, inr, refl, ap, sym, ◌∙◌, codes, arith}
use Rattle.std.specs.Prelude.{◌==◌, ◌≢◌, nat_le, nat_lt, if◌then◌else◌}
use Rattle.std.specs.List.{AllByRecursion}
use Rattle.std.specs.Str.{bytes_eq}
use Rattle.std.specs.Str.Parse.{digits_value}
use Rattle.std.specs.Fmt.{decimal, digits, digits_onto, digit_glyph}
use Rattle.std.proofs.lemmas.Fmt.{decimal_is_IsNumeral, decimal_digit}
use Rattle.std.proofs.lemmas.Bool.Decides.{eqb_tells, leb_tells, same_from_decides}
use Rattle.std.proofs.lemmas.Slice.Eq.{bytes_eq-Decides}
use Rattle.eme_types.specs.declared.sample.EncSample.{EncSample}
use Rattle.eme_types.specs.declared.sample.Protect.{Protect}
use Rattle.eme_types.specs.declared.kid.KeyBytes.{KeyBytes}
use Rattle.eme_types.specs.declared.media.Fragment.{Fragment}
use Rattle.eme_types.specs.declared.entry.Verdict.{Verdict}
use Rattle.eme_types.specs.declared.entry.Verdict.TheVariants.{Taken, Stale}
use Rattle.eme_types.specs.declared.entry.Entry.{Entry}
use Rattle.eme_types.specs.declared.entry.Entry.TheVariants.{Call, Job, Task, Tick, Feed, Evict, Claim, Deliver, GiveUp, Publish, PassClear, WaitForKey, Settle}
use Rattle.script_lang.specs.declared.script.Line.{Line}
use Rattle.script_lang.specs.declared.script.Action.{Action}
use Rattle.script_lang.specs.declared.script.Action.TheVariants.{Ask, Feed as FeedAction, Clock, Evict as EvictAction, Settle as SettleAction}
use Rattle.cdm_world.specs.Tracks.{TrackState, find_track}
use Rattle.key_sessions.specs.Machine.{Machine}
use Rattle.key_sessions.specs.Keys.{pick}
use Rattle.key_sessions.specs.World.{World}
use Rattle.cdm_state.specs.Output.{fed_sample}
use Rattle.output_order.specs.Log.{entry_words, fragment_name, hex_text}

-- no space and no line feed
abbrev IsWord : List ℕ → Type 0
IsWord word = AllByRecursion (λ b. 32 < b) word

-- the text does not go on with a word
abbrev Parts : List ℕ → Type 0
Parts [] = ⊥
Parts (b ∷ text) = b ≤ 32

-- the word that a text begins with, and what follows it
abbrev front_word : List ℕ → List ℕ
front_word [] = []
front_word (b ∷ text) = if nat_le b 32 then [] else b ∷ front_word text

abbrev past_word : List ℕ → List ℕ
past_word [] = []
past_word (b ∷ text) = if nat_le b 32 then b ∷ text else past_word text

-- the words of a text, each behind one byte
abbrev first_word : List ℕ → List ℕ
first_word text = front_word (drop 1 text)

abbrev next_words : List ℕ → List ℕ
next_words text = past_word (drop 1 text)

low : (b : ℕ) → b ≤ 32 → nat_le b 32 ≡ true
low b le = elim (leb_tells b 32) [ inl p ↦ p.0 | inr p ↦ absurd (omega (arith, p.1)) ]

high : (b : ℕ) → 32 < b → nat_le b 32 ≡ false
high b lt = elim (leb_tells b 32) [ inl p ↦ absurd (omega (arith, p.1)) | inr p ↦ p.0 ]

front : (w s r : List ℕ) → IsWord w → Parts s → front_word ((w ++ s) ++ r) ≡ w
front [] [] r is parts = absurd parts
front [] (b ∷ s) r is parts = rw (low b parts) refl
front (b ∷ w) s r is parts = rw (high b is.0) (ap (λ (x : List ℕ). b ∷ x) (front w s r is.1 parts))

past : (w s r : List ℕ) → IsWord w → Parts s → past_word ((w ++ s) ++ r) ≡ s ++ r
past [] [] r is parts = absurd parts
past [] (b ∷ s) r is parts = rw (low b parts) refl
past (b ∷ w) s r is parts = rw (high b is.0) (past w s r is.1 parts)

either_word : (b : Bool) (xs ys : List ℕ) → IsWord xs → IsWord ys → IsWord (if b then xs else ys)
either_word true xs ys p q = p
either_word false xs ys p q = q

glyph_above : (b : Bool) (d : ℕ) → 32 < (if b then 48 + d else 87 + d)
glyph_above true d = omega arith
glyph_above false d = omega arith

onto_word : (k n : ℕ) (acc : List ℕ) → IsWord acc → IsWord (digits_onto k 10 false n acc)
onto_word zero n acc is = is
onto_word (suc k) n acc is =
    let g : 32 < digit_glyph false (n % 10) = glyph_above (nat_lt (n % 10) 10) (n % 10) in
    either_word (n / 10 == 0) (digit_glyph false (n % 10) ∷ acc) (digits_onto k 10 false (n / 10) (digit_glyph false (n % 10) ∷ acc)) (g, is) (onto_word k (n / 10) (digit_glyph false (n % 10) ∷ acc) (g, is))

decimal_word : (n : ℕ) → IsWord (decimal n)
unfolding digits
decimal_word n = onto_word 64 n [] tt

longer : (b : Bool) (n : ℕ) (xs ys : List ℕ) → n ≤ length xs → n ≤ length ys → n ≤ length (if b then xs else ys)
longer true n xs ys p q = p
longer false n xs ys p q = q

onto_length : (k n : ℕ) (acc : List ℕ) → length acc ≤ length (digits_onto k 10 false n acc)
onto_length zero n acc = omega arith
onto_length (suc k) n acc =
    let g : ℕ = digit_glyph false (n % 10) in
    let more : length (g ∷ acc) ≤ length (digits_onto k 10 false (n / 10) (g ∷ acc)) = onto_length k (n / 10) (g ∷ acc) in
    longer (n / 10 == 0) (length acc) (g ∷ acc) (digits_onto k 10 false (n / 10) (g ∷ acc)) (omega arith) (omega (arith, more))

-- a number of two digits or more has no text of one digit
two_digits : (n : ℕ) → 10 ≤ n → 2 ≤ length (decimal n)
unfolding digits
two_digits n le =
    let g : ℕ = digit_glyph false (n % 10) in
    let some : n / 10 ≢ 0 = λ e. omega arith in
    let m : ℕ = n / 10 in
    let h : ℕ = digit_glyph false (m % 10) in
    let more : length (h ∷ g ∷ []) ≤ length (digits_onto 62 10 false (m / 10) (h ∷ g ∷ [])) = onto_length 62 (m / 10) (h ∷ g ∷ []) in
    let rest : 2 ≤ length (digits_onto 63 10 false m (g ∷ [])) = longer (m / 10 == 0) 2 (h ∷ g ∷ []) (digits_onto 62 10 false (m / 10) (h ∷ g ∷ [])) (omega arith) (omega (arith, more)) in
    elim (eqb_tells (n / 10) 0) [ inl p ↦ absurd (some p.1) | inr p ↦ rw p.0 rest ]

first_byte : (a b : ℕ) (s t : List ℕ) → a ∷ s ≡ b ∷ t → a ≡ b
first_byte a b s t e = cc

-- only 0 is told as 0
not_zero : (n : ℕ) → n ≢ 0 → decimal n ≢ codes "0"
not_zero n some e = elim (leb_tells n 9) [
  | inl p ↦ (let one : 48 + n ≡ 48 = first_byte (48 + n) 48 [] [] (sym (decimal_digit n (omega (arith, p.1))) ∙ e) in some (omega (arith, one)))
  | inr p ↦ (let two : 2 ≤ length (decimal n) = two_digits n (omega (arith, p.1)) in let one : length (decimal n) ≡ 1 = ap length e in absurd (omega (arith, two, one)))
]

value_of : List ℕ → ℕ
value_of word = digits_value 10 word

value : (n : ℕ) → n < 2 ^ 64 → value_of (decimal n) ≡ n
unfolding value_of
value n small = (decimal_is_IsNumeral n small).1

-- what is known before an entry: the next line of each lane, the next fragment, the state
pub record Here : Type 0 where
  pub next : ℕ → Option Line
  pub fragment : Option Fragment
  pub state : World

abbrev call_as : ℕ → ℕ → Action → Option Entry
call_as lane number (Ask call) = Some (Call lane number call)
call_as lane number action = None

abbrev call_of : ℕ → Option Line → Option Entry
call_of lane None = None
call_of lane (Some line) = call_as lane line.number line.action

abbrev tick_as : ℕ → Action → Option Entry
tick_as number (Clock moment) = Some (Tick number moment)
tick_as number action = None

abbrev tick_of : Option Line → Option Entry
tick_of None = None
tick_of (Some line) = tick_as line.number line.action

abbrev evict_as : ℕ → Action → Option Entry
evict_as number (EvictAction label) = Some (Evict number label)
evict_as number action = None

abbrev evict_of : Option Line → Option Entry
evict_of None = None
evict_of (Some line) = evict_as line.number line.action

abbrev number_of : Option Line → ℕ
number_of None = 0
number_of (Some line) = line.number

-- 0 where the word says so, and otherwise the number of the next line
abbrev line_number : List ℕ → Option Line → ℕ
line_number word next = if bytes_eq word (codes "0") then 0 else number_of next

abbrev claim_by : ℕ → ℕ → ℕ → List ℕ → Option (ℕ × KeyBytes) → Option Entry
claim_by worker track index kid None = None
claim_by worker track index kid (Some picked) = Some (Claim worker track index picked.0 kid)

abbrev claim_under : Machine → ℕ → ℕ → ℕ → Option Protect → Option Entry
claim_under m worker track index None = None
claim_under m worker track index (Some p) = claim_by worker track index p.kid (pick m p.kid)

abbrev claim_of : Machine → ℕ → ℕ → ℕ → Option EncSample → Option Entry
claim_of m worker track index None = None
claim_of m worker track index (Some sample) = claim_under m worker track index sample.protect

-- the index of the next sample of a track
abbrev pub next_index : Option TrackState → ℕ
next_index None = 0
next_index (Some t) = t.published

-- the claim that may come on a sample
abbrev pub claim_on : World → ℕ → ℕ → ℕ → Option Entry
claim_on w worker track index = claim_of w.machine worker track index (fed_sample w track index)

abbrev verdict_of : List ℕ → Verdict
verdict_of word = if bytes_eq word (codes "taken") then Taken else Stale

-- the entry of these words
abbrev read_words : Here → List ℕ → List ℕ → List ℕ → List ℕ → Option Entry
read_words s verb a b c =
    if bytes_eq verb (codes "call") then call_of (value_of a) (s.next (value_of a))
    else (if bytes_eq verb (codes "job") then Some Job
    else (if bytes_eq verb (codes "task") then Some Task
    else (if bytes_eq verb (codes "tick") then tick_of (s.next 0)
    else (if bytes_eq verb (codes "feed") then Some (Feed (line_number a (s.next 0)) s.fragment)
    else (if bytes_eq verb (codes "evict") then evict_of (s.next 0)
    else (if bytes_eq verb (codes "claim") then claim_on s.state (value_of a) (value_of b) (value_of c)
    else (if bytes_eq verb (codes "deliver") then Some (Deliver (value_of a) (verdict_of b))
    else (if bytes_eq verb (codes "giveup") then Some (GiveUp (value_of a))
    else (if bytes_eq verb (codes "publish") then Some (Publish (value_of a) (next_index (find_track s.state.tracks (value_of a))) (value_of c))
    else (if bytes_eq verb (codes "clear") then Some (PassClear (value_of a) (next_index (find_track s.state.tracks (value_of a))))
    else (if bytes_eq verb (codes "wait") then Some (WaitForKey (value_of a))
    else Some (Settle (line_number a (s.next 0))))))))))))))

-- the entry that a text behind a place begins with
pub read_entry : Here → List ℕ → Option Entry
read_entry s text = read_words s (first_word text) (first_word (next_words text)) (first_word (next_words (next_words text))) (first_word (next_words (next_words (next_words text))))

-- the entry is of no line, or of the next line of lane 0
abbrev pub IsOfNext : Here → ℕ → Action → Type 0
IsOfNext s line action = (line ≡ 0) ⊎ ((line ≢ 0) × (s.next 0 ≡ Some (record { number = line; lane = 0; action = action })))

-- the entry may come here, and its numbers are told in full
abbrev pub MayCome : Here → Entry → Type 0
MayCome s (Call lane line call) = (lane < 2 ^ 64) × (s.next lane ≡ Some (record { number = line; lane = lane; action = Ask call }))
MayCome s Job = Unit {0}
MayCome s Task = Unit {0}
MayCome s (Tick line moment) = s.next 0 ≡ Some (record { number = line; lane = 0; action = Clock moment })
MayCome s (Feed line fragment) = IsOfNext s line FeedAction × (fragment ≡ s.fragment)
MayCome s (Evict line label) = s.next 0 ≡ Some (record { number = line; lane = 0; action = EvictAction label })
MayCome s (Claim worker track index session kid) = (worker < 2 ^ 64) × (track < 2 ^ 64) × (index < 2 ^ 64) × (claim_on s.state worker track index ≡ Some (Claim worker track index session kid))
MayCome s (Deliver place verdict) = place < 2 ^ 64
MayCome s (GiveUp place) = place < 2 ^ 64
MayCome s (Publish track index place) = (track < 2 ^ 64) × (place < 2 ^ 64) × (index ≡ next_index (find_track s.state.tracks track))
MayCome s (PassClear track index) = (track < 2 ^ 64) × (index ≡ next_index (find_track s.state.tracks track))
MayCome s (WaitForKey track) = track < 2 ^ 64
MayCome s (Settle line) = IsOfNext s line SettleAction

number_read : (s : Here) (line : ℕ) (action : Action) → IsOfNext s line action → line_number (decimal line) (s.next 0) ≡ line
unfolding digits
number_read s line action of = elim of [
  | inl e ↦ rw e refl
  | inr p ↦ (let other : bytes_eq (decimal line) (codes "0") ≡ false = same_from_decides _ _ (bytes_eq-Decides (decimal line) (codes "0")) ((λ e. absurd cc), (λ e. absurd (not_zero line p.0 e))) in rw (other, p.1) refl)
]

second : (v w s r : List ℕ) → IsWord v → IsWord w → Parts s → front_word (drop 1 (past_word ((v ++ (32 ∷ (w ++ s))) ++ r))) ≡ w
second v w s r vs ws parts = ap (λ (t : List ℕ). front_word (drop 1 t)) (past v (32 ∷ (w ++ s)) r vs (omega arith)) ∙ front w s r ws parts

third : (u v w s r : List ℕ) → IsWord u → IsWord v → IsWord w → Parts s → front_word (drop 1 (past_word (drop 1 (past_word ((u ++ (32 ∷ (v ++ (32 ∷ (w ++ s))))) ++ r))))) ≡ w
third u v w s r us vs ws parts = ap (λ (t : List ℕ). front_word (drop 1 (past_word (drop 1 t)))) (past u (32 ∷ (v ++ (32 ∷ (w ++ s)))) r us (omega arith)) ∙ second v w s r vs ws parts

-- a number that stands first
first_number : (k : ℕ) (s r : List ℕ) → Parts s → front_word ((decimal k ++ s) ++ r) ≡ decimal k
first_number k s r parts = front (decimal k) s r (decimal_word k) parts

told : (word : List ℕ) (n : ℕ) → word ≡ decimal n → n < 2 ^ 64 → value_of word ≡ n
told word n is small = ap value_of is ∙ value n small

-- the line of an entry that may come tells the entry
pub read_back : (s : Here) (n : ℕ) (e : Entry) (r : List ℕ) → MayCome s e → read_entry s (entry_words n e ++ r) ≡ Some e
unfolding read_entry
read_back s n (Call lane line call) r may = ap (λ (w : List ℕ). call_of (value_of w) (s.next (value_of w))) (first_number lane (codes " " ++ (decimal line ++ codes "\n")) r (omega arith)) ∙ (ap (λ (k : ℕ). call_of k (s.next k)) (value lane may.0) ∙ ap (λ (o : Option Line). call_of lane o) may.1)
read_back s n Job r may = refl
read_back s n Task r may = refl
read_back s n (Tick line moment) r may = ap (λ (o : Option Line). tick_of o) may
read_back s n (Feed line fragment) r may = ap (λ (w : List ℕ). Some (Feed (line_number w (s.next 0)) s.fragment)) (first_number line (codes " " ++ (fragment_name n fragment ++ codes "\n")) r (omega arith)) ∙ (ap (λ (k : ℕ). Some (Feed k s.fragment)) (number_read s line FeedAction may.0) ∙ ap (λ (f : Option Fragment). Some (Feed line f)) (sym may.1))
read_back s n (Evict line label) r may = ap (λ (o : Option Line). evict_of o) may
read_back s n (Claim worker track index session kid) r may =
    let end : List ℕ = codes " " ++ (decimal session ++ (codes " " ++ (hex_text kid ++ codes "\n"))) in
    let text : List ℕ = entry_words n (Claim worker track index session kid) ++ r in
    let a : List ℕ = first_word (next_words text) in
    let b : List ℕ = first_word (next_words (next_words text)) in
    let c : List ℕ = first_word (next_words (next_words (next_words text))) in
    let first : value_of a ≡ worker = told a worker (first_number worker (codes " " ++ (decimal track ++ (codes " " ++ (decimal index ++ end)))) r (omega arith)) may.0 in
    let then_ : value_of b ≡ track = told b track (second (decimal worker) (decimal track) (codes " " ++ (decimal index ++ end)) r (decimal_word worker) (decimal_word track) (omega arith)) may.1 in
    let last : value_of c ≡ index = told c index (third (decimal worker) (decimal track) (decimal index) end r (decimal_word worker) (decimal_word track) (decimal_word index) (omega arith)) may.2 in
    ap (λ (k : ℕ). claim_on s.state k (value_of b) (value_of c)) first ∙ (ap (λ (k : ℕ). claim_on s.state worker k (value_of c)) then_ ∙ (ap (λ (k : ℕ). claim_on s.state worker track k) last ∙ may.3))
read_back s n (Deliver place Taken) r may =
    let end : List ℕ = codes " " ++ (codes "taken" ++ codes "\n") in
    ap (λ (t : List ℕ). Some (Deliver (value_of (front_word ((decimal place ++ end) ++ r))) (verdict_of (front_word (drop 1 t))))) (past (decimal place) end r (decimal_word place) (omega arith))
    ∙ (ap (λ (w : List ℕ). Some (Deliver (value_of w) Taken)) (first_number place end r (omega arith)) ∙ ap (λ (k : ℕ). Some (Deliver k Taken)) (value place may))
read_back s n (Deliver place Stale) r may =
    let end : List ℕ = codes " " ++ (codes "stale" ++ codes "\n") in
    ap (λ (t : List ℕ). Some (Deliver (value_of (front_word ((decimal place ++ end) ++ r))) (verdict_of (front_word (drop 1 t))))) (past (decimal place) end r (decimal_word place) (omega arith))
    ∙ (ap (λ (w : List ℕ). Some (Deliver (value_of w) Stale)) (first_number place end r (omega arith)) ∙ ap (λ (k : ℕ). Some (Deliver k Stale)) (value place may))
read_back s n (GiveUp place) r may = ap (λ (w : List ℕ). Some (GiveUp (value_of w))) (first_number place (codes "\n") r (omega arith)) ∙ ap (λ (k : ℕ). Some (GiveUp k)) (value place may)
read_back s n (Publish track index place) r may =
    let text : List ℕ = entry_words n (Publish track index place) ++ r in
    let c : List ℕ = first_word (next_words (next_words (next_words text))) in
    ap (λ (w : List ℕ). Some (Publish (value_of w) (next_index (find_track s.state.tracks (value_of w))) (value_of c))) (first_number track (codes " " ++ (decimal index ++ (codes " " ++ (decimal place ++ codes "\n")))) r (omega arith))
    ∙ (ap (λ (k : ℕ). Some (Publish k (next_index (find_track s.state.tracks k)) (value_of c))) (value track may.0)
    ∙ (ap (λ (w : List ℕ). Some (Publish track (next_index (find_track s.state.tracks track)) (value_of w))) (third (decimal track) (decimal index) (decimal place) (codes "\n") r (decimal_word track) (decimal_word index) (decimal_word place) (omega arith))
    ∙ (ap (λ (k : ℕ). Some (Publish track (next_index (find_track s.state.tracks track)) k)) (value place may.1) ∙ ap (λ (i : ℕ). Some (Publish track i place)) (sym may.2))))
read_back s n (PassClear track index) r may = ap (λ (w : List ℕ). Some (PassClear (value_of w) (next_index (find_track s.state.tracks (value_of w))))) (first_number track (codes " " ++ (decimal index ++ codes "\n")) r (omega arith)) ∙ (ap (λ (k : ℕ). Some (PassClear k (next_index (find_track s.state.tracks k)))) (value track may.0) ∙ ap (λ (i : ℕ). Some (PassClear track i)) (sym may.1))
read_back s n (WaitForKey track) r may = ap (λ (w : List ℕ). Some (WaitForKey (value_of w))) (first_number track (codes "\n") r (omega arith)) ∙ ap (λ (k : ℕ). Some (WaitForKey k)) (value track may)
read_back s n (Settle line) r may = ap (λ (w : List ℕ). Some (Settle (line_number w (s.next 0)))) (first_number line (codes "\n") r (omega arith)) ∙ ap (λ (k : ℕ). Some (Settle k)) (number_read s line SettleAction may)
