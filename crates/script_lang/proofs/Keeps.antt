-- The lines of a script keep what every script keeps.
use Rattle.std.proofs.Common.{◌≡◌, ◌<◌, ◌≤◌, ◌+◌, ◌-◌, ℕ, Bool, true, false, cond, List, [], ◌∷◌, ◌++◌, length, Option, Some, None, Result, Ok, refl, sym, subst, ◌∙◌, arith, IsTrue}
use Rattle.std.specs.Prelude.{not, ◌&&◌, ◌==◌, nat_lt, nat_le, is_none, unwrap_or, fold, codes}
use Rattle.std.specs.Option.{option_or}
use Rattle.std.specs.List.{list_all}
use Rattle.std.specs.Str.{is_utf8, bytes_eq}
use borrow.Author.Tests.{ltb-false}
use Rattle.std.specs.Str.Parse.{digits_value}
use Rattle.std.proofs.lemmas.Bool.{and_parts, leb-true, not-false}
use Rattle.std.proofs.lemmas.List.Folds.{list_all-append}
use Rattle.std.proofs.lemmas.List.Sums.{fold-append}
use Rattle.std.proofs.lemmas.Slice.Eq.{bytes_eq-Decides}
use Rattle.script_lang.specs.declared.verb.Verb.{Verb}
use Rattle.script_lang.specs.declared.verb.Verb.TheVariants.{Access, Create, Request, Update, Close, Remove, Certificate, Feed, Clock, Evict, Settle}
use Rattle.script_lang.specs.declared.script.Line.{Line}
use Rattle.script_lang.specs.declared.fault.ScriptKind.{ScriptKind}
use Rattle.text_words.specs.Lines.{lines_of}
use Rattle.text_words.specs.Words.{first_word}
use Rattle.text_words.specs.Numbers.{number_up_to, is_number}
use Rattle.eme_types.specs.declared.limits.TheConstants.{MAX_LANES, MAX_MOMENT, MAX_SCRIPT_LINES}
use Rattle.script_lang.specs.Script.{numbers_rise, lane_fits, moment_fits, moment_after, moments_rise, IsScript}
use Rattle.script_lang.specs.Words.{lane_of, acts}
use Rattle.script_lang.specs.Verbs.{is_of_lane_0}
use Rattle.script_lang.specs.Content.{moment_of}
use Rattle.script_lang.specs.Rules.{lane_in, verb_in, first_in, second_in, last_in, words_fault, words_fault_of, label_fault, moment_fault, content_fault, parts_fault, action_fault, line_fault}
use Rattle.script_lang.specs.Grammar.{action_of, action_line, meaning, meanings, created, moment_at_end, unless_refused, file_fault, script_of}
use Rattle.script_lang.proofs.Walk.{walk, past, script_walk}

-- ---- numbers

numbers_meaning : (number last : ℕ) (acting : Bool) (verb : Option Verb) (line : List ℕ) (rest : List Line) → last < number → ((l : ℕ) → l < number + 1 → IsTrue (numbers_rise l rest))
    → IsTrue (numbers_rise last (cond acting (action_line number verb line) [] ++ rest))
numbers_meaning number last false verb line rest lt more = more last (omega arith)
numbers_meaning number last true None line rest lt more = more last (omega arith)
numbers_meaning number last true (Some verb) line rest lt more =
    let above : nat_lt last number ≡ true = grind arith in
    let later : numbers_rise number rest ≡ true = more number (omega arith) in
    rw (above, later) refl

numbers_keep : (lines : List (List ℕ)) (number last : ℕ) → last < number → IsTrue (numbers_rise last (meanings number lines))
numbers_keep [] number last lt = refl
numbers_keep (line ∷ more) number last lt =
    numbers_meaning number last (acts line) (verb_in line) line (meanings (number + 1) more) lt (λ l below. numbers_keep more (number + 1) l below)

-- ---- a line that passes

refused_not : {K : Type 0} (b : Bool) (kind : K) (rest : Option K) → cond b (Some kind) rest ≡ None → (b ≡ false) × (rest ≡ None)
refused_not true kind rest e = absurd cc
refused_not false kind rest e = (refl, e)

either_none : {K : Type 0} (a b : Option K) → option_or a b ≡ None → (a ≡ None) × (b ≡ None)
either_none None b e = (refl, e)
either_none (Some x) b e = absurd cc

in_limit : (b : Bool) (value most moment : ℕ) → cond b (Some value) None ≡ Some moment → (b ≡ true → value ≤ most) → moment ≤ most
in_limit true value most moment e le = let same : value ≡ moment = cc in omega (arith, same, le refl)
in_limit false value most moment e le = absurd cc

moment_small : (text : List ℕ) (moment : ℕ) → moment_of text ≡ Some moment → moment ≤ MAX_MOMENT
unfolding number_up_to
moment_small text moment e = in_limit (is_number text && nat_le (digits_value 10 text) MAX_MOMENT) (digits_value 10 text) MAX_MOMENT moment e (λ passes.
    leb-true _ _ (and_parts (is_number text) _ passes).1)

clock_fits : (last : ℕ) (found : Option ℕ) → ((m : ℕ) → found ≡ Some m → m ≤ MAX_MOMENT) → (is_none found ≡ false) → nat_lt (unwrap_or found 0) last ≡ false
    → IsTrue (nat_le last (unwrap_or found 0) && nat_le (unwrap_or found 0) MAX_MOMENT)
clock_fits last None small some above = absurd cc
clock_fits last (Some m) small some above = let le : m ≤ MAX_MOMENT = small m refl in let later : last ≤ m = ltb-false m last above in grind arith

moment_passes : (last : ℕ) (text : List ℕ) → moment_fault last text ≡ None → IsTrue (nat_le last (unwrap_or (moment_of text) 0) && nat_le (unwrap_or (moment_of text) 0) MAX_MOMENT)
moment_passes last text e =
    let number = refused_not (is_none (moment_of text)) _ _ e in
    let back = refused_not (nat_lt (unwrap_or (moment_of text) 0) last) _ _ number.1 in
    clock_fits last (moment_of text) (moment_small text) number.0 back.0

lane_lt : (word : List ℕ) → nat_lt (unwrap_or (lane_of word) 0) MAX_LANES ≡ true
lane_lt [] = refl
lane_lt (digit ∷ []) = by_test (nat_le 48 digit && nat_lt (digit - 48) MAX_LANES) refl
  where
    by_test : (b : Bool) → (nat_le 48 digit && nat_lt (digit - 48) MAX_LANES) ≡ b → nat_lt (unwrap_or (lane_of (digit ∷ [])) 0) MAX_LANES ≡ true
    by_test true e = rw e (and_parts _ _ e).1
    by_test false e = rw e refl
lane_lt (digit ∷ b ∷ more) = refl

-- the action of a line that passes fits its lane and the moment before
action_fits : (verb : Verb) (lane last : ℕ) (first second text : List ℕ) → nat_lt lane MAX_LANES ≡ true → (is_of_lane_0 verb && not (lane == 0)) ≡ false → content_fault last verb text ≡ None
    → IsTrue (lane_fits lane (action_of verb first second text)) × IsTrue (moment_fits last (action_of verb first second text))
action_fits Access lane last first second text le on_0 e = (le, refl)
action_fits Create lane last first second text le on_0 e = (le, refl)
action_fits Request lane last first second text le on_0 e = (le, refl)
action_fits Update lane last first second text le on_0 e = (le, refl)
action_fits Close lane last first second text le on_0 e = (le, refl)
action_fits Remove lane last first second text le on_0 e = (le, refl)
action_fits Certificate lane last first second text le on_0 e = (le, refl)
action_fits Feed lane last first second text le on_0 e = (not-false (lane == 0) on_0, refl)
action_fits Clock lane last first second text le on_0 e = (not-false (lane == 0) on_0, moment_passes last text e)
action_fits Evict lane last first second text le on_0 e = (not-false (lane == 0) on_0, refl)
action_fits Settle lane last first second text le on_0 e = (not-false (lane == 0) on_0, refl)

abbrev fits : Line → Bool
fits line = lane_fits line.lane line.action

-- what holds of the lines that a line gives
abbrev Fit : ℕ → List Line → Type 0
Fit last lines = IsTrue (list_all fits lines) × IsTrue (moments_rise last lines)

both : (a b : Bool) → a ≡ true → b ≡ true → IsTrue (a && b)
both a b x y = rw (x, y) refl

acting_fits : (number : ℕ) (labels : List (List ℕ)) (last : ℕ) (line : List ℕ) (verb : Option Verb) → words_fault_of verb line ≡ None → parts_fault labels last verb line ≡ None → Fit last (action_line number verb line)
acting_fits number labels last line None words parts = absurd cc
acting_fits number labels last line (Some verb) words parts =
    let lane = refused_not (is_of_lane_0 verb && not (lane_in line == 0)) _ _ words in
    let content = either_none (label_fault labels verb (first_in line)) (content_fault last verb (last_in verb line)) parts in
    let ok = action_fits verb (lane_in line) last (first_in line) (second_in line) (last_in verb line) (lane_lt (first_word line)) lane.0 content.1 in
    (both _ true ok.0 refl, both _ true ok.1 refl)

action_passes : (number : ℕ) (labels : List (List ℕ)) (last : ℕ) (line : List ℕ) → action_fault labels last line ≡ None → Fit last (action_line number (verb_in line) line)
action_passes number labels last line e =
    let halves = either_none (words_fault line) (parts_fault labels last (verb_in line) line) e in
    let lane = refused_not (is_none (lane_of (first_word line))) _ _ halves.0 in
    acting_fits number labels last line (verb_in line) lane.1 halves.1

meaning_fits : (number : ℕ) (labels : List (List ℕ)) (last : ℕ) (line : List ℕ) (acting : Bool) → cond acting (action_fault labels last line) None ≡ None → Fit last (cond acting (action_line number (verb_in line) line) [])
meaning_fits number labels last line true e = action_passes number labels last line e
meaning_fits number labels last line false e = (refl, refl)

header_fits : (number last : ℕ) (line : List ℕ) (same : Bool) (kind : ScriptKind) → bytes_eq line (codes "EMES 1") ≡ same → cond same None (Some kind) ≡ None → Fit last (meaning number line)
header_fits number last line true kind is e = let header : line ≡ codes "EMES 1" = (bytes_eq-Decides line (codes "EMES 1")).0 is in subst (λ l. Fit last (meaning number l)) (sym header) (refl, refl)
header_fits number last line false kind is e = absurd cc

by_number : (number : ℕ) (labels : List (List ℕ)) (last : ℕ) (line : List ℕ) (first : Bool) (kind : ScriptKind) (rest : Option ScriptKind)
    → cond first (cond (bytes_eq line (codes "EMES 1")) None (Some kind)) rest ≡ None → (rest ≡ None → Fit last (meaning number line)) → Fit last (meaning number line)
by_number number labels last line true kind rest e more = header_fits number last line (bytes_eq line (codes "EMES 1")) kind refl e
by_number number labels last line false kind rest e more = more e

line_fits : (number : ℕ) (labels : List (List ℕ)) (last : ℕ) (line : List ℕ) → line_fault number labels last line ≡ None → Fit last (meaning number line)
line_fits number labels last line e =
    let text = refused_not (not (is_utf8 line)) _ _ e in
    by_number number labels last line (number == 1) _ _ text.1 (λ rest.
    let count = refused_not (nat_lt MAX_SCRIPT_LINES number) _ _ rest in meaning_fits number labels last line (acts line) count.1)

-- ---- all lines

moments_rise-append : (last : ℕ) (xs ys : List Line) → IsTrue (moments_rise last xs) → IsTrue (moments_rise (fold (λ moment line. moment_after moment line.action) last xs) ys) → IsTrue (moments_rise last (xs ++ ys))
moments_rise-append last [] ys front back = back
moments_rise-append last (x ∷ xs) ys front back =
    let parts = and_parts (moment_fits last x.action) (moments_rise (moment_after last x.action) xs) front in
    both _ _ parts.0 (moments_rise-append (moment_after last x.action) xs ys parts.1 back)

past_ok : (fault : Option ScriptKind) (number : ℕ) (rest : Result (List Line) (ℕ × ScriptKind)) (s : List Line) → past fault number rest ≡ Ok s → (fault ≡ None) × (rest ≡ Ok s)
past_ok None number rest s e = (refl, e)
past_ok (Some kind) number rest s e = absurd cc

lines_fit : (lines : List (List ℕ)) (number : ℕ) (made s : List Line) → walk number made lines ≡ Ok s → Fit (moment_at_end made) (meanings number lines)
lines_fit [] number made s e = (refl, refl)
lines_fit (line ∷ more) number made s e =
    let step = past_ok (line_fault number (created made) (moment_at_end made) line) number _ s e in
    let here = line_fits number (created made) (moment_at_end made) line step.0 in
    let there = lines_fit more (number + 1) (made ++ meaning number line) s step.1 in
    let moved : moment_at_end (made ++ meaning number line) ≡ fold (λ moment l. moment_after moment l.action) (moment_at_end made) (meaning number line) =
    fold-append (λ moment l. moment_after moment l.action) 0 made (meaning number line) in
    let later : IsTrue (moments_rise (fold (λ moment l. moment_after moment l.action) (moment_at_end made) (meaning number line)) (meanings (number + 1) more)) =
    subst (λ m. IsTrue (moments_rise m (meanings (number + 1) more))) moved there.1 in
    (list_all-append fits (meaning number line) (meanings (number + 1) more) ∙ both _ _ here.0 there.0, moments_rise-append (moment_at_end made) (meaning number line) (meanings (number + 1) more) here.1 later)

made_is : (fault : Option (ℕ × ScriptKind)) (script s : List Line) → unless_refused fault script ≡ Ok s → script ≡ s
made_is None script s e = cc
made_is (Some kind) script s e = absurd cc

kept_by : (text : List ℕ) (s : List Line) → 0 < length text → script_of text ≡ Ok s → IsScript s
unfolding script_of
kept_by text s lt e =
    let lines = lines_of text in
    let same : meanings 1 lines ≡ s = made_is (file_fault lines) (meanings 1 lines) s e in
    let fit = lines_fit lines 1 [] s (sym (script_walk text lt) ∙ e) in
    subst IsScript same (record { numbers = numbers_keep lines 1 0 (omega arith); lanes = fit.0; moments = fit.1 })

-- a script that was read keeps what every script keeps
pub is_script : (text : List ℕ) (s : List Line) → script_of text ≡ Ok s → IsScript s
unfolding script_of
is_script [] s e = absurd cc
is_script (b ∷ text) s e = kept_by (b ∷ text) s (omega arith) e
