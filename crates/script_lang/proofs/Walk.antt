-- Reading the lines one by one gives the meaning of the script.
use Rattle.std.proofs.Common.{◌≡◌, ◌≢◌, ◌<◌, ◌+◌, ℕ, suc, Bool, true, false, List, [], ◌∷◌, ◌++◌, length, Option, Some, None, Result, Ok, Err, refl, sym, ap, ◌∙◌, append_assoc, arith, length-append}
use Rattle.std.specs.Prelude.{option_map}
use Rattle.std.specs.Option.{option_or}
use Rattle.std.specs.List.{onto_first}
use Rattle.std.proofs.lemmas.List.{append-nil}
use Rattle.script_lang.specs.declared.script.Line.{Line}
use Rattle.script_lang.specs.declared.fault.ScriptKind.{ScriptKind}
use Rattle.script_lang.specs.declared.fault.ScriptKind.TheVariants.{Header}
use Rattle.text_words.specs.Lines.{lines_of, is_line_feed}
use Rattle.script_lang.specs.Rules.{line_fault}
use Rattle.script_lang.specs.Grammar.{meaning, meanings, created, moment_at_end, fault_behind, first_fault, file_fault, unless_refused, script_of}

abbrev pub past : Option ScriptKind → ℕ → Result (List Line) (ℕ × ScriptKind) → Result (List Line) (ℕ × ScriptKind)
past None number rest = rest
past (Some kind) number rest = Err (number, kind)

-- the lines from this number on, behind lines that gave these
abbrev pub walk : ℕ → List Line → List (List ℕ) → Result (List Line) (ℕ × ScriptKind)
walk number made [] = Ok made
walk number made (line ∷ more) = past (line_fault number (created made) (moment_at_end made) line) number (walk (number + 1) (made ++ meaning number line) more)

pub meanings-append : (number : ℕ) (before : List (List ℕ)) (line : List ℕ) → meanings number (before ++ line ∷ []) ≡ meanings number before ++ meaning (number + length before) line
meanings-append number [] line =
    let same : number + 0 ≡ number = omega arith in
    append-nil (meaning number line) ∙ ap (λ n. meaning n line) (sym same)
meanings-append number (first ∷ before) line =
    let same : (number + 1) + length before ≡ number + suc (length before) = omega arith in
    ap (λ xs. meaning number first ++ xs) (meanings-append (number + 1) before line)
    ∙ sym (append_assoc (meaning number first) (meanings (number + 1) before) (meaning ((number + 1) + length before) line))
    ∙ ap (λ n. (meaning number first ++ meanings (number + 1) before) ++ meaning n line) same

walk_step : (before : List (List ℕ)) (line : List ℕ) (more : List (List ℕ)) (fault : Option ScriptKind)
    → walk (length (before ++ line ∷ []) + 1) (meanings 1 (before ++ line ∷ [])) more ≡ unless_refused (first_fault (before ++ line ∷ []) more) (meanings 1 ((before ++ line ∷ []) ++ more))
    → past fault (length before + 1) (walk ((length before + 1) + 1) (meanings 1 before ++ meaning (length before + 1) line) more)
    ≡ unless_refused (option_or (option_map (λ kind. (length before + 1, kind)) fault) (first_fault (before ++ line ∷ []) more)) (meanings 1 (before ++ line ∷ more))
walk_step before line more (Some kind) rest = refl
walk_step before line more None rest =
    let count : length (before ++ line ∷ []) + 1 ≡ (length before + 1) + 1 = omega (arith, length-append before (line ∷ [])) in
    let place : 1 + length before ≡ length before + 1 = omega arith in
    let made : meanings 1 (before ++ line ∷ []) ≡ meanings 1 before ++ meaning (length before + 1) line =
    meanings-append 1 before line ∙ ap (λ n. meanings 1 before ++ meaning n line) place in
    ap (λ n. walk n (meanings 1 before ++ meaning (length before + 1) line) more) (sym count)
    ∙ ap (λ xs. walk (length (before ++ line ∷ []) + 1) xs more) (sym made)
    ∙ rest ∙ ap (λ ls. unless_refused (first_fault (before ++ line ∷ []) more) (meanings 1 ls)) (append_assoc before (line ∷ []) more)

walk_is : (lines before : List (List ℕ)) → walk (length before + 1) (meanings 1 before) lines ≡ unless_refused (first_fault before lines) (meanings 1 (before ++ lines))
walk_is [] before = ap (λ ls. unless_refused None (meanings 1 ls)) (sym (append-nil before))
walk_is (line ∷ more) before = walk_step before line more (fault_behind before line) (walk_is more (before ++ line ∷ []))

file_same : (lines : List (List ℕ)) → lines ≢ [] → file_fault lines ≡ first_fault [] lines
file_same [] some = absurd (some refl)
file_same (line ∷ more) some = refl

onto_some : (b : ℕ) (lines : List (List ℕ)) → onto_first b lines ≢ []
onto_some b [] e = cc
onto_some b (line ∷ more) e = cc

-- a text with a byte has a line
some_line : (text : List ℕ) → 0 < length text → lines_of text ≢ []
some_line [] lt = absurd (omega arith)
some_line (b ∷ text) lt = by_feed (is_line_feed b) refl
  where
    by_feed : (feed : Bool) → is_line_feed b ≡ feed → lines_of (b ∷ text) ≢ []
    by_feed true e = rw e (λ h. cc)
    by_feed false e = rw e (onto_some b (lines_of text))

pub script_walk : (text : List ℕ) → 0 < length text → script_of text ≡ walk 1 [] (lines_of text)
unfolding script_of
script_walk text lt =
    ap (λ fault. unless_refused fault (meanings 1 (lines_of text))) (file_same (lines_of text) (some_line text lt)) ∙ sym (walk_is (lines_of text) [])

-- a file without a byte has no header
pub empty_refused : (text : List ℕ) → length text ≡ 0 → script_of text ≡ Err (1, Header)
unfolding script_of
empty_refused [] e = refl
empty_refused (b ∷ text) e = absurd (omega arith)
