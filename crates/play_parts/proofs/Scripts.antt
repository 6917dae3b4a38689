-- The line at a place of a script, and its entry.
use Rattle.std.proofs.Common.{zero, suc, ◌≡◌, ◌≢◌, ℕ, ◌+◌, ◌<◌, ◌≤◌, Bool, IsTrue, List, [], ◌∷◌, ◌++◌, Option, Some, take, if◌then◌else◌, refl, ap, ◌∙◌, sym, subst, arith, eq-eqb, ne_eqb}
use Rattle.std.specs.Prelude.{◌==◌, nat_lt, nat_le, slice_get}
use Rattle.std.specs.List.{fold}
use Rattle.std.proofs.lemmas.Bool.{leb-true, ltb-true, eqb-true}
use Rattle.std.proofs.lemmas.List.Elements.{filter-append}
use Rattle.std.proofs.lemmas.List.Sums.{fold-append}
use Rattle.eme_types.specs.declared.media.Fragment.{Fragment}
use Rattle.eme_types.specs.declared.call.AppCall.{AppCall}
use Rattle.eme_types.specs.declared.entry.Entry.TheVariants.{Tick}
use Rattle.eme_types.specs.declared.limits.TheConstants.{MAX_MOMENT}
use Rattle.script_lang.specs.declared.script.Line.{Line}
use Rattle.script_lang.specs.declared.script.Action.{Action}
use Rattle.script_lang.specs.declared.script.Action.TheVariants.{Ask, Feed as FeedAction, Clock, Evict as EvictAction, Settle as SettleAction}
use Rattle.script_lang.specs.Script.{IsScript, numbers_rise, lane_fits, moment_fits, moment_after, moments_rise}
use Rattle.output_order.specs.Lane.{line_with, line_of, lane, is_of_lane, asked}
use Rattle.output_order.specs.Complete.{IsOfLine}
use Rattle.output_order.proofs.Sizes.{some_same, taken_more}
use Rattle.decrypt_workers.specs.Workers.{IsAnyClaim}
use Rattle.play_parts.specs.Asks.{entry_for, moment_by, moment_of}
use Rattle.play_parts.specs.Parts.{IsOfLane0}
use Rattle.play_parts.proofs.Reading.{both_true, true_at}

-- ---- lines of a script

numbers_above : (last : ℕ) (script : List Line) (n : ℕ) (line : Line) → IsTrue (numbers_rise last script) → slice_get script n ≡ Some line → last < line.number
numbers_above last [] n line rise at = absurd cc
numbers_above last (x ∷ more) zero line rise at =
    subst (λ (l : Line). last < l.number) (some_same at) (ltb-true last x.number (both_true (nat_lt last x.number) (numbers_rise x.number more) rise).0)
numbers_above last (x ∷ more) (suc n) line rise at =
    let here : last < x.number = ltb-true last x.number (both_true (nat_lt last x.number) (numbers_rise x.number more) rise).0 in
    let there : x.number < line.number = numbers_above x.number more n line (both_true (nat_lt last x.number) (numbers_rise x.number more) rise).1 at in
    omega (arith, here, there)

-- a line's number is above 0
pub number_above_0 : (script : List Line) (n : ℕ) (line : Line) → IsScript script → slice_get script n ≡ Some line → line.number ≢ 0
number_above_0 script n line s at none = let above : 0 < line.number = numbers_above 0 script n line s.numbers at in absurd (omega (arith, above, none))

pub lane_fits_at : (script : List Line) (n : ℕ) (line : Line) → IsScript script → slice_get script n ≡ Some line → IsTrue (lane_fits line.lane line.action)
lane_fits_at script n line s at = true_at (λ (l : Line). lane_fits l.lane l.action) script n line s.lanes at

asks_as : (number : ℕ) (action : Action) → IsTrue (lane_fits number action) → number ≢ 0 → (call : AppCall) × (action ≡ Ask call)
asks_as number (Ask call) fits other = (call, refl)
asks_as number FeedAction fits other = absurd (other (eqb-true number 0 fits))
asks_as number (Clock moment) fits other = absurd (other (eqb-true number 0 fits))
asks_as number (EvictAction label) fits other = absurd (other (eqb-true number 0 fits))
asks_as number SettleAction fits other = absurd (other (eqb-true number 0 fits))

-- a line of a lane other than 0 asks for a call
pub asks_beside : (script : List Line) (n : ℕ) (line : Line) → IsScript script → slice_get script n ≡ Some line → line.lane ≢ 0 → (call : AppCall) × (line.action ≡ Ask call)
asks_beside script n line s at other = asks_as line.lane line.action (lane_fits_at script n line s at) other

moments_at : (last : ℕ) (script : List Line) (n : ℕ) (line : Line) → IsTrue (moments_rise last script) → slice_get script n ≡ Some line → IsTrue (moment_fits (fold moment_by last (take n script)) line.action)
moments_at last [] n line rise at = absurd cc
moments_at last (x ∷ more) zero line rise at =
    subst (λ (l : Line). IsTrue (moment_fits last l.action)) (some_same at) (both_true (moment_fits last x.action) (moments_rise (moment_after last x.action) more) rise).0
moments_at last (x ∷ more) (suc n) line rise at =
    moments_at (moment_after last x.action) more n line (both_true (moment_fits last x.action) (moments_rise (moment_after last x.action) more) rise).1 at

pub moment_fits_at : (script : List Line) (n : ℕ) (line : Line) → IsScript script → slice_get script n ≡ Some line → IsTrue (moment_fits (moment_of (take n script)) line.action)
moment_fits_at script n line s at = moments_at 0 script n line s.moments at

rises_by : (last : ℕ) (action : Action) → IsTrue (moment_fits last action) → last ≤ moment_after last action
rises_by last (Ask call) fits = omega arith
rises_by last FeedAction fits = omega arith
rises_by last (Clock moment) fits = leb-true last moment (both_true (nat_le last moment) (nat_le moment MAX_MOMENT) fits).0
rises_by last (EvictAction label) fits = omega arith
rises_by last SettleAction fits = omega arith

-- the moment does not go back
pub moment_rises : (script : List Line) (n : ℕ) (line : Line) → IsScript script → slice_get script n ≡ Some line → moment_of (take n script) ≤ moment_after (moment_of (take n script)) line.action
moment_rises script n line s at = rises_by (moment_of (take n script)) line.action (moment_fits_at script n line s at)

pub moment_more : (script : List Line) (n : ℕ) (line : Line) → slice_get script n ≡ Some line → moment_of (take (n + 1) script) ≡ moment_after (moment_of (take n script)) line.action
moment_more script n line at = ap moment_of (taken_more script n line at) ∙ fold-append moment_by 0 (take n script) (line ∷ [])

-- ---- the lines of a lane

-- one line more, of the lane
pub lane_here : (script : List Line) (n i : ℕ) (line : Line) → slice_get script n ≡ Some line → line.lane ≡ i → lane (take (n + 1) script) i ≡ lane (take n script) i ++ line ∷ []
lane_here script n i line at is =
    ap (λ (ls : List Line). lane ls i) (taken_more script n line at) ∙ (filter-append (is_of_lane i) (take n script) (line ∷ []) ∙ ap (λ (b : Bool). lane (take n script) i ++ (if b then line ∷ [] else [])) (eq-eqb line.lane i is))

-- one line more, of another lane
pub lane_beside : (script : List Line) (n i : ℕ) (line : Line) → slice_get script n ≡ Some line → line.lane ≢ i → lane (take (n + 1) script) i ≡ lane (take n script) i ++ []
lane_beside script n i line at other =
    ap (λ (ls : List Line). lane ls i) (taken_more script n line at) ∙ (filter-append (is_of_lane i) (take n script) (line ∷ []) ∙ ap (λ (b : Bool). lane (take n script) i ++ (if b then line ∷ [] else [])) (ne_eqb line.lane i other))

-- ---- the entry of a line

abbrev pub line_as : ℕ → ℕ → Action → Line
line_as number lane action = record { number = number; lane = lane; action = action }

pub line_above : (number lane : ℕ) (action : Action) → number ≢ 0 → line_with number lane action ≡ line_as number lane action ∷ []
line_above number lane action above = ap (λ (b : Bool). if b then [] else line_as number lane action ∷ []) (ne_eqb number 0 above)

at_lane_0 : (number lane : ℕ) (action : Action) → number ≢ 0 → IsTrue (lane == 0) → line_with number 0 action ≡ line_as number lane action ∷ []
at_lane_0 number lane action above is = line_above number 0 action above ∙ ap (λ (i : ℕ). line_as number i action ∷ []) (sym (eqb-true lane 0 is))

-- it stands for that line
pub line_back : (number lane : ℕ) (action : Action) (given : Option Fragment) → number ≢ 0 → IsTrue (lane_fits lane action) → line_of (entry_for number lane action given) ≡ line_as number lane action ∷ []
line_back number lane (Ask call) given above fits = line_above number lane (Ask call) above
line_back number lane FeedAction given above fits = at_lane_0 number lane FeedAction above fits
line_back number lane (Clock moment) given above fits = at_lane_0 number lane (Clock moment) above fits
line_back number lane (EvictAction label) given above fits = at_lane_0 number lane (EvictAction label) above fits
line_back number lane SettleAction given above fits = at_lane_0 number lane SettleAction above fits

pub asked_back : (number lane : ℕ) (action : Action) (given : Option Fragment) → asked (entry_for number lane action given) ≡ entry_for number lane action given ∷ []
asked_back number lane (Ask call) given = refl
asked_back number lane FeedAction given = refl
asked_back number lane (Clock moment) given = refl
asked_back number lane (EvictAction label) given = refl
asked_back number lane SettleAction given = refl

pub above_back : (number lane : ℕ) (action : Action) (given : Option Fragment) → number ≢ 0 → IsOfLine (entry_for number lane action given)
above_back number lane (Ask call) given above = above
above_back number lane FeedAction given above = above
above_back number lane (Clock moment) given above = above
above_back number lane (EvictAction label) given above = above
above_back number lane SettleAction given above = above

pub of_lane_0_back : (number lane : ℕ) (action : Action) (given : Option Fragment) → lane ≡ 0 → IsOfLane0 (entry_for number lane action given)
of_lane_0_back number lane (Ask call) given is = is
of_lane_0_back number lane FeedAction given is = tt
of_lane_0_back number lane (Clock moment) given is = tt
of_lane_0_back number lane (EvictAction label) given is = tt
of_lane_0_back number lane SettleAction given is = tt

pub no_claim_back : (number lane : ℕ) (action : Action) (given : Option Fragment) → IsAnyClaim (entry_for number lane action given) → ⊥
no_claim_back number lane (Ask call) given h = h
no_claim_back number lane FeedAction given h = h
no_claim_back number lane (Clock moment) given h = h
no_claim_back number lane (EvictAction label) given h = h
no_claim_back number lane SettleAction given h = h

pub tick_back : (last number lane : ℕ) (action : Action) (given : Option Fragment) (line m : ℕ) → entry_for number lane action given ≡ Tick line m → m ≤ moment_after last action
tick_back last number lane (Ask call) given line m e = absurd cc
tick_back last number lane FeedAction given line m e = absurd cc
tick_back last number lane (Clock moment) given line m e = let same : m ≡ moment = cc in omega (arith, same)
tick_back last number lane (EvictAction label) given line m e = absurd cc
tick_back last number lane SettleAction given line m e = absurd cc
