-- A lane, one line on.
use Rattle.std.proofs.Common.{◌≡◌, ◌≢◌, ℕ, ◌+◌, ◌≤◌, List, [], ◌∷◌, ◌++◌, Contains, Option, Some, take, refl, ap, ◌∙◌, sym, subst, append-nil, arith, ⊎_elim}
use Rattle.std.specs.Prelude.{slice_get}
use Rattle.std.specs.List.{flat_map, AllByRecursion}
use Rattle.std.proofs.lemmas.List.Elements.{Contains-append_cases, Contains-push_cases}
use Rattle.eme_types.specs.declared.media.Fragment.{Fragment}
use Rattle.eme_types.specs.declared.call.AppCall.{AppCall}
use Rattle.eme_types.specs.declared.entry.Entry.{Entry}
use Rattle.eme_types.specs.declared.entry.Entry.TheVariants.{Call, Tick}
use Rattle.script_lang.specs.declared.script.Line.{Line}
use Rattle.script_lang.specs.declared.script.Action.{Action}
use Rattle.script_lang.specs.declared.script.Action.TheVariants.{Ask, Feed as FeedAction, Clock, Evict as EvictAction, Settle as SettleAction}
use Rattle.script_lang.specs.Script.{IsScript, moment_after}
use Rattle.output_order.specs.Lane.{line_of, lines_in, lane, asked, asked_in, feeds_in, fed_by}
use Rattle.output_order.specs.Complete.{IsOfLine}
use Rattle.decrypt_workers.specs.Desks.{Placed}
use Rattle.decrypt_workers.specs.Workers.{IsAnyClaim}
use Rattle.shared_cdm.specs.Own.{entries, NoneAbove}
use Rattle.play_parts.specs.Asks.{IsStep, entry_for, entry_of, left_by, moment_of}
use Rattle.play_parts.specs.Parts.{AreSteps, AreEnded, AreFed, IsOfLane0, IsCallOf, HasLed, HasCalled}
use Rattle.play_parts.proofs.Reading.{all_mapped, all_append, all_entries, all_contains, entries_append, nothing_in, flat_none, flat_both}
use Rattle.play_parts.proofs.Steps.{ended_none, ended_both, ended_one, step_line, step_asked, step_feeds, step_of_lane_0}
use Rattle.play_parts.proofs.Feeding.{fed_none, fed_kept, fed_more}
use Rattle.play_parts.proofs.Scripts.{number_above_0, lane_fits_at, asks_beside, moment_rises, moment_more, lane_here, lane_beside, line_as, line_above, line_back, asked_back, above_back, of_lane_0_back, no_claim_back, tick_back}

-- ---- steps, and then an entry

-- what they give, where steps give nothing
pub stepped_flat : {A : Type 0} (f : Entry → List A) (steps : Placed) (place : ℕ) (e : Entry) → ((x : Entry) → IsStep x → f x ≡ []) → AreSteps steps → flat_map f (entries (steps ++ (place, e) ∷ [])) ≡ f e
stepped_flat {A} f steps place e none are =
    flat_both f steps ((place, e) ∷ []) ∙ (ap (λ (xs : List A). xs ++ (f e ++ [])) (flat_none IsStep f none (entries steps) (all_entries IsStep steps are.kinds)) ∙ append-nil (f e))

pub stepped_kinds : (steps : Placed) (place : ℕ) (e : Entry) → AreSteps steps → IsOfLane0 e → AllByRecursion IsOfLane0 (entries (steps ++ (place, e) ∷ []))
stepped_kinds steps place e are one =
    subst (AllByRecursion IsOfLane0) (sym (entries_append steps ((place, e) ∷ []))) (all_append IsOfLane0 (entries steps) (e ∷ []) (all_mapped IsStep IsOfLane0 step_of_lane_0 (entries steps) (all_entries IsStep steps are.kinds)) (one, tt))

pub stepped_ended : (steps : Placed) (place : ℕ) (e : Entry) → AreSteps steps → (IsAnyClaim e → ⊥) → AreEnded (steps ++ (place, e) ∷ [])
stepped_ended steps place e are plain = ended_both steps ((place, e) ∷ []) are.ended (ended_one place e plain)

-- ---- lane 0

pub led_none : (fragments : List Fragment) → HasLed [] fragments fragments []
led_none fragments = record { lines_ = refl; above = tt; fed = fed_none fragments; kinds = tt; ended = ended_none; ticks = λ q line m h. absurd (nothing_in (q, Tick line m) h) }

moment_asked : (last : ℕ) (action : Action) (call : AppCall) → action ≡ Ask call → moment_after last action ≡ last
moment_asked last action call is = ap (moment_after last) is

-- a line of another lane
pub led_other : (script : List Line) (n : ℕ) (line : Line) (fragments left : List Fragment) (news : Placed) → IsScript script → slice_get script n ≡ Some line → line.lane ≢ 0 → HasLed (take n script) fragments left news → HasLed (take (n + 1) script) fragments left news
led_other script n line fragments left news s at other led =
    let asks = asks_beside script n line s at other in
    let same : moment_of (take (n + 1) script) ≡ moment_of (take n script) = moment_more script n line at ∙ moment_asked (moment_of (take n script)) line.action asks.0 asks.1 in record {
      lines_ = led.lines_ ∙ sym (lane_beside script n 0 line at other ∙ append-nil (lane (take n script) 0));
      above = led.above;
      fed = led.fed;
      kinds = led.kinds;
      ended = led.ended;
      ticks = subst (λ (m : ℕ). NoneAbove m news) (sym same) led.ticks;
    }

fed_by_action : (fragments left : List Fragment) (es more : List Entry) (number lane : ℕ) (action : Action) → feeds_in more ≡ fed_by (entry_for number lane action (slice_get left 0)) → AreFed fragments left es → AreFed fragments (left_by left action) (es ++ more)
fed_by_action fragments left es more number lane (Ask call) is fed = fed_kept fragments left es more is fed
fed_by_action fragments left es more number lane FeedAction is fed = fed_more fragments left es more is fed
fed_by_action fragments left es more number lane (Clock moment) is fed = fed_kept fragments left es more is fed
fed_by_action fragments left es more number lane (EvictAction label) is fed = fed_kept fragments left es more is fed
fed_by_action fragments left es more number lane SettleAction is fed = fed_kept fragments left es more is fed

ticks_more : (last moment number lane : ℕ) (action : Action) (given : Option Fragment) (news steps : Placed) (place : ℕ) → moment ≡ moment_after last action → last ≤ moment → AreSteps steps → NoneAbove last news → NoneAbove moment (news ++ (steps ++ (place, entry_for number lane action given) ∷ []))
ticks_more last moment number lane action given news steps place is le are none q line m h = ⊎_elim
    (λ (old : Contains news (q, Tick line m)). let below : m ≤ last = none q line m old in omega (arith, below, le))
    (λ (new : Contains (steps ++ (place, entry_for number lane action given) ∷ []) (q, Tick line m)). ⊎_elim
    (λ (step : Contains steps (q, Tick line m)). absurd (all_contains (λ (x : ℕ × Entry). IsStep x.1) steps (q, Tick line m) are.kinds step))
    (λ (last_ : (place, entry_for number lane action given) ≡ (q, Tick line m)). let below : m ≤ moment_after last action = tick_back last number lane action given line m (ap (λ (x : ℕ × Entry). x.1) last_) in omega (arith, below, is))
    (Contains-push_cases steps (place, entry_for number lane action given) (q, Tick line m) new))
    (Contains-append_cases news (steps ++ (place, entry_for number lane action given) ∷ []) (q, Tick line m) h)

-- steps, and then the entry of the line
pub led_line : (script : List Line) (n : ℕ) (line : Line) (fragments left : List Fragment) (news steps : Placed) (place : ℕ) → IsScript script → slice_get script n ≡ Some line → line.lane ≡ 0 → AreSteps steps → HasLed (take n script) fragments left news → HasLed (take (n + 1) script) fragments (left_by left line.action) (news ++ (steps ++ (place, entry_of line (slice_get left 0)) ∷ []))
led_line script n line fragments left news steps place s at is are led =
    let given : Option Fragment = slice_get left 0 in
    let e : Entry = entry_of line given in
    let more : Placed = steps ++ (place, e) ∷ [] in
    let whole : entries (news ++ more) ≡ entries news ++ entries more = entries_append news more in
    let above : line.number ≢ 0 = number_above_0 script n line s at in
    let moment : moment_of (take (n + 1) script) ≡ moment_after (moment_of (take n script)) line.action = moment_more script n line at in
    let rises : moment_of (take n script) ≤ moment_after (moment_of (take n script)) line.action = moment_rises script n line s at in
    record {
      lines_ = flat_both line_of news more ∙ (ap (λ (xs : List Line). lines_in (entries news) ++ xs) (stepped_flat line_of steps place e step_line are ∙ line_back line.number line.lane line.action given above (lane_fits_at script n line s at)) ∙ (ap (λ (xs : List Line). xs ++ line ∷ []) led.lines_ ∙ sym (lane_here script n 0 line at is)));
      above = subst (AllByRecursion IsOfLine) (sym (flat_both asked news more ∙ ap (λ (xs : List Entry). asked_in (entries news) ++ xs) (stepped_flat asked steps place e step_asked are ∙ asked_back line.number line.lane line.action given))) (all_append IsOfLine (asked_in (entries news)) (e ∷ []) led.above (above_back line.number line.lane line.action given above, tt));
      fed = subst (AreFed fragments (left_by left line.action)) (sym whole) (fed_by_action fragments left (entries news) (entries more) line.number line.lane line.action (stepped_flat fed_by steps place e step_feeds are) led.fed);
      kinds = subst (AllByRecursion IsOfLane0) (sym whole) (all_append IsOfLane0 (entries news) (entries more) led.kinds (stepped_kinds steps place e are (of_lane_0_back line.number line.lane line.action given is)));
      ended = ended_both news more led.ended (stepped_ended steps place e are (no_claim_back line.number line.lane line.action given));
      ticks = ticks_more (moment_of (take n script)) (moment_of (take (n + 1) script)) line.number line.lane line.action given news steps place moment (omega (arith, moment, rises)) are led.ticks;
    }

-- the clock may be set to the moment of the next line
pub led_clock : (script : List Line) (n : ℕ) (line : Line) (moment : ℕ) (fragments left : List Fragment) (news : Placed) → IsScript script → slice_get script n ≡ Some line → line.action ≡ Clock moment → HasLed (take n script) fragments left news → NoneAbove moment news
led_clock script n line moment fragments left news s at is led q l m h =
    let rises : moment_of (take n script) ≤ moment_after (moment_of (take n script)) line.action = moment_rises script n line s at in
    let now : moment_after (moment_of (take n script)) line.action ≡ moment = ap (moment_after (moment_of (take n script))) is in
    let below : m ≤ moment_of (take n script) = led.ticks q l m h in
    omega (arith, rises, now, below)

-- ---- another lane

pub called_none : (i : ℕ) → HasCalled [] i []
called_none i = record { lines_ = refl; above = tt; kinds = tt }

-- a line of a third lane
pub called_other : (script : List Line) (n i : ℕ) (line : Line) (news : Placed) → slice_get script n ≡ Some line → line.lane ≢ i → HasCalled (take n script) i news → HasCalled (take (n + 1) script) i news
called_other script n i line news at other called = record {
  lines_ = called.lines_ ∙ sym (lane_beside script n i line at other ∙ append-nil (lane (take n script) i));
  above = called.above;
  kinds = called.kinds;
}

-- the call of the line
pub called_line : (script : List Line) (n i : ℕ) (line : Line) (call : AppCall) (news : Placed) (place : ℕ) → IsScript script → slice_get script n ≡ Some line → line.lane ≡ i → line.action ≡ Ask call → HasCalled (take n script) i news → HasCalled (take (n + 1) script) i (news ++ (place, Call i line.number call) ∷ [])
called_line script n i line call news place s at is asks called =
    let e : Entry = Call i line.number call in
    let above : line.number ≢ 0 = number_above_0 script n line s at in
    let same : line_as line.number i (Ask call) ≡ line = ap (λ (j : ℕ). line_as line.number j (Ask call)) (sym is) ∙ ap (line_as line.number line.lane) (sym asks) in record {
      lines_ = flat_both line_of news ((place, e) ∷ []) ∙ (ap (λ (xs : List Line). lines_in (entries news) ++ xs) (append-nil (line_of e) ∙ (line_above line.number i (Ask call) above ∙ ap (λ (l : Line). l ∷ []) same)) ∙ (ap (λ (xs : List Line). xs ++ line ∷ []) called.lines_ ∙ sym (lane_here script n i line at is)));
      above = subst (AllByRecursion IsOfLine) (sym (flat_both asked news ((place, e) ∷ []))) (all_append IsOfLine (asked_in (entries news)) (e ∷ []) called.above (above, tt));
      kinds = subst (AllByRecursion (IsCallOf i)) (sym (entries_append news ((place, e) ∷ []))) (all_append (IsCallOf i) (entries news) (e ∷ []) called.kinds (refl, tt));
    }
