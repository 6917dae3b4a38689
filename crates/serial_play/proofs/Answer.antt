-- Each legal history that is complete for a paced and agreeing script has the answer of the serial play.
use Rattle.std.proofs.Common.{◌≡◌, ℕ, inl, inr, List, [], ◌∷◌, Option, Some, refl, ap, sym, subst, ◌∙◌}
use Rattle.std.specs.Prelude.{slice_get}
use Rattle.eme_types.specs.declared.media.Fragment.{Fragment}
use Rattle.eme_types.specs.declared.entry.Entry.{Entry}
use Rattle.script_lang.specs.declared.script.Line.{Line}
use Rattle.script_lang.specs.declared.script.Action.{Action}
use Rattle.script_lang.specs.declared.script.Action.TheVariants.{Ask, Feed, Clock, Evict, Settle as SettleAction}
use Rattle.script_lang.specs.Paced.{IsPaced}
use Rattle.key_sessions.specs.Agree.{Agree}
use Rattle.key_sessions.specs.Steps.{Done}
use Rattle.output_order.specs.Lane.{asked_in}
use Rattle.output_order.specs.Complete.{feed_rest}
use Rattle.play_parts.specs.Asks.{entry_for, entry_of, left_by}
use Rattle.serial_play.specs.Serial.{Serial, unplayed, line_step, after_line, feed_all, serial_from, serial, AgreeFrom, Agreeing}
use Rattle.serial_play.specs.Law.{OneAnswer}
use Rattle.serial_play.proofs.Plan.{plan_from, asked_plan, paced_more}
use Rattle.serial_play.proofs.Rest.{Rest}
use Rattle.serial_play.proofs.Course.{step_by, over, AgreeAfter, AgreeOver, IsSettle, AreSettled, comes_there, rest_first, agree_first}

-- ---- the plan of a script, step by step

step_is : (number lane : ℕ) (action : Action) (given : Option Fragment) (s : Serial) → step_by (entry_for number lane action given) s ≡ line_step action given s
step_is number lane (Ask call) given s = refl
step_is number lane Feed given s = refl
step_is number lane (Clock moment) given s = refl
step_is number lane (Evict label) given s = refl
step_is number lane SettleAction given s = refl

over_feeds : (left : List Fragment) (s : Serial) → over (feed_rest left) s ≡ feed_all left s
over_feeds [] s = refl
over_feeds (f ∷ left) s = over_feeds left (line_step Feed (Some f) s)

-- what the plan comes to is the serial play
over_plan : (lines : List Line) (left : List Fragment) (s : Serial) → over (plan_from left lines) s ≡ serial_from s left lines
over_plan [] left s = over_feeds left s
over_plan (line ∷ more) left s =
    ap (over (plan_from (left_by left line.action) more)) (step_is line.number line.lane line.action (slice_get left 0) s) ∙ over_plan more (left_by left line.action) (after_line left line s)

-- ---- a settle behind each line

settle_of : (line : Line) (given : Option Fragment) → line.action ≡ SettleAction → IsSettle (entry_of line given)
settle_of line given is = subst (λ (action : Action). IsSettle (entry_for line.number line.lane action given)) (sym is) tt

feeds_settled : (left : List Fragment) → AreSettled (feed_rest left)
feeds_settled [] = tt
feeds_settled (f ∷ left) = (inr tt, (inl tt, feeds_settled left))

plan_settled : (lines : List Line) (left : List Fragment) → IsPaced lines → AreSettled (plan_from left lines)
plan_settled [] left paced = (inl tt, feeds_settled left)
plan_settled (line ∷ []) left paced = (inr tt, (inl tt, feeds_settled (left_by left line.action)))
plan_settled (line ∷ next ∷ more) left paced = (
  elim (paced.settled 0 line next refl refl) [
    | inl is ↦ inl (settle_of line (slice_get left 0) is)
    | inr is ↦ inr (settle_of next (slice_get (left_by left line.action) 0) is)
  ],
  plan_settled (next ∷ more) (left_by left line.action) (paced_more line (next ∷ more) paced),
)

-- ---- the sessions agree after each line

agree_at : (number lane : ℕ) (action : Action) (given : Option Fragment) (s t : Serial) → Agree t.machine → AgreeAfter (entry_for number lane action given) t
agree_at number lane (Ask call) given s t agree = agree
agree_at number lane Feed given s t agree = tt
agree_at number lane (Clock moment) given s t agree = agree
agree_at number lane (Evict label) given s t agree = agree
agree_at number lane SettleAction given s t agree = tt

feeds_agree : (left : List Fragment) (s : Serial) → AgreeOver s (feed_rest left)
feeds_agree [] s = tt
feeds_agree (f ∷ left) s = (tt, (tt, feeds_agree left (line_step Feed (Some f) s)))

plan_agrees : (lines : List Line) (left : List Fragment) (s : Serial) → AgreeFrom s left lines → AgreeOver s (plan_from left lines)
plan_agrees [] left s agrees = (tt, feeds_agree left s)
plan_agrees (line ∷ more) left s agrees =
    let given : Option Fragment = slice_get left 0 in
    let e : Entry = entry_of line given in
    let rest : List Entry = plan_from (left_by left line.action) more in
    let is : step_by e s ≡ after_line left line s = step_is line.number line.lane line.action given s in
    subst (λ (t : Serial). AgreeAfter e t × AgreeOver t rest) (sym is) (agree_at line.number line.lane line.action given s (after_line left line s) agrees.0, plan_agrees more (left_by left line.action) (after_line left line s) agrees.1)

-- ---- one answer

pub one_answer : OneAnswer
unfolding serial Agreeing
one_answer script media h fed legal complete paced agreeing =
    let asks : asked_in h ≡ plan_from media.fragments script = asked_plan script media h paced complete in
    let settled : AreSettled (asked_in h) = subst AreSettled (sym asks) (plan_settled script media.fragments paced) in
    let agrees : AgreeOver unplayed (asked_in h) = subst (AgreeOver unplayed) (sym asks) (plan_agrees script media.fragments unplayed agreeing) in
    let there : Rest media.tracks h (over (asked_in h) unplayed) = comes_there media.tracks h [] unplayed (inl (rest_first media.tracks)) agree_first legal settled agrees in
    let is : over (asked_in h) unplayed ≡ serial script media = ap (λ (es : List Entry). over es unplayed) asks ∙ over_plan script media.fragments unplayed in
    let rest : Rest media.tracks h (serial script media) = subst (Rest media.tracks h) is there in
    record {
      outputs = rest.outputs;
      results = ap (λ (d : Done). d.machine.promises) rest.seen;
      heard = ap (λ (d : Done). d.effects) rest.seen;
    }
