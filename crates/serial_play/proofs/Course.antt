-- A history of a paced script goes through what it asks as the serial play does.
use Rattle.std.proofs.Common.{zero, suc, ◌≡◌, ℕ, ◌⊎◌, inl, inr, List, [], ◌∷◌, ◌++◌, map, Option, Some, None, refl, ap, sym, subst, arith, append-nil, append_assoc}
use Rattle.std.specs.Prelude.{All}
use Rattle.eme_types.specs.declared.media.Fragment.{Fragment}
use Rattle.eme_types.specs.declared.call.AppCall.{AppCall}
use Rattle.eme_types.specs.declared.entry.Entry.{Entry}
use Rattle.eme_types.specs.declared.entry.Entry.TheVariants.{Call, Job, Task, Tick, Feed, Evict, Claim, Deliver, GiveUp, Publish, PassClear, WaitForKey, Settle}
use Rattle.script_lang.specs.declared.script.Action.TheVariants.{Ask, Feed as FeedAction, Clock, Evict as EvictAction}
use Rattle.key_sessions.specs.Machine.{empty_machine}
use Rattle.key_sessions.specs.Agree.{Agree}
use Rattle.key_sessions.specs.Keys.{held_key, pick}
use Rattle.cdm_world.specs.Tracks.{Picks, TrackAtRest, empty_track}
use Rattle.cdm_state.specs.History.{world, IsLegal, Allowed, AtRest}
use Rattle.cdm_state.specs.Output.{out}
use Rattle.cdm_state.specs.Settlements.{effects_in}
use Rattle.cdm_state.proofs.Histories.{legal_front, allowed_next}
use Rattle.output_order.specs.Lane.{asked, asked_in}
use Rattle.serial_play.specs.Serial.{Serial, unplayed, line_step}
use Rattle.serial_play.proofs.Rest.{Rest, Busy}
use Rattle.serial_play.proofs.Busy.{busy_keeps}
use Rattle.serial_play.proofs.Lines.{line_ends, settle_keeps, rest_keeps, call_begins, tick_begins, evict_begins, feed_begins, feed_agrees}

-- ---- the serial play of what a history asks

-- where the serial play stands after an entry that a line or what is implied asks
abbrev pub step_by : Entry → Serial → Serial
step_by (Call lane line call) s = line_step (Ask call) None s
step_by Job s = s
step_by Task s = s
step_by (Tick line moment) s = line_step (Clock moment) None s
step_by (Feed line given) s = line_step FeedAction given s
step_by (Evict line label) s = line_step (EvictAction label) None s
step_by (Claim worker track index session kid) s = s
step_by (Deliver place verdict) s = s
step_by (GiveUp place) s = s
step_by (Publish track index place) s = s
step_by (PassClear track index) s = s
step_by (WaitForKey track) s = s
step_by (Settle line) s = s

-- and after all of them
abbrev pub over : List Entry → Serial → Serial
over [] s = s
over (e ∷ todo) s = over todo (step_by e s)

-- the sessions agree after each of them that is no feed; a feed gives and ends no key
abbrev pub AgreeAfter : Entry → Serial → Type 0
AgreeAfter (Call lane line call) t = Agree t.machine
AgreeAfter Job t = Unit {0}
AgreeAfter Task t = Unit {0}
AgreeAfter (Tick line moment) t = Agree t.machine
AgreeAfter (Feed line given) t = Unit {0}
AgreeAfter (Evict line label) t = Agree t.machine
AgreeAfter (Claim worker track index session kid) t = Unit {0}
AgreeAfter (Deliver place verdict) t = Unit {0}
AgreeAfter (GiveUp place) t = Unit {0}
AgreeAfter (Publish track index place) t = Unit {0}
AgreeAfter (PassClear track index) t = Unit {0}
AgreeAfter (WaitForKey track) t = Unit {0}
AgreeAfter (Settle line) t = Unit {0}

abbrev pub AgreeOver : Serial → List Entry → Type 0
AgreeOver s [] = Unit {0}
AgreeOver s (e ∷ todo) = AgreeAfter e (step_by e s) × AgreeOver (step_by e s) todo

-- the entry is a settle
abbrev pub IsSettle : Entry → Type 0
IsSettle (Call lane line call) = ⊥
IsSettle Job = ⊥
IsSettle Task = ⊥
IsSettle (Tick line moment) = ⊥
IsSettle (Feed line given) = ⊥
IsSettle (Evict line label) = ⊥
IsSettle (Claim worker track index session kid) = ⊥
IsSettle (Deliver place verdict) = ⊥
IsSettle (GiveUp place) = ⊥
IsSettle (Publish track index place) = ⊥
IsSettle (PassClear track index) = ⊥
IsSettle (WaitForKey track) = ⊥
IsSettle (Settle line) = Unit {0}

-- a settle comes first
abbrev pub SettlesNext : List Entry → Type 0
SettlesNext [] = ⊥
SettlesNext (e ∷ todo) = IsSettle e

-- behind each entry that is no settle a settle comes first
abbrev pub AreSettled : List Entry → Type 0
AreSettled [] = Unit {0}
AreSettled (e ∷ todo) = (IsSettle e ⊎ SettlesNext todo) × AreSettled todo

-- ---- the history

-- the history is at rest where the serial play stands, or in the midst of the line that leads there, and then a settle comes next
abbrev Stands : List ℕ → List Entry → List Entry → Serial → Type 0
Stands ids g es t = Rest ids g t ⊎ ((s : Serial) × Busy ids g s t × SettlesNext (asked_in es))

-- at an entry that is no line's
stands_on : (ids : List ℕ) (g es : List Entry) (e : Entry) (t : Serial) → IsLegal ids g → Agree t.machine → Allowed ids g e → asked e ≡ [] → Stands ids g (e ∷ es) t → Stands ids (g ++ e ∷ []) es t
stands_on ids g es e t legal agree may none (inl rest) = inl (rest_keeps ids g t rest legal e may none)
stands_on ids g es e t legal agree may none (inr busy) = inr (busy.0, busy_keeps ids g busy.0 t busy.1 legal agree e may none, subst (λ (xs : List Entry). SettlesNext (xs ++ asked_in es)) none busy.2)

-- at a settle
settled_on : (ids : List ℕ) (g es : List Entry) (line : ℕ) (t : Serial) → IsLegal ids g → AtRest (world ids g) → Stands ids g (Settle line ∷ es) t → Rest ids (g ++ Settle line ∷ []) t
settled_on ids g es line t legal rest (inl now) = settle_keeps ids g t now line
settled_on ids g es line t legal rest (inr busy) = settle_keeps ids g t (line_ends ids g busy.0 t busy.1 legal rest) line

-- another line begins at rest
begins_at_rest : (ids : List ℕ) (g es : List Entry) (e : Entry) (t : Serial) → (IsSettle e → ⊥) → asked e ≡ e ∷ [] → Stands ids g (e ∷ es) t → Rest ids g t
begins_at_rest ids g es e t other is (inl rest) = rest
begins_at_rest ids g es e t other is (inr busy) = absurd (other (subst (λ (xs : List Entry). SettlesNext (xs ++ asked_in es)) is busy.2))

-- a settle comes next behind a line that is none
settles_next : (e : Entry) (todo : List Entry) → (IsSettle e → ⊥) → IsSettle e ⊎ SettlesNext todo → SettlesNext todo
settles_next e todo other (inl is) = absurd (other is)
settles_next e todo other (inr next) = next

-- from where it stands, the history comes to rest where the serial play of what it asks comes to
abbrev pub Comes : List ℕ → List Entry → List Entry → Serial → Type 0
Comes ids g es t = Stands ids g es t → Agree t.machine → IsLegal ids (g ++ es) → AreSettled (asked_in es) → AgreeOver t (asked_in es) → Rest ids (g ++ es) (over (asked_in es) t)

comes_end : (ids : List ℕ) (g : List Entry) (t : Serial) → Comes ids g [] t
comes_end ids g t (inl rest) agree legal settled agrees = subst (λ (h : List Entry). Rest ids h t) (sym (append-nil g)) rest
comes_end ids g t (inr busy) agree legal settled agrees = absurd busy.2

legal_behind : (ids : List ℕ) (g es : List Entry) (e : Entry) → IsLegal ids (g ++ e ∷ es) → IsLegal ids ((g ++ e ∷ []) ++ es)
legal_behind ids g es e legal = subst (λ (h : List Entry). IsLegal ids h) (sym (append_assoc g (e ∷ []) es)) legal

rest_behind : (ids : List ℕ) (g es : List Entry) (e : Entry) (t : Serial) → Rest ids ((g ++ e ∷ []) ++ es) t → Rest ids (g ++ e ∷ es) t
rest_behind ids g es e t rest = subst (λ (h : List Entry). Rest ids h t) (append_assoc g (e ∷ []) es) rest

-- over an entry that is no line's
comes_on : (ids : List ℕ) (g es : List Entry) (e : Entry) (t : Serial) → asked e ≡ [] → Comes ids (g ++ e ∷ []) es t → Comes ids g (e ∷ es) t
comes_on ids g es e t none later stands agree legal settled agrees =
    let same : asked_in (e ∷ es) ≡ asked_in es = ap (λ (xs : List Entry). xs ++ asked_in es) none in
    let stood : Stands ids (g ++ e ∷ []) es t = stands_on ids g es e t (legal_front ids g (e ∷ es) legal) agree (allowed_next ids g e es legal) none stands in
    let rest : Rest ids ((g ++ e ∷ []) ++ es) (over (asked_in es) t) = later stood agree (legal_behind ids g es e legal) (subst AreSettled same settled) (subst (AgreeOver t) same agrees) in
    subst (λ (xs : List Entry). Rest ids (g ++ e ∷ es) (over xs t)) (sym same) (rest_behind ids g es e (over (asked_in es) t) rest)

-- what a line's entry is: none of a settle, it is asked, and it begins a line whose sessions agree where they should
record IsLine (ids : List ℕ) (g : List Entry) (e : Entry) (t : Serial) : Type 0 where
  other : IsSettle e → ⊥
  is : asked e ≡ e ∷ []
  begins : Rest ids g t → Busy ids (g ++ e ∷ []) t (step_by e t)
  agrees : Rest ids g t → Agree t.machine → AgreeAfter e (step_by e t) → Agree (step_by e t).machine

-- over a line's entry
comes_through : (ids : List ℕ) (g es : List Entry) (e : Entry) (t : Serial) → IsLine ids g e t → Comes ids (g ++ e ∷ []) es (step_by e t) → Comes ids g (e ∷ es) t
comes_through ids g es e t line later stands agree legal settled agrees =
    let same : asked_in (e ∷ es) ≡ e ∷ asked_in es = ap (λ (xs : List Entry). xs ++ asked_in es) line.is in
    let at : Rest ids g t = begins_at_rest ids g es e t line.other line.is stands in
    let now : (IsSettle e ⊎ SettlesNext (asked_in es)) × AreSettled (asked_in es) = subst AreSettled same settled in
    let all : AgreeAfter e (step_by e t) × AgreeOver (step_by e t) (asked_in es) = subst (AgreeOver t) same agrees in
    let busy : Stands ids (g ++ e ∷ []) es (step_by e t) = inr (t, line.begins at, settles_next e (asked_in es) line.other now.0) in
    let rest : Rest ids ((g ++ e ∷ []) ++ es) (over (asked_in es) (step_by e t)) = later busy (line.agrees at agree all.0) (legal_behind ids g es e legal) now.1 all.1 in
    subst (λ (xs : List Entry). Rest ids (g ++ e ∷ es) (over xs t)) (sym same) (rest_behind ids g es e (over (asked_in es) (step_by e t)) rest)

-- over a settle
comes_settled : (ids : List ℕ) (g es : List Entry) (line : ℕ) (t : Serial) → Comes ids (g ++ Settle line ∷ []) es t → Comes ids g (Settle line ∷ es) t
comes_settled ids g es line t later stands agree legal settled agrees =
    let rest = settled_on ids g es line t (legal_front ids g (Settle line ∷ es) legal) (allowed_next ids g (Settle line) es legal) stands in
    rest_behind ids g es (Settle line) (over (asked_in es) t) (later (inl rest) agree (legal_behind ids g es (Settle line) legal) settled.1 agrees.1)

call_line : (ids : List ℕ) (g : List Entry) (t : Serial) (lane line : ℕ) (call : AppCall) → IsLine ids g (Call lane line call) t
call_line ids g t lane line call = record { other = λ x. x; is = refl; begins = λ rest. call_begins ids g t rest lane line call; agrees = λ rest agree after. after }

tick_line : (ids : List ℕ) (g : List Entry) (t : Serial) (line moment : ℕ) → IsLine ids g (Tick line moment) t
tick_line ids g t line moment = record { other = λ x. x; is = refl; begins = λ rest. tick_begins ids g t rest line moment; agrees = λ rest agree after. after }

feed_line : (ids : List ℕ) (g : List Entry) (t : Serial) (line : ℕ) (given : Option Fragment) → IsLine ids g (Feed line given) t
feed_line ids g t line given = record { other = λ x. x; is = refl; begins = λ rest. feed_begins ids g t rest line given; agrees = λ rest agree after. feed_agrees ids g t rest given agree }

evict_line : (ids : List ℕ) (g : List Entry) (t : Serial) (line : ℕ) (label : List ℕ) → IsLine ids g (Evict line label) t
evict_line ids g t line label = record { other = λ x. x; is = refl; begins = λ rest. evict_begins ids g t rest line label; agrees = λ rest agree after. after }

pub comes_there : (ids : List ℕ) (es g : List Entry) (t : Serial) → Comes ids g es t
comes_there ids [] g t = comes_end ids g t
comes_there ids (Call lane line call ∷ es) g t = comes_through ids g es (Call lane line call) t (call_line ids g t lane line call) (comes_there ids es (g ++ Call lane line call ∷ []) (line_step (Ask call) None t))
comes_there ids (Job ∷ es) g t = comes_on ids g es Job t refl (comes_there ids es (g ++ Job ∷ []) t)
comes_there ids (Task ∷ es) g t = comes_on ids g es Task t refl (comes_there ids es (g ++ Task ∷ []) t)
comes_there ids (Tick line moment ∷ es) g t = comes_through ids g es (Tick line moment) t (tick_line ids g t line moment) (comes_there ids es (g ++ Tick line moment ∷ []) (line_step (Clock moment) None t))
comes_there ids (Feed line given ∷ es) g t = comes_through ids g es (Feed line given) t (feed_line ids g t line given) (comes_there ids es (g ++ Feed line given ∷ []) (line_step FeedAction given t))
comes_there ids (Evict line label ∷ es) g t = comes_through ids g es (Evict line label) t (evict_line ids g t line label) (comes_there ids es (g ++ Evict line label ∷ []) (line_step (EvictAction label) None t))
comes_there ids (Claim worker track index session kid ∷ es) g t = comes_on ids g es (Claim worker track index session kid) t refl (comes_there ids es (g ++ Claim worker track index session kid ∷ []) t)
comes_there ids (Deliver place verdict ∷ es) g t = comes_on ids g es (Deliver place verdict) t refl (comes_there ids es (g ++ Deliver place verdict ∷ []) t)
comes_there ids (GiveUp place ∷ es) g t = comes_on ids g es (GiveUp place) t refl (comes_there ids es (g ++ GiveUp place ∷ []) t)
comes_there ids (Publish track index place ∷ es) g t = comes_on ids g es (Publish track index place) t refl (comes_there ids es (g ++ Publish track index place ∷ []) t)
comes_there ids (PassClear track index ∷ es) g t = comes_on ids g es (PassClear track index) t refl (comes_there ids es (g ++ PassClear track index ∷ []) t)
comes_there ids (WaitForKey track ∷ es) g t = comes_on ids g es (WaitForKey track) t refl (comes_there ids es (g ++ WaitForKey track ∷ []) t)
comes_there ids (Settle line ∷ es) g t = comes_settled ids g es line t (comes_there ids es (g ++ Settle line ∷ []) t)

-- ---- the beginning

empty_rests : (picks : Picks) (ids : List ℕ) → All (TrackAtRest picks) (map empty_track ids)
empty_rests picks [] k d lt = absurd (omega (arith, lt))
empty_rests picks (id ∷ ids) zero d lt = tt
empty_rests picks (id ∷ ids) (suc k) d lt = empty_rests picks ids k d (omega (arith, lt))

-- before the first entry
pub rest_first : (ids : List ℕ) → Rest ids [] unplayed
unfolding world effects_in out
rest_first ids = record {
  rest = record { jobs = refl; tasks = refl; tracks = empty_rests (pick empty_machine) ids };
  seen = refl;
  fed = λ id. refl;
  outputs = λ id there. refl;
}

-- no session holds a key
pub agree_first : Agree unplayed.machine
agree_first n k kid x y at there = absurd (none n at) where
  none : (n : ℕ) → held_key empty_machine n kid ≡ Some x → ⊥
  none zero e = cc
  none (suc i) e = cc
