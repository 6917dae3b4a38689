-- The play with no worker and one lane, and any other.
use Rattle.std.proofs.Common.{◌≡◌, ℕ, Bool, true, false, ◌&&◌, Result, Ok, Err, List, refl, sym, subst}
use Rattle.std.specs.Prelude.{◌==◌, IfOk, IsTrue}
use Rattle.std.proofs.lemmas.Bool.{eqb-true}
use Rattle.eme_types.specs.Fed.{IsFed}
use Rattle.eme_types.specs.declared.media.Media.{Media}
use Rattle.script_lang.specs.declared.script.Line.{Line}
use Rattle.cdm_state.specs.Run.{Run}
use Rattle.cdm_state.specs.History.{IsLegal}
use Rattle.cdm_state.specs.Progress.{NoneWaits}
use Rattle.output_order.specs.Complete.{IsComplete}
use Rattle.output_order.specs.Staffed.{IsStaffed}
use Rattle.play_parts.specs.Whole.{IsWhole}
use Rattle.serial_play.specs.Law.{HasSerialAnswer, OneAnswer}

pub alone_by : (workers : ℕ) (one is : Bool) → workers ≡ 0 → is ≡ one → is ≡ (workers == 0 && one)
alone_by workers one is zero same = subst (λ (n : ℕ). is ≡ (n == 0 && one)) (sym zero) same

zero_by : (a b : Bool) → (a && b) ≡ true → a ≡ true
zero_by true b both = refl
zero_by false b both = absurd cc

-- who plays alone has no worker
pub staffed_alone : {E : Type 0} (r : Result Run E) (workers : ℕ) (one : Bool) → (workers == 0 && one) ≡ true → IfOk r (λ cdm. IsStaffed 0 cdm.history) → IfOk r (λ cdm. IsStaffed workers cdm.history)
staffed_alone r workers one alone staffed = subst (λ (n : ℕ). IfOk r (λ cdm. IsStaffed n cdm.history)) (sym (eqb-true workers 0 (zero_by (workers == 0) one alone))) staffed

not_both : (workers : ℕ) (one : Bool) → (workers == 0 && one) ≡ false → workers ≡ 0 → IsTrue one → ⊥
not_both workers one other zero true_ = (let never : one ≡ false = subst (λ (n : ℕ). (n == 0 && one) ≡ false) zero other in cc)

-- who does not play alone has a worker, or a lane more
pub not_alone : {A E : Type 0} (P : A → Type 0) (r : Result A E) (workers : ℕ) (one : Bool) → (workers == 0 && one) ≡ false → IfOk r (λ x. workers ≡ 0 → IsTrue one → P x)
not_alone P (Ok x) workers one other = λ zero true_. absurd (not_both workers one other zero true_)
not_alone P (Err e) workers one other = tt

pub whole_complete : {E : Type 0} (script : List Line) (media : Media) (k : ℕ) (r : Result Run E) → IfOk r (λ cdm. IsWhole script media k cdm.history) → IfOk r (λ cdm. IsComplete script media cdm.history)
whole_complete script media k (Ok cdm) whole = whole.complete
whole_complete script media k (Err e) whole = tt

-- a legal history that is whole has the answer of the serial play
pub whole_serial : {E : Type 0} (script : List Line) (media : Media) (k : ℕ) (r : Result Run E) → OneAnswer → IsFed media → IfOk r (λ cdm. IsLegal media.tracks cdm.history) → IfOk r (λ cdm. IsWhole script media k cdm.history) → IfOk r (λ cdm. HasSerialAnswer script media cdm.history)
whole_serial script media k (Ok cdm) answer fed legal whole = answer script media cdm.history fed legal whole.complete
whole_serial script media k (Err e) answer fed legal whole = tt

pub whole_staffed : {E : Type 0} (script : List Line) (media : Media) (k : ℕ) (r : Result Run E) → IfOk r (λ cdm. IsWhole script media k cdm.history) → IfOk r (λ cdm. IsStaffed k cdm.history)
whole_staffed script media k (Ok cdm) whole = whole.staffed
whole_staffed script media k (Err e) whole = tt

pub whole_delivered : {E : Type 0} (script : List Line) (media : Media) (k : ℕ) (r : Result Run E) → IfOk r (λ cdm. IsWhole script media k cdm.history) → IfOk r (λ cdm. NoneWaits cdm.history)
whole_delivered script media k (Ok cdm) whole = whole.delivered
whole_delivered script media k (Err e) whole = tt
