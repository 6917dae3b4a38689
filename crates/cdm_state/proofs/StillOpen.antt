-- Claims stay open through what does not spend them.
use Rattle.std.proofs.Common.{zero, suc, refl, append-nil, append_assoc, arith, OnOk, OnErr, IfOk, Result, Ok, Err, ℕ, ◌≡◌, ◌≢◌, ◌+◌, ◌-◌, List, [], ◌∷◌, ◌++◌, length, take, Some, sym, ap, subst}
use Rattle.eme_types.specs.declared.entry.Entry.{Entry}
use Rattle.eme_types.specs.declared.entry.Entry.TheVariants.{Claim, Deliver, Publish, PassClear, WaitForKey}
use Rattle.eme_types.specs.declared.entry.Verdict.TheVariants.{Taken as TakenVerdict, Stale as StaleVerdict}
use Rattle.key_claims.specs.declared.claim.Delivered.{Delivered}
use Rattle.key_claims.specs.declared.claim.Delivered.TheVariants.{Taken, Stale}
use Rattle.key_claims.specs.declared.claim.Claim.{Claim as Held}
use Rattle.key_claims.specs.declared.claim.ClaimFault.{ClaimFault}
use Rattle.key_claims.specs.declared.claim.Published.{Published}
use Rattle.key_sessions.specs.Keys.{held_key}
use Rattle.key_sessions.specs.World.{World}
use Rattle.cdm_state.specs.Contract.{Stands, IsOpen, Claims, Delivers}
use Rattle.cdm_state.specs.Open.{StandsOn, StaysOpen}
use Rattle.cdm_state.specs.History.{world, Spends}
use Rattle.cdm_state.specs.Output.{fed_sample}
use Rattle.cdm_state.specs.Run.{Run, with_entry}
use Rattle.cdm_state.proofs.Places.{slice_get_left}
use Rattle.cdm_state.proofs.Live.{at_within, take_left, open_more}

-- a claim stands after one more entry
stands_after : (r : Run) (e : Entry) (c : Held) → Stands r c → Stands (with_entry r e) c
stands_after r e c st =
    let le = at_within r.history c.place (Claim c.worker c.track c.index c.session st.kid) st.at in
    let same : world r.tracks (take c.place (r.history ++ e ∷ [])) ≡ world r.tracks (take c.place r.history) = ap (λ (g : List Entry). world r.tracks g) (take_left r.history e c.place le) in
    record {
      kid = st.kid;
      at = (st.at.0, slice_get_left r.history e (Claim c.worker c.track c.index c.session st.kid) (c.place - 1) st.at.1);
      key = subst (λ (w : World). held_key w.machine c.session st.kid ≡ Some c.key) (sym same) st.key;
      sample = subst (λ (w : World). fed_sample w c.track c.index ≡ Some c.sample) (sym same) st.sample;
      formed = st.formed;
    }

-- it stays open after an entry that does not spend it
pub open_after : (r : Run) (e : Entry) (c : Held) → (Spends e c.place → ⊥) → IsOpen r c → IsOpen (with_entry r e) c
open_after r e c other o = record { stands = stands_after r e c o.stands; waits = open_more r.history e c.place other o.waits }

abbrev at_end : Run → List Entry → Run
at_end r h = record r { history = h }

pub stands_on : StandsOn
stands_on r [] c st = subst (λ (h : List Entry). Stands (at_end r h) c) (sym (append-nil r.history)) st
stands_on r (e ∷ es) c st = subst (λ (h : List Entry). Stands (at_end r h) c) (append_assoc r.history (e ∷ []) es) (stands_on (with_entry r e) es c (stands_after r e c st))

pub stays_open : StaysOpen
stays_open r [] c others o = subst (λ (h : List Entry). IsOpen (at_end r h) c) (sym (append-nil r.history)) o
stays_open r (e ∷ es) c others o = subst (λ (h : List Entry). IsOpen (at_end r h) c) (append_assoc r.history (e ∷ []) es) (stays_open (with_entry r e) es c (λ n x at. others (suc n) x at) (open_after r e c (others zero e refl) o))

-- open claims stay open where nothing was done
pub kept_open : (old new : Run) → new ≡ old → (c : Held) → IsOpen old c → IsOpen new c
kept_open old new same c o = subst (λ (r : Run). IsOpen r c) (sym same) o

-- and where an entry was appended that does not spend them
pub more_open : (old new : Run) (e : Entry) → new ≡ with_entry old e → (c : Held) → (Spends e c.place → ⊥) → IsOpen old c → IsOpen new c
more_open old new e more c other o = subst (λ (r : Run). IsOpen r c) (sym more) (open_after old e c other o)

-- a claim that was open before has another place than that of the next entry
pub earlier_place : (r : Run) (c : Held) (place : ℕ) → place ≡ length r.history + 1 → IsOpen r c → c.place ≢ place
earlier_place r c place next o = λ same.
    let le = at_within r.history c.place (Claim c.worker c.track c.index c.session o.stands.kid) o.stands.at in
    omega (arith, le, next, same)

-- open claims stay open after a call that appends an entry which spends none, or changes nothing
pub answered_open : {A B : Type 0} (result : Result A B) (old new : Run) (e : Entry) → ((place : ℕ) → Spends e place → ⊥) → OnOk result (new ≡ with_entry old e) → OnErr result (new ≡ old) → (c : Held) → IsOpen old c → IsOpen new c
answered_open (Ok a) old new e spends ok err c o = more_open old new e ok c (spends c.place) o
answered_open (Err b) old new e spends ok err c o = kept_open old new err c o

pub published_open : {B : Type 0} (result : Result Published B) (old new : Run) → IfOk result (λ p. (place : ℕ) × (new ≡ with_entry old (Publish p.track p.index place))) → OnErr result (new ≡ old) → (c : Held) → IsOpen old c → IsOpen new c
published_open (Ok p) old new ok err c o = more_open old new (Publish p.track p.index ok.0) ok.1 c (λ x. x) o
published_open (Err b) old new ok err c o = kept_open old new err c o

pub passed_open : {B : Type 0} (result : Result Published B) (old new : Run) → IfOk result (λ p. new ≡ with_entry old (PassClear p.track p.index)) → OnErr result (new ≡ old) → (c : Held) → IsOpen old c → IsOpen new c
passed_open (Ok p) old new ok err c o = more_open old new (PassClear p.track p.index) ok c (λ x. x) o
passed_open (Err b) old new ok err c o = kept_open old new err c o

pub waited_open : {B : Type 0} (result : Result ℕ B) (old new : Run) → IfOk result (λ t. new ≡ with_entry old (WaitForKey t)) → OnErr result (new ≡ old) → (c : Held) → IsOpen old c → IsOpen new c
waited_open (Ok t) old new ok err c o = more_open old new (WaitForKey t) ok c (λ x. x) o
waited_open (Err b) old new ok err c o = kept_open old new err c o

-- a delivery spends its own claim alone
pub delivered_open : (old new : Run) (place : ℕ) (clear : List ℕ) (result : Delivered) → Delivers old place clear result new → (c : Held) → c.place ≢ place → IsOpen old c → IsOpen new c
delivered_open old new place clear Taken d c other o = more_open old new (Deliver place TakenVerdict) d.1 c (λ same. other (sym same)) o
delivered_open old new place clear (Stale back) d c other o = more_open old new (Deliver place StaleVerdict) d.1 c (λ same. other (sym same)) o

-- and a claim spends none
pub claimed_open : (old new : Run) (worker : ℕ) (claim : Held) → Claims old worker claim new → (c : Held) → IsOpen old c → IsOpen new c
claimed_open old new worker claim is c o = more_open old new (Claim worker claim.track claim.index claim.session is.kid) is.entry c (λ x. x) o

pub claim_open : (result : Result Held ClaimFault) (old new : Run) (worker : ℕ) → IfOk result (λ claim. Claims old worker claim new) → OnErr result (new ≡ old) → (c : Held) → IsOpen old c → IsOpen new c
claim_open (Ok claim) old new worker ok err c o = claimed_open old new worker claim ok c o
claim_open (Err fault) old new worker ok err c o = kept_open old new err c o
