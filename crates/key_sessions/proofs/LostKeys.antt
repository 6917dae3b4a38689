-- The keys that a step ends, session by session.
use Rattle.std.proofs.Common.{◌≡◌, ℕ, ◌+◌, ◌<◌, ◌⊎◌, inl, inr, List, [], ◌∷◌, ◌++◌, map, length, take, get_or, Option, Some, ap, sym, ◌∙◌, arith}
use Rattle.std.proofs.lemmas.List.{length-map, length-take-le, take_more, map-append}
use Rattle.std.proofs.lemmas.Bool.Decides.{eqb_tells}
use Rattle.eme_types.specs.declared.kid.KeyBytes.{KeyBytes}
use Rattle.cdm_world.specs.In.{In}
use Rattle.cdm_world.proofs.Members.{In_left, In_right, In_either, distinct_both}
use Rattle.cdm_world.specs.Lost.{AreLost}
use Rattle.key_sessions.specs.declared.session.Session.{Session}
use Rattle.key_sessions.specs.SessionOf.{session_of}
use Rattle.key_sessions.specs.Machine.{SessionState, session_at, change_session}
use Rattle.key_sessions.specs.Keys.{usable_key, held_in}
use Rattle.key_sessions.specs.Ended.{AreEnded}
use Rattle.key_sessions.specs.Losses.{LosesInTime}
use Rattle.key_sessions.proofs.Held.{held_there, at_changed, held_other, held_before, held_more, held_last, held_less, held_within}

-- nothing is lost where each usable key stays
pub lost_none : (old new : ℕ → List ℕ → Option KeyBytes) → ((n : ℕ) (kid : List ℕ) (key : KeyBytes) → old n kid ≡ Some key → new n kid ≡ Some key) → AreLost old new []
lost_none old new kept = record { each = λ l there. absurd there; all = λ n kid key was. inl (kept n kid key was); once = tt }

pub ended_none : (n : ℕ) (old new : List ℕ → Option KeyBytes) → ((kid : List ℕ) (key : KeyBytes) → old kid ≡ Some key → new kid ≡ Some key) → AreEnded n old new []
ended_none n old new kept = record { ours = λ l there. absurd there; each = λ l there. absurd there; all = λ kid key was. inl (kept kid key was); once = tt }

-- the same list for facts that are the same
pub ended_same : (n : ℕ) (old new old' new' : List ℕ → Option KeyBytes) (list : List (ℕ × List ℕ)) → ((kid : List ℕ) → old kid ≡ old' kid) → ((kid : List ℕ) → new kid ≡ new' kid) → AreEnded n old new list → AreEnded n old' new' list
ended_same n old new old' new' list same next ended = record {
  ours = ended.ours;
  each = λ l there. (let was = ended.each l there in (was.0, (sym (same l.1) ∙ was.1.0, λ still. was.1.1 (next l.1 ∙ still))));
  all = λ kid key was. elim (ended.all kid key (same kid ∙ was)) [ inl still ↦ inl (sym (next kid) ∙ still) | inr there ↦ inr there ];
  once = ended.once;
}

-- what a change of one session ends
pub lost_change : (moment : ℕ) (ss : List SessionState) (n : ℕ) (s : SessionState) (f : SessionState → SessionState) (list : List (ℕ × List ℕ)) → session_at ss n ≡ Some s → AreEnded n (usable_key moment s) (usable_key moment (f s)) list → AreLost (held_in moment ss) (held_in moment (change_session ss n f)) list
lost_change moment ss n s f list at ended = record {
  each = λ l there. each l there;
  all = λ k kid key was. elim (eqb_tells n k) [ inl e ↦ here k kid key e.1 was | inr e ↦ inl (held_other moment ss n k f kid e.1 ∙ was) ];
  once = ended.once;
}
  where
    before : (kid : List ℕ) → held_in moment ss n kid ≡ usable_key moment s kid
    before kid = held_there moment ss n s kid at

    after : (kid : List ℕ) → held_in moment (change_session ss n f) n kid ≡ usable_key moment (f s) kid
    after kid = held_there moment (change_session ss n f) n (f s) kid (at_changed ss n s f at)

    told : (l : ℕ × List ℕ) → ((key : KeyBytes) × ((usable_key moment s l.1 ≡ Some key) × (usable_key moment (f s) l.1 ≡ Some key → ⊥))) → l.0 ≡ n → (key : KeyBytes) × ((held_in moment ss l.0 l.1 ≡ Some key) × (held_in moment (change_session ss n f) l.0 l.1 ≡ Some key → ⊥))
    told l was ours = (was.0, (rw ours (before l.1 ∙ was.1.0), λ still. was.1.1 (sym (after l.1) ∙ (rw ours at still))))

    each : (l : ℕ × List ℕ) → In list l → (key : KeyBytes) × ((held_in moment ss l.0 l.1 ≡ Some key) × (held_in moment (change_session ss n f) l.0 l.1 ≡ Some key → ⊥))
    each l there = told l (ended.each l there) (ended.ours l there)

    here : (k : ℕ) (kid : List ℕ) (key : KeyBytes) → n ≡ k → held_in moment ss k kid ≡ Some key → (held_in moment (change_session ss n f) k kid ≡ Some key) ⊎ In list (k, kid)
    here k kid key same was =
        let then : held_in moment ss n kid ≡ Some key = rw same was in
        rw (← same) (elim (ended.all kid key (sym (before kid) ∙ then)) [ inl still ↦ inl (after kid ∙ still) | inr there ↦ inr there ])

-- what the time ends of one session more
pub lost_more : (before after : ℕ) (ss : List SessionState) (s : SessionState) (xs ys : List (ℕ × List ℕ)) → LosesInTime before after ss xs → AreEnded (length ss + 1) (usable_key before s) (usable_key after s) ys → LosesInTime before after (ss ++ s ∷ []) (xs ++ ys)
lost_more before after ss s xs ys lost ended = record {
  each = λ l there. elim (In_either xs ys l there) [ inl h ↦ first l h | inr h ↦ last l h ];
  all = λ k kid key was. elim (eqb_tells (length ss + 1) k) [ inl e ↦ here k kid key e.1 was | inr e ↦ other k kid key (held_less before ss s k kid key e.1 was) ];
  once = distinct_both xs ys lost.once ended.once (λ l h k. apart l h k);
}
  where
    first : (l : ℕ × List ℕ) → In xs l → (key : KeyBytes) × ((held_in before (ss ++ s ∷ []) l.0 l.1 ≡ Some key) × (held_in after (ss ++ s ∷ []) l.0 l.1 ≡ Some key → ⊥))
    first l there =
        let was = lost.each l there in
        (was.0, (held_more before ss s l.0 l.1 was.0 was.1.0, λ still. was.1.1 (sym (held_before before after ss s l.0 l.1 l.1 was.0 was.1.0) ∙ still)))

    told : (l : ℕ × List ℕ) → ((key : KeyBytes) × ((usable_key before s l.1 ≡ Some key) × (usable_key after s l.1 ≡ Some key → ⊥))) → l.0 ≡ length ss + 1 → (key : KeyBytes) × ((held_in before (ss ++ s ∷ []) l.0 l.1 ≡ Some key) × (held_in after (ss ++ s ∷ []) l.0 l.1 ≡ Some key → ⊥))
    told l was ours = (was.0, (rw ours (held_last before ss s l.1 ∙ was.1.0), λ still. was.1.1 (sym (held_last after ss s l.1) ∙ (rw ours at still))))

    last : (l : ℕ × List ℕ) → In ys l → (key : KeyBytes) × ((held_in before (ss ++ s ∷ []) l.0 l.1 ≡ Some key) × (held_in after (ss ++ s ∷ []) l.0 l.1 ≡ Some key → ⊥))
    last l there = told l (ended.each l there) (ended.ours l there)

    here : (k : ℕ) (kid : List ℕ) (key : KeyBytes) → length ss + 1 ≡ k → held_in before (ss ++ s ∷ []) k kid ≡ Some key → (held_in after (ss ++ s ∷ []) k kid ≡ Some key) ⊎ In (xs ++ ys) (k, kid)
    here k kid key same was =
        let then : held_in before (ss ++ s ∷ []) (length ss + 1) kid ≡ Some key = rw same was in
        rw (← same) (elim (ended.all kid key (sym (held_last before ss s kid) ∙ then)) [ inl still ↦ inl (held_last after ss s kid ∙ still) | inr there ↦ inr (In_right xs ys (length ss + 1, kid) there) ])

    other : (k : ℕ) (kid : List ℕ) (key : KeyBytes) → held_in before ss k kid ≡ Some key → (held_in after (ss ++ s ∷ []) k kid ≡ Some key) ⊎ In (xs ++ ys) (k, kid)
    other k kid key was = elim (lost.all k kid key was) [ inl still ↦ inl (held_more after ss s k kid key still) | inr there ↦ inr (In_left xs ys (k, kid) there) ]

    apart : (l : ℕ × List ℕ) → In xs l → In ys l → ⊥
    apart l h k =
        let was = lost.each l h in
        let within = held_within before ss l.0 l.1 was.0 was.1.0 in
        let ours = ended.ours l k in
        absurd (omega (arith, within, ours))

-- a turn of a loop over the sessions
pub lost_turn : (before after : ℕ) (all : List Session) (i : ℕ) (v : Session) (xs ys : List (ℕ × List ℕ)) → i < length all → v ≡ get_or all i v → LosesInTime before after (map session_of (take i all)) xs → AreEnded (i + 1) (usable_key before (session_of v)) (usable_key after (session_of v)) ys → LosesInTime before after (map session_of (take (i + 1) all)) (xs ++ ys)
lost_turn before after all i v xs ys lt is lost ended =
    let n : length (map session_of (take i all)) ≡ i = length-map (take i all) session_of ∙ length-take-le i all (omega (arith, lt)) in
    let one : AreEnded (length (map session_of (take i all)) + 1) (usable_key before (session_of v)) (usable_key after (session_of v)) ys = rw n ended in
    let e : map session_of (take (i + 1) all) ≡ map session_of (take i all) ++ session_of v ∷ [] = ap (λ (zs : List Session). map session_of zs) (take_more all i v lt ∙ ap (λ (z : Session). take i all ++ z ∷ []) (sym is)) ∙ map-append session_of (take i all) (v ∷ []) in
    rw e (lost_more before after (map session_of (take i all)) (session_of v) xs ys lost one)
