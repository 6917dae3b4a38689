-- A script and a media have one history on one thread.
use Rattle.std.proofs.Common.{◌≡◌, ℕ, ◌+◌, ◌-◌, ◌≤◌, ◌<◌, List, [], ◌∷◌, ◌++◌, length, take, slice_get, length-append, inl, inr, refl, ap, ◌∙◌, sym, subst, append_assoc, arith}
use Rattle.std.specs.List.{flat_map}
use Rattle.std.proofs.lemmas.List.{append_cancel_left, take-append-le, take_all}
use Rattle.std.proofs.lemmas.List.Concat.{flat_map-append}
use Rattle.eme_types.specs.declared.media.Media.{Media}
use Rattle.eme_types.specs.declared.entry.Entry.{Entry}
use Rattle.eme_types.specs.declared.entry.Entry.TheVariants.{Call, Job, Task, Tick, Feed, Evict, Claim, Deliver, GiveUp, Publish, PassClear, WaitForKey, Settle}
use Rattle.script_lang.specs.declared.script.Line.{Line}
use Rattle.cdm_world.proofs.ItemsAt.{get_here}
use Rattle.cdm_state.specs.History.{IsLegal}
use Rattle.cdm_state.proofs.Histories.{legal_front, allowed_next}
use Rattle.cdm_state.proofs.Places.{slice_get_last}
use Rattle.output_order.specs.Lane.{asked}
use Rattle.player_core.specs.Alone.{LastAsked, InTurn, AreInTurn, IsAlone}
use Rattle.player_core.proofs.Next.{kind, not_before, same_step, asked_or_step}
use Rattle.player_core.proofs.Asked.{asked_alike}

-- what stands behind a front comes in turn after it
turn_next : (ids : List ℕ) (f : List Entry) (e : Entry) (es : List Entry) → AreInTurn ids (f ++ e ∷ es) → InTurn ids f e
turn_next ids f e es all =
    let within : length f ≤ length f = omega arith in
    let front : take (length f) (f ++ e ∷ es) ≡ f = rw take-append-le (take_all (length f) f within) in
    subst (λ (g : List Entry). InTurn ids g e) front (all.each (length f) e (get_here f e es))

-- the first of these is the settle of a line
abbrev SettlesNext : List Entry → Type 0
SettlesNext es = (line : ℕ) × (rest : List Entry) × (es ≡ Settle line ∷ rest)

leads : (ids : List ℕ) (g : List Entry) (z : Entry) (zs : List Entry) → InTurn ids g z → (LastAsked g → ⊥) → (asked z ≡ [] → SettlesNext (flat_map asked zs)) → SettlesNext (flat_map asked (z ∷ zs))
leads ids g (Call lane line call) zs turn behind go = absurd (behind turn)
leads ids g Job zs turn behind go = go refl
leads ids g Task zs turn behind go = go refl
leads ids g (Tick line moment) zs turn behind go = absurd (behind turn)
leads ids g (Feed line fragment) zs turn behind go = absurd (behind turn)
leads ids g (Evict line label) zs turn behind go = absurd (behind turn)
leads ids g (Claim worker track index session kid) zs turn behind go = go refl
leads ids g (Deliver place verdict) zs turn behind go = go refl
leads ids g (GiveUp place) zs turn behind go = absurd turn
leads ids g (Publish track index place) zs turn behind go = go refl
leads ids g (PassClear track index) zs turn behind go = go refl
leads ids g (WaitForKey track) zs turn behind go = go refl
leads ids g (Settle line) zs turn behind go = (line, flat_map asked zs, refl)

-- a step is no line's and not implied
step_last : (f : List Entry) (x : Entry) → asked x ≡ [] → LastAsked (f ++ x ∷ []) → ⊥
step_last f x none last =
    let many : length (f ++ x ∷ []) ≡ length f + 1 = length-append f (x ∷ []) in
    let one : 1 ≤ length (f ++ x ∷ []) = omega (arith, many) in
    let end : length (f ++ x ∷ []) - 1 ≡ length f = omega (arith, many) in
    let clash : [] ≡ x ∷ [] = sym none ∙ last x (one, ap (λ n. slice_get (f ++ x ∷ []) n) end ∙ slice_get_last f x) in
    absurd cc

-- behind a step the next that is asked for is a settle
step_leads : (ids : List ℕ) (f : List Entry) (x : Entry) (xs : List Entry) → AreInTurn ids (f ++ x ∷ xs) → LastAsked (f ++ x ∷ xs) → asked x ≡ [] → SettlesNext (flat_map asked xs)
step_leads ids f x [] turns last none = absurd (step_last f x none last)
step_leads ids f x (z ∷ zs) turns last none =
    let g : List Entry = f ++ x ∷ [] in
    let seam : f ++ x ∷ (z ∷ zs) ≡ g ++ z ∷ zs = sym (append_assoc f (x ∷ []) (z ∷ zs)) in
    let all : AreInTurn ids (g ++ z ∷ zs) = subst (λ (es : List Entry). AreInTurn ids es) seam turns in
    leads ids g z zs (turn_next ids g z zs all) (step_last f x none) (λ nothing. step_leads ids g z zs all (subst LastAsked seam last) nothing)

-- a history on one thread, behind a front
record GoesOn (ids : List ℕ) (f : List Entry) (x : Entry) (xs : List Entry) : Type 0 where
  pub legal : IsLegal ids (f ++ x ∷ xs)
  pub turns : AreInTurn ids (f ++ x ∷ xs)
  pub last : LastAsked (f ++ x ∷ xs)

-- a step and a line's entry cannot both be next
step_or_line : (ids : List ℕ) (f : List Entry) (x y : Entry) (xs ys : List Entry) → GoesOn ids f x xs → GoesOn ids f y ys → asked x ≡ [] → kind x < 7 → asked y ≡ y ∷ [] → flat_map asked (x ∷ xs) ≡ flat_map asked (y ∷ ys) → ⊥
step_or_line ids f x y xs ys a b none lt is same =
    let next : SettlesNext (flat_map asked xs) = step_leads ids f x xs a.turns a.last none in
    let both : Settle next.0 ∷ next.1 ≡ y ∷ flat_map asked ys = sym next.2 ∙ (sym (ap (λ es. es ++ flat_map asked xs) none) ∙ (same ∙ ap (λ es. es ++ flat_map asked ys) is)) in
    let settle : y ≡ Settle next.0 = cc in
    let turn : InTurn ids f (Settle next.0) = subst (λ (e : Entry). InTurn ids f e) settle (turn_next ids f y ys b.turns) in
    let le : 7 ≤ 7 = omega arith in
    not_before ids f x (Settle next.0) lt (allowed_next ids f x xs a.legal) le turn lt

next_alike : (ids : List ℕ) (f : List Entry) (x y : Entry) (xs ys : List Entry) → GoesOn ids f x xs → GoesOn ids f y ys → flat_map asked (x ∷ xs) ≡ flat_map asked (y ∷ ys) → x ≡ y
next_alike ids f x y xs ys a b same =
    let turn : InTurn ids f x = turn_next ids f x xs a.turns in
    let other : InTurn ids f y = turn_next ids f y ys b.turns in
    elim (asked_or_step ids f x turn) [
      | inl line ↦ elim (asked_or_step ids f y other) [
        | inl also ↦ (let both : x ∷ flat_map asked xs ≡ y ∷ flat_map asked ys = sym (ap (λ es. es ++ flat_map asked xs) line) ∙ (same ∙ ap (λ es. es ++ flat_map asked ys) also) in cc)
        | inr step ↦ absurd (step_or_line ids f y x ys xs b a step.0 step.1 line (sym same))
      ]
      | inr step ↦ elim (asked_or_step ids f y other) [
        | inl line ↦ absurd (step_or_line ids f x y xs ys a b step.0 step.1 line same)
        | inr also ↦ same_step ids f x y (legal_front ids f (x ∷ xs) a.legal) step.1 also.1 (allowed_next ids f x xs a.legal) (allowed_next ids f y ys b.legal) turn other
      ]
    ]

-- a history that has ended asks for nothing more
no_more : (ids : List ℕ) (f : List Entry) (y : Entry) (ys : List Entry) → GoesOn ids f y ys → [] ≡ flat_map asked (y ∷ ys) → ⊥
no_more ids f y ys b same =
    elim (asked_or_step ids f y (turn_next ids f y ys b.turns)) [
      | inl line ↦ (let clash : [] ≡ y ∷ flat_map asked ys = same ∙ ap (λ es. es ++ flat_map asked ys) line in absurd cc)
      | inr step ↦ (
          let next : SettlesNext (flat_map asked ys) = step_leads ids f y ys b.turns b.last step.0 in
          let clash : [] ≡ Settle next.0 ∷ next.1 = same ∙ (ap (λ es. es ++ flat_map asked ys) step.0 ∙ next.2) in
          absurd cc)
    ]

goes_on : (script : List Line) (media : Media) (f : List Entry) (x : Entry) (xs : List Entry) → IsAlone script media (f ++ x ∷ xs) → GoesOn media.tracks f x xs
goes_on script media f x xs a = record { legal = a.legal; turns = a.turns; last = a.last }

left_asked : (script : List Line) (media : Media) (f xs ys : List Entry) → IsAlone script media (f ++ xs) → IsAlone script media (f ++ ys) → flat_map asked xs ≡ flat_map asked ys
left_asked script media f xs ys a b =
    append_cancel_left (flat_map asked f) (flat_map asked xs) (flat_map asked ys) (sym (flat_map-append asked f xs) ∙ (asked_alike script media (f ++ xs) (f ++ ys) a b ∙ flat_map-append asked f ys))

alike_from : (script : List Line) (media : Media) (f xs ys : List Entry) → IsAlone script media (f ++ xs) → IsAlone script media (f ++ ys) → xs ≡ ys
alike_from script media f [] [] a b = refl
alike_from script media f [] (y ∷ ys) a b = absurd (no_more media.tracks f y ys (goes_on script media f y ys b) (left_asked script media f [] (y ∷ ys) a b))
alike_from script media f (x ∷ xs) [] a b = absurd (no_more media.tracks f x xs (goes_on script media f x xs a) (sym (left_asked script media f (x ∷ xs) [] a b)))
alike_from script media f (x ∷ xs) (y ∷ ys) a b =
    let same : x ≡ y = next_alike media.tracks f x y xs ys (goes_on script media f x xs a) (goes_on script media f y ys b) (left_asked script media f (x ∷ xs) (y ∷ ys) a b) in
    let seam : f ++ x ∷ xs ≡ (f ++ x ∷ []) ++ xs = sym (append_assoc f (x ∷ []) xs) in
    let other : f ++ y ∷ ys ≡ (f ++ x ∷ []) ++ ys = ap (λ z. f ++ z ∷ ys) (sym same) ∙ sym (append_assoc f (x ∷ []) ys) in
    let rest : xs ≡ ys = alike_from script media (f ++ x ∷ []) xs ys (subst (λ (h : List Entry). IsAlone script media h) seam a) (subst (λ (h : List Entry). IsAlone script media h) other b) in
    ap (λ z. z ∷ xs) same ∙ ap (λ zs. y ∷ zs) rest

-- any two are equal
pub the_one : (script : List Line) (media : Media) (h g : List Entry) → IsAlone script media h → IsAlone script media g → h ≡ g
the_one script media h g a b = alike_from script media [] h g a b
