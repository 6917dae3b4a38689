-- What a crash leaves in each of the two writes of a gate's opening.
use Rattle.std.proofs.Common.{◌≡◌, ◌≢◌, ◌⊎◌, inl, inr, ℕ, ◌+◌, ◌<◌, ◌≤◌, List, [], ◌∷◌, ◌++◌, length, get_or, take, drop, refl, sym, ◌∙◌, ap, subst, arith, append_assoc, length-append, take-append-drop}
use Rattle.std.proofs.lemmas.List.{take_at, drop_at, drop_more, append-nil}
use Rattle.std.proofs.lemmas.Bool.{cases_eq}
use Rattle.vault_disk.specs.Disk.{Holds, Torn, Follows, Only}
use Rattle.key_vault.specs.Gates.{IsShut, IsOpen, IsShutOrOpen}

module _ (front rest : List ℕ) (g gate : ℕ) (long : length front ≡ gate) where
  one_long : length (front ++ g ∷ []) ≡ gate + 1
  one_long = omega (arith, long, length-append front (g ∷ []))

  with_gate : front ++ g ∷ rest ≡ (front ++ g ∷ []) ++ rest
  with_gate = sym (append_assoc front (g ∷ []) rest)

  up_to_gate : take (gate + 1) (front ++ g ∷ rest) ≡ front ++ g ∷ []
  up_to_gate = ap (λ (l : List ℕ). take (gate + 1) l) with_gate ∙ take_at (front ++ g ∷ []) rest (gate + 1) one_long

  behind_it : drop (gate + 1) (front ++ g ∷ rest) ≡ rest
  behind_it = ap (λ (l : List ℕ). drop (gate + 1) l) with_gate ∙ drop_at (front ++ g ∷ []) rest (gate + 1) one_long

  -- the gate stands in each outcome of the first write
  pub shut_behind : (n : ℕ) (c : List ℕ) → g ≢ 1 → Torn (gate + 1) n (front ++ g ∷ rest) c → IsShut front c
  shut_behind n c shut torn =
      let whole : c ≡ front ++ g ∷ drop (gate + 1) c =
      sym (take-append-drop (gate + 1) c)
      ∙ ap (λ (l : List ℕ). l ++ drop (gate + 1) c) (torn.before ∙ up_to_gate)
      ∙ append_assoc front (g ∷ []) (drop (gate + 1) c) in
      (g, drop (gate + 1) c, shut, whole)

  -- after it the bytes stand behind the gate
  pub staged : (behind c : List ℕ) → Holds (front ++ g ∷ rest) (gate + 1) behind c → c ≡ front ++ g ∷ (behind ++ drop (gate + 1 + length behind) (front ++ g ∷ rest))
  staged behind c holds =
      let tail = drop (gate + 1 + length behind) (front ++ g ∷ rest) in
      holds
      ∙ ap (λ (l : List ℕ). l ++ behind ++ tail) up_to_gate
      ∙ append_assoc (front ++ g ∷ []) behind tail
      ∙ append_assoc front (g ∷ []) (behind ++ tail)

  up_to_front : take gate (front ++ g ∷ rest) ≡ front
  up_to_front = take_at front (g ∷ rest) gate long

  -- in each outcome of the second write the gate is shut, or open before what stood behind it
  pub shut_or_open : (behind tail c : List ℕ) → rest ≡ behind ++ tail → Torn gate 1 (front ++ g ∷ rest) c → IsShutOrOpen front behind c
  shut_or_open behind tail c is torn =
      let whole_long : length (front ++ g ∷ rest) ≡ gate + 1 + length rest = omega (arith, long, length-append front (g ∷ rest)) in
      let now = get_or c gate 0 in
      let back : drop gate c ≡ now ∷ rest = drop_more c gate 0 (omega (arith, torn.no_shorter, whole_long)) ∙ ap (λ (l : List ℕ). now ∷ l) (torn.behind ∙ behind_it) in
      let whole : c ≡ front ++ now ∷ rest =
      sym (take-append-drop gate c) ∙ ap (λ (l : List ℕ). l ++ drop gate c) (torn.before ∙ up_to_front) ∙ ap (λ (l : List ℕ). front ++ l) back in
      elim (cases_eq now 1) [
        | inl opened ↦ inr (tail, whole ∙ ap (λ (k : ℕ). front ++ k ∷ rest) opened ∙ ap (λ (l : List ℕ). front ++ 1 ∷ l) is)
        | inr shut ↦ inl (now, rest, shut, whole)
      ]

  -- after it the gate is open
  pub opened : (behind tail c : List ℕ) → rest ≡ behind ++ tail → Holds (front ++ g ∷ rest) gate (1 ∷ []) c → IsOpen front behind c
  opened behind tail c is holds = (
    tail,
    holds
        ∙ ap (λ (l : List ℕ). l ++ (1 ∷ []) ++ drop (gate + 1) (front ++ g ∷ rest)) up_to_front
        ∙ ap (λ (l : List ℕ). front ++ (1 ∷ []) ++ l) behind_it
        ∙ append_assoc front (1 ∷ []) rest
        ∙ ap (λ (l : List ℕ). front ++ 1 ∷ l) is,
  )

  -- and so is what a crash leaves, where it leaves a torn outcome of what is known
  pub first_left : (n : ℕ) (file : List ℕ) (old new : List ℕ → Type 0) → g ≢ 1 → file ≡ front ++ g ∷ rest → Only file old → Follows (Torn (gate + 1) n) old new → (c : List ℕ) → new c → IsShut front c
  first_left n file old new shut is only follows c left =
      let from = follows c left in
      shut_behind n c shut (subst (λ (f : List ℕ). Torn (gate + 1) n f c) (only from.0 from.1 ∙ is) from.2)

  pub second_left : (behind tail file : List ℕ) (old new : List ℕ → Type 0) → rest ≡ behind ++ tail → file ≡ front ++ g ∷ rest → Only file old → Follows (Torn gate 1) old new → (c : List ℕ) → new c → IsShutOrOpen front behind c
  second_left behind tail file old new is whole only follows c left =
      let from = follows c left in
      shut_or_open behind tail c is (subst (λ (f : List ℕ). Torn gate 1 f c) (only from.0 from.1 ∙ whole) from.2)
