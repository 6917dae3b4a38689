-- What a crash may have left since a moment, as steps are added.
use Rattle.std.proofs.Common.{◌≡◌, ◌⊎◌, inl, inr, ℕ, zero, suc, ◌+◌, ◌-◌, ◌<◌, ◌≤◌, List, [], ◌∷◌, ◌++◌, length, take, drop, refl, sym, ap, ◌∙◌, subst, arith, length-append}
use Rattle.std.proofs.lemmas.List.{take-append-drop, take-append-le, take_all, drop_at, drop-drop}
use Rattle.std.proofs.lemmas.Bool.Decides.{nat_tests}
use Rattle.vault_disk.specs.declared.step.Step.{Step}
use Rattle.vault_disk.specs.declared.step.Step.TheVariants.{Wrote, Synced}
use Rattle.vault_disk.specs.Disk.{Elapses}
use Rattle.vault_disk.specs.Content.{Content, begun, after, replayed, wrote, MayLeave}
use Rattle.vault_disk.proofs.Replay.{replayed-append, write_keeps}

-- what a crash may have left at some moment from t on
abbrev pub Left : List ℕ → List Step → ℕ → List ℕ → Type 0
Left first steps t c = (k : ℕ) × (t ≤ k) × (k ≤ length steps) × MayLeave (replayed (begun first) (take k steps)) c

abbrev pub Now : List ℕ → List Step → List ℕ → Type 0
Now first steps c = MayLeave (replayed (begun first) steps) c

le_or_lt : (k n : ℕ) → (k ≤ n) ⊎ (n < k)
le_or_lt zero n = inl (omega arith)
le_or_lt (suc k) zero = inr (omega arith)
le_or_lt (suc k) (suc n) = elim (le_or_lt k n) [ inl h ↦ inl (omega arith) | inr h ↦ inr (omega arith) ]

-- steps behind which what might be left may still be left
pub grows : (first : List ℕ) (steps more : List Step)
    → ((k : ℕ) (c : List ℕ) → length steps < k → MayLeave (replayed (begun first) (take k (steps ++ more))) c → Now first (steps ++ more) c)
    → Elapses (length steps) (length (steps ++ more)) (Left first steps) (Left first (steps ++ more)) (Now first (steps ++ more))
grows first steps more late = record {
  later = omega (arith, length-append steps more);
  nothing_else = λ t c le (k, from, within, left). elim (le_or_lt k (length steps)) [
    | inl early ↦ inl (k, from, early, subst (λ (l : List Step). MayLeave (replayed (begun first) l) c) (take-append-le k steps more early) left)
    | inr after_all ↦ inr (late k c after_all left)
  ];
  keeps = λ t c le (k, from, within, left).
      (k, from, omega (arith, length-append steps more), subst (λ (l : List Step). MayLeave (replayed (begun first) l) c) (sym (take-append-le k steps more within)) left);
}

drop-wrote : (n place : ℕ) (bytes : List ℕ) → drop n (wrote place bytes) ≡ wrote (place + n) (drop n bytes)
drop-wrote zero place bytes = let e : place + 0 ≡ place = omega arith in rw e refl
drop-wrote (suc n) place [] = refl
drop-wrote (suc n) place (byte ∷ bytes) =
    let e : place + 1 + n ≡ place + suc n = omega arith in
    drop-wrote n (place + 1) bytes ∙ ap (λ (k : ℕ). wrote k (drop n bytes)) e

drop_behind : (k : ℕ) (steps more : List Step) → length steps ≤ k → drop k (steps ++ more) ≡ drop (k - length steps) more
drop_behind k steps more le =
    let e : length steps + (k - length steps) ≡ k = omega arith in
    ap (λ (n : ℕ). drop n (steps ++ more)) (sym e)
    ∙ sym (drop-drop (k - length steps) (length steps) (steps ++ more))
    ∙ ap (λ (l : List Step). drop (k - length steps) l) (drop_at steps more (length steps) refl)

write_late : (first : List ℕ) (steps : List Step) (place : ℕ) (bytes : List ℕ) (k : ℕ) (c : List ℕ) → length steps < k
    → MayLeave (replayed (begun first) (take k (steps ++ wrote place bytes))) c → Now first (steps ++ wrote place bytes) c
write_late first steps place bytes k c lt left =
    let all = steps ++ wrote place bytes in
    let n = k - length steps in
    let rest : drop k all ≡ wrote (place + n) (drop n bytes) = drop_behind k steps (wrote place bytes) (omega arith) ∙ drop-wrote n place bytes in
    let whole : replayed (begun first) all ≡ replayed (replayed (begun first) (take k all)) (wrote (place + n) (drop n bytes)) =
    ap (λ (l : List Step). replayed (begun first) l) (sym (take-append-drop k all))
    ∙ replayed-append (begun first) (take k all) (drop k all)
    ∙ ap (λ (l : List Step). replayed (replayed (begun first) (take k all)) l) rest in
    subst (λ (w : Content). MayLeave w c) (sym whole) (write_keeps (replayed (begun first) (take k all)) (place + n) (drop n bytes) c left)

pub write_elapses : (first : List ℕ) (steps : List Step) (place : ℕ) (bytes : List ℕ)
    → Elapses (length steps) (length (steps ++ wrote place bytes)) (Left first steps) (Left first (steps ++ wrote place bytes)) (Now first (steps ++ wrote place bytes))
write_elapses first steps place bytes = grows first steps (wrote place bytes) (write_late first steps place bytes)

pub sync_elapses : (first : List ℕ) (steps : List Step)
    → Elapses (length steps) (length (steps ++ Synced ∷ [])) (Left first steps) (Left first (steps ++ Synced ∷ [])) (Now first (steps ++ Synced ∷ []))
sync_elapses first steps =
    grows first steps (Synced ∷ []) (λ k c lt left.
    subst (λ (l : List Step). MayLeave (replayed (begun first) l) c) (take_all k (steps ++ Synced ∷ []) (omega (arith, length-append steps (Synced ∷ [])))) left)

pub stays : (first : List ℕ) (steps : List Step) → Elapses (length steps) (length steps) (Left first steps) (Left first steps) (Now first steps)
stays first steps = record { later = omega arith; nothing_else = λ t c le left. inl left; keeps = λ t c le left. left }
