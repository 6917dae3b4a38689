-- That a crash leaves only what has P, as one of several device calls goes on.
use Rattle.std.proofs.Common.{◌≡◌, inl, inr, ⊎_elim, ℕ, ◌≤◌, List, arith, subst, sym}
use Rattle.vault_disk.specs.Disk.{Elapses, LeavesOnly, Unmoved}

module _ {D : Type 0} (moment : D → ℕ) (left_since : D → ℕ → List ℕ → Type 0) where
  -- before the first call
  pub started : (old : D) (P : List ℕ → Type 0) → ((c : List ℕ) → left_since old (moment old) c → P c) → LeavesOnly moment left_since old old P
  started old P here = record { later = omega arith; each = here; before = λ t c le left. inl left }

  -- one call more, after which a crash leaves what has P
  pub goes_on : (old mid new : D) (P may_leave : List ℕ → Type 0) → LeavesOnly moment left_since old mid P → Elapses (moment mid) (moment new) (left_since mid) (left_since new) may_leave
      → ((c : List ℕ) → may_leave c → P c) → LeavesOnly moment left_since old new P
  goes_on old mid new P may_leave so_far time here = record {
    later = omega (arith, so_far.later, time.later);
    each = λ c left. ⊎_elim (so_far.each c) (here c) (time.nothing_else (moment old) c so_far.later left);
    before = λ t c le left. ⊎_elim (so_far.before t c le) (λ now. inr (here c now)) (time.nothing_else t c (omega (arith, le, so_far.later)) left);
  }

  -- a call that moves nothing, before the others
  pub stood_still : (old mid new : D) (P now then : List ℕ → Type 0) → moment mid ≡ moment old → Unmoved now then (left_since old) (left_since mid)
      → LeavesOnly moment left_since mid new P → LeavesOnly moment left_since old new P
  stood_still old mid new P now then same unmoved so_far = record {
    later = omega (arith, so_far.later);
    each = λ c left. so_far.each c (subst (λ (t : ℕ). left_since new t c) (sym same) left);
    before = λ t c le left. ⊎_elim (λ past. inl ((unmoved.ever t c).1 past)) (λ p. inr p) (so_far.before t c (omega (arith, le)) left);
  }

  -- one run behind another
  pub then_on : (old mid new : D) (P Q R : List ℕ → Type 0) → ((c : List ℕ) → P c → R c) → ((c : List ℕ) → Q c → R c) → LeavesOnly moment left_since old mid P → LeavesOnly moment left_since mid new Q → LeavesOnly moment left_since old new R
  then_on old mid new P Q R f h first next = record {
    later = omega (arith, first.later, next.later);
    each = λ c left. ⊎_elim (λ past. f c (first.each c past)) (λ q. h c q) (next.before (moment old) c first.later left);
    before = λ t c le left. ⊎_elim (λ past. ⊎_elim (λ older. inl older) (λ p. inr (f c p)) (first.before t c le past)) (λ q. inr (h c q)) (next.before t c (omega (arith, le, first.later)) left);
  }
