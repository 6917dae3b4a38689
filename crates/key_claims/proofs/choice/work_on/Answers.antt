use Rattle.std.proofs.Common.{◌≡◌, ◌≤◌, ◌∙◌, sym, arith, inl, inr, false}
use Rattle.std.proofs.Math.Nat.{eq-or-lt_of_le}
use Rattle.key_claims.proofs.Picks.{picked_none, picked_some}
use Rattle.key_claims.proofs.choice.work_on.Goals as goal

pub loop-index-init : goal.loop-index-init
loop-index-init g c = λ i from lt. absurd (omega (arith, from, lt, c.published-from.ensures.items))

pub returns-in-Some-clause-work : goal.returns-in-Some-clause-work
returns-in-Some-clause-work g c =
    let n = c.published-from.ensures.items in
    let awake : c.args.track.now.track.waiting ≡ false = sym c.is_waiting.ensures ∙ c.if-is_waiting.false in
    record {
      awake = awake;
      from = omega (arith, n, c.loop-index.auto.index);
      window = omega (arith, n, c.loop-index-test.true, c.saturating_add-end.ensures);
      picked = picked_some _ c.in-Some.pick (sym c.claimable.ensures ∙ c.in-Some.is);
      least = λ i from lt. c.loop-index.invariant i from lt;
    }

pub loop-index-preserved : goal.loop-index-preserved
loop-index-preserved g c = λ i from lt.
    let most : i ≤ c.loop-index.index = omega (arith, lt) in
    elim (eq-or-lt_of_le most) [
      | inl e ↦ rw e (picked_none _ (sym c.claimable.ensures ∙ c.in-None.is))
      | inr l ↦ c.loop-index.invariant i from l
    ]

pub returns-clause-work : goal.returns-clause-work
returns-clause-work g c = λ off i from lt. c.loop-index.invariant i from (omega (arith, c.published-from.ensures.items, c.published-from.ensures.few, lt, c.saturating_add-end.ensures, c.loop-index-test.false))
