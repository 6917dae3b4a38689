use Rattle.std.proofs.Common.{◌≡◌, ◌∙◌, ℕ, ◌+◌, List, sym, inr, arith}
use Rattle.std.proofs.lemmas.Result.{err_from_is_err_and}
use Rattle.prot_boxes.specs.declared.sbgp.SbgpItem.{SbgpItem}
use Rattle.sample_aux.specs.Groups.{index_at, rule_at, rules_at}
use Rattle.sample_aux.proofs.InOrder.{one_more, broken_off, finished}
use Rattle.sample_aux.proofs.groups.rules_at.Goals as goal

-- what the cursor gives is the index of sample k
index_is : (items rest : List SbgpItem) (passed k index : ℕ) → index ≡ index_at rest passed → ((m : ℕ) → index_at rest (passed + m) ≡ index_at items (k + m)) → index ≡ index_at items k
index_is items rest passed k index e follow =
    let a : passed + 0 ≡ passed = omega arith in
    let b : k + 0 ≡ k = omega arith in
    e ∙ (rw (a, b) at (follow 0))

follows : (items new rest : List SbgpItem) (passed after k : ℕ) → ((m : ℕ) → index_at new (after + m) ≡ index_at rest (passed + (m + 1))) → ((m : ℕ) → index_at rest (passed + m) ≡ index_at items (k + m))
    → (m : ℕ) → index_at new (after + m) ≡ index_at items ((k + 1) + m)
follows items new rest passed after k moves follow m =
    let e : (k + 1) + m ≡ k + (m + 1) = omega arith in
    rw e (moves m ∙ follow (m + 1))

pub returns-in_err-rule : goal.returns-in_err-rule
returns-in_err-rule c =
    let p = err_from_is_err_and c.from_residual.result c.from_residual.ensures.1 in
    let index = index_is c.args.grouping.now.items c.loop-k.cursor.items.now c.loop-k.cursor.passed c.loop-k.k c.next-index.result c.next-index.ensures.index c.loop-k.invariant.follow in
    let read = λ (none : Unit {0}) (j : ℕ). rule_at c.args.grouping.now.place c.args.entry c.args.own.now c.args.movie.now (index_at c.args.grouping.now.items j) in
    rw (p.1, p.2) (inr (broken_off read (λ none x. tt) c.loop-k.rules tt c.loop-k.k c.args.n c.in_err-rule.field-0.0 (rules_at c.args.grouping.now c.args.entry c.args.own.now c.args.movie.now c.args.n) c.loop-k-test.true (rw index at (sym c.in_err-rule.ensures)) c.loop-k.invariant.so_far))

pub loop-k-preserved : goal.loop-k-preserved
loop-k-preserved c =
    let index = index_is c.args.grouping.now.items c.loop-k.cursor.items.now c.loop-k.cursor.passed c.loop-k.k c.next-index.result c.next-index.ensures.index c.loop-k.invariant.follow in
    let read = λ (none : Unit {0}) (j : ℕ). rule_at c.args.grouping.now.place c.args.entry c.args.own.now c.args.movie.now (index_at c.args.grouping.now.items j) in
    record {
      so_far = rw c.in_ok-push.ensures.ok (one_more read (λ none x. tt) c.loop-k.rules tt c.loop-k.k c.args.n c.in_ok-rule.rule (rules_at c.args.grouping.now c.args.entry c.args.own.now c.args.movie.now c.args.n) c.loop-k-test.true (rw index at (sym c.in_ok-rule.ensures)) c.loop-k.invariant.so_far);
      follow = follows c.args.grouping.now.items c.next-index.new.self.items.now c.loop-k.cursor.items.now c.loop-k.cursor.passed c.next-index.new.self.passed c.loop-k.k c.next-index.ensures.moves c.loop-k.invariant.follow;
      low = let a = c.next-index.ensures.passed in let b = c.loop-k.invariant.low in omega arith;
    }

pub returns : goal.returns
returns c =
    let read = λ (none : Unit {0}) (j : ℕ). rule_at c.args.grouping.now.place c.args.entry c.args.own.now c.args.movie.now (index_at c.args.grouping.now.items j) in
    finished read (λ none x. tt) c.loop-k.rules tt c.loop-k.k c.args.n (rules_at c.args.grouping.now c.args.entry c.args.own.now c.args.movie.now c.args.n) c.loop-k-test.false c.loop-k.invariant.so_far
