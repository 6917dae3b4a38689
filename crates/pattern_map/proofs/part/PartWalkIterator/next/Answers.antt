use Rattle.std.proofs.Common.{arith, sym, ◌∙◌}
use Rattle.pattern_map.proofs.WalkLemmas.{no_runs, runs_next, progress}
use Rattle.pattern_map.proofs.part.PartWalkIterator.next.Goals as goal

pub returns-then-self-eq0-clause-steps : goal.returns-then-self-eq0-clause-steps
returns-then-self-eq0-clause-steps c =
    let w = c.self.inside in
    let none = sym c.self.view_is ∙ rw c.if-self-eq0.true (no_runs 0 w.run w.gap w.at w.fresh) in
    (none, none)

pub returns-clause-steps : goal.returns-clause-steps
returns-clause-steps c =
    let w = c.self.inside in
    rw (c.min.ensures, c.min-size.ensures) (sym c.self.view_is ∙ runs_next w.run w.gap w.at w.left w.fresh (omega arith) (omega arith))

pub returns-clause-goes : goal.returns-clause-goes
returns-clause-goes c =
    let w = c.self.inside in
    progress _ _ _ (rw (c.min.ensures, c.min-size.ensures) (sym c.self.view_is ∙ runs_next w.run w.gap w.at w.left w.fresh (omega arith) (omega arith)))
