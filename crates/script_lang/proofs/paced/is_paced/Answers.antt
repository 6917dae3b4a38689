use Rattle.std.proofs.Common.{◌≡◌, ◌+◌, true, false, List, ◌∷◌, drop, refl, ap, ◌∙◌, sym}
use Rattle.std.proofs.lemmas.List.{at_drop_more, at_drop_all}
use Rattle.script_lang.specs.declared.script.Line.{Line}
use Rattle.script_lang.specs.Paced.{settles}
use Rattle.script_lang.proofs.Pacing.{paced_from, pass_tells, not_behind}
use Rattle.script_lang.proofs.paced.is_paced.Goals as goal

pub returns-then-not-settling : goal.returns-then-not-settling
returns-then-not-settling c =
    let items : List Line = c.as_slice-line-items.result.now in
    let line : Line = c.line-item.result in
    let i = c.loop-line.line-index in
    let here : paced_from c.loop-line.settled (drop i items) ≡ paced_from c.loop-line.settled (line ∷ drop (i + 1) items) =
    at_drop_more (paced_from c.loop-line.settled) items i line c.loop-line-test.true ∙ ap (λ (l : Line). paced_from c.loop-line.settled (l ∷ drop (i + 1) items)) (sym c.line-item.is) in
    let other : settles line.action ≡ false = sym c.settles-settling.ensures ∙ c.if-not-settling.true in
    let is : paced_from true items ≡ false = c.loop-line.invariant ∙ (here ∙ not_behind c.loop-line.settled line (drop (i + 1) items) c.if-not-settled.true other) in
    let found : paced_from true c.args.script.now ≡ false = ap (paced_from true) (sym c.as_slice-line-items.ensures.value) ∙ is in
    (λ never. absurd cc, λ paced. sym found ∙ (pass_tells c.args.script.now).1 paced)

pub returns : goal.returns
returns c =
    let items : List Line = c.as_slice-line-items.result.now in
    let i = c.loop-line.line-index in
    let is : paced_from true items ≡ true = c.loop-line.invariant ∙ at_drop_all (paced_from c.loop-line.settled) items i c.loop-line-test.false in
    let found : paced_from true c.args.script.now ≡ true = ap (paced_from true) (sym c.as_slice-line-items.ensures.value) ∙ is in
    (λ yes. (pass_tells c.args.script.now).0 found, λ paced. refl)
