use Rattle.std.proofs.Common.{◌≡◌, ◌<◌, ◌≤◌, ◌+◌, ◌-◌, ◌∷◌, length, take, drop, sym, ap, ◌∙◌, arith, rules}
use Rattle.std.proofs.lemmas.List.{take_all, length-drop}
use Rattle.text_words.specs.Lines.{lines_of}
use Rattle.text_words.proofs.LineLemmas.{first_whole, first_up_to}
use Rattle.text_words.proofs.lines.next_line.Goals as goal

pub returns-in-None-clause-lines : goal.returns-in-None-clause-lines
returns-in-None-clause-lines c =
    let some : 0 < length c.args.text.now = search rules in
    first_whole c.args.text.now some (sym c.line_end.ensures ∙ c.in-None.is)

pub returns-in-Some-clause-lines : goal.returns-in-Some-clause-lines
returns-in-Some-clause-lines c =
    let text = c.args.text.now in
    let from = c.in-Some.end + 1 in
    let le : length (drop from text) ≤ length text - from = omega (arith, length-drop from text) in
    let all : take (length text - from) (drop from text) ≡ drop from text = take_all _ _ le in
    first_up_to text c.in-Some.end (sym c.line_end.ensures ∙ c.in-Some.is) ∙ ap (λ rest. take c.in-Some.end text ∷ lines_of rest) (sym all)
