use Rattle.std.proofs.Common.{◌≡◌, ◌+◌, ◌-◌, ◌∷◌, ◌≤◌, length, take, drop, sym, ap, ◌∙◌, arith}
use Rattle.std.specs.Prelude.{◌==◌}
use Rattle.std.proofs.lemmas.List.{take_all, length-drop}
use Rattle.text_words.specs.Pieces.{cut}
use Rattle.text_words.proofs.PieceLemmas.{one_piece, first_piece}
use Rattle.text_words.proofs.pieces.cut_at.Goals as goal

pub returns-in-None : goal.returns-in-None
returns-in-None c = one_piece (λ b. b == c.args.at) c.args.text.now (sym c.first_place.ensures ∙ c.in-None.is)

pub returns-in-Some : goal.returns-in-Some
returns-in-Some c =
    let text = c.args.text.now in
    let from = c.in-Some.end + 1 in
    let le : length (drop from text) ≤ length text - from = omega (arith, length-drop from text) in
    let all : take (length text - from) (drop from text) ≡ drop from text = take_all _ _ le in
    first_piece (λ b. b == c.args.at) text c.in-Some.end (sym c.first_place.ensures ∙ c.in-Some.is) ∙ ap (λ rest. take c.in-Some.end text ∷ cut c.args.at rest) (sym all)
