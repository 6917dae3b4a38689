use Rattle.std.proofs.Common.{◌≡◌, ◌≤◌, ◌++◌, ◌∷◌, [], ℕ, List, ◌∙◌, sym, subst, arith}
use Rattle.std.specs.Prelude.{IsTrue}
use Rattle.std.proofs.lemmas.Result.{err_from_is_err_and}
use Rattle.eme_edge.specs.Shelf.{SaidPart}
use Rattle.vault_tool.proofs.Fronts.{of_the_first, of_the_second}
use Rattle.vault_tool.proofs.say.say_line.Goals as goal

pub returns-in_err-say-clause-part : goal.returns-in_err-say-clause-part
returns-in_err-say-clause-part g c =
    let old = g.S.Shelf.state c.args.shelf.now in
    let new = g.S.Shelf.state c.say.new.self in
    let p = err_from_is_err_and c.from_residual.result c.from_residual.ensures.1 in
    rw p.1 (record {
      files = c.say.ensures.files;
      said = λ told. of_the_first old.said c.args.text.now (10 ∷ []) new.said (c.in_err-say.ensures.part told);
      tells = c.say.ensures.tells;
      later = omega (arith, c.say.ensures.cause.reads);
      writes_later = c.say.ensures.cause.later;
    })

pub returns-in_err-say-2-clause-part : goal.returns-in_err-say-2-clause-part
returns-in_err-say-2-clause-part g c =
    let old = g.S.Shelf.state c.args.shelf.now in
    let mid = g.S.Shelf.state c.say.new.self in
    let new = g.S.Shelf.state c.say-2.new.self in
    let p = err_from_is_err_and c.from_residual-in_err-say-2.result c.from_residual-in_err-say-2.ensures.1 in
    rw p.1 (record {
      files = λ name. c.say-2.ensures.files name ∙ c.say.ensures.files name;
      said = λ told.
          of_the_second old.said c.args.text.now (10 ∷ []) mid.said new.said (c.in_ok-say.ensures.said told)
          (c.in_err-say-2.ensures.part (subst IsTrue (sym c.say.ensures.tells.said) told));
      tells = record {
        files = c.say-2.ensures.tells.files ∙ c.say.ensures.tells.files;
        said = c.say-2.ensures.tells.said ∙ c.say.ensures.tells.said;
      };
      later = omega (arith, c.say.ensures.cause.reads, c.say-2.ensures.cause.reads);
      writes_later = omega (arith, c.say.ensures.cause.later, c.say-2.ensures.cause.later);
    })
