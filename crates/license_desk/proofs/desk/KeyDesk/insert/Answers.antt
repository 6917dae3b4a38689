use Rattle.std.proofs.Common.{[], ◌∷◌, ◌++◌, sym, ap, ◌∙◌}
use Rattle.std.specs.Prelude.{bytes_eq}
use Rattle.indexmap.proofs.CallerLemmas.{insert_entry-new}
use Rattle.license_desk.proofs.RowLemmas.{rows_pushed, is_absent}
use Rattle.license_desk.proofs.desk.KeyDesk.insert.Goals as goal

pub invariant_of-self-2 : goal.invariant_of-self-2
invariant_of-self-2 c =
    let absent = is_absent c.self.inside.rows.entries c.args.kid (sym c.contains_key.ensures ∙ c.if-contains_key.false) in
    let entries = c.in_ok-insert.ensures.entries ∙ insert_entry-new bytes_eq c.self.inside.rows c.args.kid c.args.terms absent in
    record { distinct = c.in_ok-insert.ensures.unique; moments = rows_pushed c.self.inside.rows.entries c.args.kid c.args.terms _ entries c.self.invariant.moments c.requires }

pub returns-clause-rows : goal.returns-clause-rows
returns-clause-rows c =
    let absent = is_absent c.self.inside.rows.entries c.args.kid (sym c.contains_key.ensures ∙ c.if-contains_key.false) in
    c.in_ok-insert.ensures.entries ∙ insert_entry-new bytes_eq c.self.inside.rows c.args.kid c.args.terms absent ∙ ap (λ rows. rows ++ (c.args.kid, c.args.terms) ∷ []) c.self.view_is
