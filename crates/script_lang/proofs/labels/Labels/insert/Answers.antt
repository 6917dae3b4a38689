use Rattle.std.proofs.Common.{ℕ, Vec, Global, ap, map, ◌∙◌}
use Rattle.std.specs.Prelude.{not, bytes_eq}
use Rattle.std.specs.List.{list_any}
use Rattle.script_lang.proofs.LabelLemmas.{any_seen}
use Rattle.script_lang.proofs.labels.Labels.insert.Goals as goal

pub returns-clause-added : goal.returns-clause-added
returns-clause-added c =
    let view = λ (v : Vec ℕ Global). v.items in
    let keys = c.self.inside.labels.keys in
    let label = c.in_ok-label.label in
    c.in_ok-insert.ensures.added
    ∙ ap not (any_seen view (bytes_eq label.items) keys
    ∙ ap (λ text. list_any (bytes_eq text) (map view keys)) c.in_ok-label.ensures.items
    ∙ ap (list_any (bytes_eq c.args.label.now)) c.self.view_is)
