use Rattle.std.proofs.Common.{◌≡◌, true, Bor, List, ℕ, Some}
use Rattle.key_vault.specs.Label.{is_label}
use Rattle.key_vault.specs.Rules.{loaded, held}
use Rattle.key_vault.proofs.Broken.{loaded_at, match_ok, match_follows}
use Rattle.key_vault.proofs.records.loaded.Goals as goal

pub returns-in-Some-clause-ok : goal.returns-in-Some-clause-ok
returns-in-Some-clause-ok c =
    let r = c.index-records-i.result in
    let known : is_label c.args.label.now ≡ true = cc in
    match_ok (λ (b : Bor (List ℕ)). b.now) (loaded c.args.records.now c.args.label.now) (held (Some r)) (loaded_at c.args.records.now c.args.label.now c.in-Some.i r known c.in-Some.ensures c.index-records-i.is)
    c.licence_of.result c.licence_of.ensures

pub returns-in-Some-clause-follows : goal.returns-in-Some-clause-follows
returns-in-Some-clause-follows c =
    let r = c.index-records-i.result in
    let known : is_label c.args.label.now ≡ true = cc in
    match_follows (λ (b : Bor (List ℕ)). b.now) (loaded c.args.records.now c.args.label.now) r (loaded_at c.args.records.now c.args.label.now c.in-Some.i r known c.in-Some.ensures c.index-records-i.is)
    c.licence_of.result c.licence_of.ensures
