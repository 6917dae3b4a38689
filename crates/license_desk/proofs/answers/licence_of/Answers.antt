use Rattle.std.proofs.Common.{◌≡◌, ◌<◌, ◌≤◌, length, true, ap, sym, subst, ◌∙◌, rules}
use Rattle.std.specs.Str.{is_utf8}
use Rattle.std.proofs.lemmas.Str.{is_utf8-from_IsUtf8}
use Rattle.eme_types.specs.declared.limits.TheConstants.{MAX_KEY_SET_BYTES}
use Rattle.license_desk.specs.Licence.{licence_text, IsLicenceFor}
use Rattle.license_desk.proofs.LicenceLemmas.{is_licence}
use Rattle.license_desk.proofs.answers.licence_of.Goals as goal

pub returns-clause-licence : goal.returns-clause-licence
returns-clause-licence c =
    let rows = c.args.rows.now in
    let text = c.as_str.ensures.value ∙ c.in_ok-text.ensures.text in
    let utf8 : is_utf8 (licence_text rows) ≡ true = sym (ap is_utf8 text) ∙ is_utf8-from_IsUtf8 c.as_str.result.now c.as_str.utf8 in
    let short : length (licence_text rows) ≤ MAX_KEY_SET_BYTES = subst (λ s. length s ≤ MAX_KEY_SET_BYTES) text c.if-as_str-gt-MAX_KEY_SET_BYTES.false in
    let some : 0 < length rows = search rules in
    let is = c.from_vec.ensures ∙ ap (λ v. v.items) c.into_bytes.ensures.value ∙ c.in_ok-text.ensures.text in
    subst (IsLicenceFor rows) (sym is) (is_licence rows some c.in_ok-text.ensures.reads c.requires utf8 short)
