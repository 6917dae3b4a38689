use Rattle.std.proofs.Common.{◌≤◌, length, ap, sym, ◌∙◌, inr, rules}
use Rattle.eme_types.specs.declared.limits.TheConstants.{MAX_MEDIA_BYTES}
use Rattle.std.proofs.lemmas.Bool.{ltb-false}
use Rattle.seal_media.specs.Lengths.{sealed_length}
use Rattle.seal_media.proofs.LengthLemmas.{HasSixteen}
use Rattle.seal_media.proofs.BackWhole.{file_length, file_is_read}
use Rattle.seal_media.proofs.RefusalLemmas.{by_fragment, by_length, by_none}
use Rattle.seal_media.proofs.file.seal.Goals as goal

pub returns-in-Some-clause-fault : goal.returns-in-Some-clause-fault
returns-in-Some-clause-fault c = inr (by_fragment c.args.plan.now c.args.media.now c.in-Some.fault (sym (rw c.as_slice.ensures at c.fragments_refusal.ensures) ∙ c.in-Some.is))

pub returns-in_default-length_of-clause-fault : goal.returns-in_default-length_of-clause-fault
returns-in_default-length_of-clause-fault c =
    inr (by_length c.args.plan.now c.args.media.now (sym (rw c.as_slice.ensures at c.fragments_refusal.ensures) ∙ c.in_default.is) (sym c.in_default-length_of.ensures.none))

pub returns-clause-allowed : goal.returns-clause-allowed
returns-clause-allowed c =
    by_none c.args.plan.now c.args.media.now (sym (rw c.as_slice.ensures at c.fragments_refusal.ensures) ∙ c.in_default.is) (sym c.in-Some-length_of.ensures.none)

pub returns-clause-length : goal.returns-clause-length
returns-clause-length c =
    let has : HasSixteen c.args.plan.now = record { kid = search rules; iv = search rules } in
    let is = c.in_ok-file_of.ensures in
    ap length is.file ∙ file_length c.args.plan.now c.args.media.now is.sealed has c.have_widths.ensures.lead c.requires is.media

pub returns-clause-read : goal.returns-clause-read
returns-clause-read c =
    let plan = c.args.plan.now in
    let media = c.args.media.now in
    let has : HasSixteen plan = record { kid = search rules; iv = search rules } in
    let ids = rw c.as_slice-2.ensures at c.have_widths.ensures.ids in
    let small : sealed_length plan.scheme media ≤ MAX_MEDIA_BYTES = ltb-false _ _ (sym c.in-Some-length_of.ensures.none) in
    file_is_read plan media c.in_ok-file_of.field-0 has c.have_widths.ensures.lead c.requires ids small c.in_ok-file_of.ensures
