use Rattle.std.proofs.Common.{◌≡◌, ◌+◌, ◌++◌, List, ℕ, ◌∙◌, ap}
use Rattle.std.specs.Prelude.{codes, OnOk}
use Rattle.seal_media.specs.Views.{HasParts}
use Rattle.std.specs.Int.{w32, to_be_bytes}
use Rattle.std.specs.List.{sum_by}
use Rattle.eme_types.specs.Fed.{part_bytes}
use Rattle.seal_media.proofs.SealedLemmas.{whole_fragment, on_ok}
use Rattle.seal_media.proofs.file.append_fragment.Goals as goal

pub returns-clause-fragment : goal.returns-clause-fragment
returns-clause-fragment c =
    let f = c.args.fragment.now in
    let old = c.args.out.now.items in
    let moof = c.in_ok-moof.moof in
    let size = c.to_be_bytes.result in
    let mid = c.extend_from_slice-3.new.self.items in
    let moof_is = rw c.as_slice-parts.ensures at c.in_ok-moof.ensures in
    let size_is : size ≡ to_be_bytes w32 (8 + sum_by part_bytes f.parts) = rw (c.bytes_of_parts.ensures, c.as_slice-parts.ensures) at c.to_be_bytes.ensures in
    let one : c.extend_from_slice.new.self.items ≡ old ++ moof = rw c.as_slice.ensures at c.in_ok-extend_from_slice.ensures.items in
    let two : c.extend_from_slice-2.new.self.items ≡ c.extend_from_slice.new.self.items ++ size = c.in_ok-extend_from_slice-2.ensures.items in
    let three : mid ≡ c.extend_from_slice-2.new.self.items ++ codes "mdat" = c.in_ok-extend_from_slice-3.ensures.items in
    let mid_is : mid ≡ ((old ++ moof) ++ size) ++ codes "mdat" = three ∙ ap (λ (xs : List ℕ). xs ++ codes "mdat") (two ∙ ap (λ (xs : List ℕ). xs ++ size) one) in
    let given : OnOk c.append_parts.result (HasParts c.args.plan.now c.args.number c.as_slice-parts.result.now mid c.append_parts.new.out.items) = c.append_parts.ensures.parts in
    let parts : OnOk c.append_parts.result (HasParts c.args.plan.now c.args.number f.parts mid c.append_parts.new.out.items) = rw c.as_slice-parts.ensures at given in
    on_ok c.append_parts.result (whole_fragment c.args.plan.now c.args.number f old moof size mid c.append_parts.new.out.items moof_is size_is mid_is) parts
