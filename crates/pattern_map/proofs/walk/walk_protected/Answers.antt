use Rattle.std.proofs.Common.{◌∙◌, sym}
use Rattle.pattern_map.proofs.CoverLemmas.{walked_subs}
use Rattle.pattern_map.proofs.walk.walk_protected.Goals as goal

pub returns : goal.returns
returns c =
    let p = c.args.protect.now in
    let subs = c.as_slice-subs.ensures in
    let some = rw c.as_slice-subs.ensures at (sym c.is_empty.ensures ∙ c.if-is_empty.false) in
    c.walk_from-2.ensures ∙ rw subs (walked_subs p.scheme p.crypt p.skip c.args.size p.subs some)
