use Rattle.std.proofs.Common.{◌≡◌, ◌<◌, List, [], ◌∷◌, length, refl, drop, sym, subst, arith, rules}
use Rattle.std.proofs.lemmas.List.{length-drop}
use Rattle.eme_types.specs.declared.media.Fragment.{Fragment}
use Rattle.player_core.specs.Course.{HasFollowed}
use Rattle.player_core.proofs.Feeding.{may_feed}
use Rattle.player_core.proofs.Courses.{followed_first, followed_more}
use Rattle.player_core.proofs.alone.play_rest.Goals as goal

pub rest-init : goal.rest-init
rest-init c media gone = followed_first c.args.script.now media c.args.left.items c.args.cdm.now c.settle_all.new.cdm c.in_ok-settle_all.ensures gone

pub feed_next-requires : goal.feed_next-requires
feed_next-requires c = may_feed c.requires.0 c.rest.left.items c.rest.cdm (c.rest.invariant c.requires.0 c.requires.1).fed

pub rest-preserved : goal.rest-preserved
rest-preserved c media gone =
    let some : 0 < length c.rest.left.items = search rules in
    subst (λ (left : List Fragment). HasFollowed c.args.script.now media left c.settle_all-in-rest.new.cdm) (sym c.feed_next.ensures.left) (followed_more c.args.script.now media c.rest.left.items c.rest.cdm c.feed_next.new.cdm c.settle_all-in-rest.new.cdm some c.in_ok-feed_next.ensures.goes c.in_ok-settle_all-2.ensures (c.rest.invariant media gone))

pub rest-smaller : goal.rest-smaller
rest-smaller c =
    let some : 0 < length c.rest.left.items = search rules in
    let left : c.feed_next.new.left.items ≡ drop 1 c.rest.left.items = c.feed_next.ensures.left in
    rw left (omega (arith, some, length-drop 1 c.rest.left.items))

empty : (left : List Fragment) → length left ≡ 0 → left ≡ []
empty [] is = refl
empty (f ∷ left) is = absurd (omega (arith, is))

pub returns : goal.returns
returns c media gone =
    let none : length c.rest.left.items ≡ 0 = search rules in
    subst (λ (left : List Fragment). HasFollowed c.args.script.now media left c.rest.cdm) (empty c.rest.left.items none) (c.rest.invariant media gone)

pub settle_all-requires-in-rest-clause-delivered : goal.settle_all-requires-in-rest-clause-delivered
settle_all-requires-in-rest-clause-delivered c = c.in_ok-feed_next.ensures.goes.delivered (c.rest.invariant c.requires.0 c.requires.1).fed.delivered
