use Rattle.std.proofs.Common.{◌<◌, length, rules}
use Rattle.team_play.proofs.Runs.{follows_first, follows_more, may_follow}
use Rattle.team_play.proofs.lead.follow.Goals as goal

pub rest-init : goal.rest-init
rest-init g c = follows_first c.args.shared.now c.args.left.items c.args.pass _ c.settle_all-next.ensures.kept (rw c.in_default.is at c.settle_all-next.ensures.settles)

pub feed_next-next-requires-clause-may : goal.feed_next-next-requires-clause-may
feed_next-next-requires-clause-may g c = may_follow c.args.shared.now c.requires.media.0 c.args.left.items c.rest.left.items c.args.pass c.rest.pass c.requires.media.1 c.requires.media.2 c.requires.media.3 c.rest.invariant

pub rest-preserved : goal.rest-preserved
rest-preserved g c =
    let some : 0 < length c.rest.left.items = search rules in
    follows_more c.args.shared.now c.args.left.items c.rest.left.items _ c.args.pass c.rest.pass c.feed_next-next.result.0 _ some c.rest.invariant c.feed_next-next.ensures.kept (rw c.in_default-fed.is at c.feed_next-next.ensures.adds) c.settle_all-next-in-rest.ensures.kept (rw c.in-Ok.is at c.settle_all-next-in-rest.ensures.settles) c.feed_next-next.ensures.left
