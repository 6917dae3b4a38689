use Rattle.std.proofs.Common.{◌≡◌, ◌++◌, map, rules}
use Rattle.std.proofs.lemmas.List.{map-append}
use Rattle.key_sessions.specs.LostPair.{pair_of}
use Rattle.key_sessions.proofs.LostKeys.{lost_turn}
use Rattle.key_sessions.proofs.losses.lost_in_time.Goals as goal

pub loop-i-preserved : goal.loop-i-preserved
loop-i-preserved c =
    let xs = c.loop-i.list.items in
    let ys = c.in_ok-more.more.items in
    let e : c.append.new.self.items ≡ xs ++ ys = search rules in
    rw (e, map-append pair_of xs ys) (lost_turn c.args.before c.args.after c.args.sessions.now c.loop-i.i c.index-sessions-i.result (map pair_of xs) (map pair_of ys) c.loop-i-test.true c.index-sessions-i.is c.loop-i.invariant c.in_ok-more.ensures)
