use Rattle.std.proofs.Common.{◌≡◌, length, rules}
use Rattle.key_claims.proofs.Holds.{put_last, put_over}
use Rattle.key_claims.proofs.slots.put_key.Goals as goal

pub returns-in_ok-push-in-None-clause-ok : goal.returns-in_ok-push-in-None-clause-ok
returns-in_ok-push-in-None-clause-ok c =
    let len : c.len-count.result ≡ length c.args.generations.now.items = search rules in
    put_last c.args.generations.now.items c.push.new.self.items c.args.slots.now c.args.key c.len-count.result len c.in-None.ensures c.in_ok-push-in-None.ensures.items

pub returns-in-Some-clause-ok : goal.returns-in-Some-clause-ok
returns-in-Some-clause-ok c =
    let len : c.len-count.result ≡ length c.args.generations.now.items = search rules in
    put_over c.args.generations.now.items c.args.slots.now c.args.key c.len-count.result c.in-Some.place len c.in-Some.ensures
