use Rattle.std.proofs.Common.{◌≡◌, slice_set, Some, rules}
use Rattle.key_statuses.specs.declared.table.KnownKey.{KnownKey}
use Rattle.key_statuses.specs.Table.{grant_in}
use Rattle.key_statuses.proofs.Once.{granted_once}
use Rattle.key_statuses.proofs.table.KeyTable.grant.Goals as goal

pub invariant_of-self : goal.invariant_of-self
invariant_of-self c =
    let known : KnownKey = record { kid = c.index_mut-found.result.now.kid; key = Some c.args.key } in
    let is : grant_in c.self.inside.known.items c.bytes.result.now c.args.key ≡ slice_set c.self.inside.known.items c.in-Some.at known = search rules in
    rw (← is) (granted_once c.self.inside.known.items c.bytes.result.now c.args.key c.self.invariant)

pub invariant_of-self-in-None : goal.invariant_of-self-in-None
invariant_of-self-in-None c =
    let is : c.push.new.self.items ≡ grant_in c.self.inside.known.items c.bytes.result.now c.args.key = search rules in
    rw is (granted_once c.self.inside.known.items c.bytes.result.now c.args.key c.self.invariant)
