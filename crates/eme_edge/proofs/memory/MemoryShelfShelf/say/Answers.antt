use Rattle.std.proofs.Common.{◌≡◌, ◌++◌, ◌/◌, length, take, rules}
use Rattle.eme_edge.proofs.memory.MemoryShelfShelf.say.Goals as goal

pub returns-then-fails-clause-part : goal.returns-then-fails-clause-part
returns-then-fails-clause-part c =
    let said : c.extend_from_slice.new.self ≡ c.args.self.now.said ++ take (length c.args.bytes.now / 2) c.args.bytes.now = search rules in
    (length c.args.bytes.now / 2, said)
