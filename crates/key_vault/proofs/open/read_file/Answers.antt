use Rattle.std.proofs.Common.{◌≡◌, ◌+◌, ◌-◌, ◌++◌, min, ℕ, List, Bool, length, take, drop, refl, sym, ◌∙◌, ap, subst, arith}
use Rattle.std.specs.Prelude.{IsTrue}
use Rattle.std.proofs.lemmas.List.{take_at, take_min}
use Rattle.vault_disk.specs.Disk.{DiskState}
use Rattle.key_vault.proofs.open.read_file.Goals as goal

-- the bytes that were read are the front of the buffer
front_read : (buf rest seen items : List ℕ) (len count : ℕ) → length buf ≡ len → items ≡ take count (take len (buf ++ rest)) → take count buf ≡ take count (drop 0 seen) → count ≡ min 16777216 (length seen) → items ≡ take 16777216 seen
front_read buf rest seen items len count long is front counts =
    is
    ∙ ap (λ (l : List ℕ). take count l) (take_at buf rest len long)
    ∙ front
    ∙ ap (λ (n : ℕ). take n seen) counts
    ∙ take_min 16777216 seen

pub returns-clause-bytes : goal.returns-clause-bytes
returns-clause-bytes g c = λ told.
    let state = g.D.VaultDisk.state c.args.disk.now in
    let buf = c.read.new.buf in
    let tells : (g.D.VaultDisk.state c.size.new.self).tells ≡ state.tells =
    ap (λ (s : DiskState). s.tells) c.size.ensures.others ∙ c.sync.ensures.tells ∙ ap (λ (s : DiskState). s.tells) c.ready.ensures.others in
    let seen : (g.D.VaultDisk.state c.size.new.self).seen ≡ state.seen =
    ap (λ (s : DiskState). s.seen) c.size.ensures.others ∙ c.sync.ensures.seen ∙ ap (λ (s : DiskState). s.seen) c.ready.ensures.others in
    let told_then = subst (λ (b : Bool). IsTrue b) (sym tells) told in
    let told_size = subst (λ (b : Bool). IsTrue b) (sym (c.sync.ensures.tells ∙ ap (λ (s : DiskState). s.tells) c.ready.ensures.others)) told in
    let size : c.in_ok-size.size ≡ length (g.D.VaultDisk.state c.sync.new.self).seen = c.in_ok-size.ensures.length told_size in
    let seen_then : (g.D.VaultDisk.state c.sync.new.self).seen ≡ state.seen = c.sync.ensures.seen ∙ ap (λ (s : DiskState). s.seen) c.ready.ensures.others in
    let sized : c.in_ok-size.size ≡ length state.seen = size ∙ ap (λ (l : List ℕ). length l) seen_then in
    let at = c.in_ok-count.ensures.bytes told_then in
    let front : take c.in_ok-count.count buf ≡ take c.in_ok-count.count (drop 0 state.seen) = at.front ∙ ap (λ (l : List ℕ). take c.in_ok-count.count (drop 0 l)) seen in
    let long : length buf ≡ c.in_ok-bytes.bytes.len = omega (arith, c.read.auto.buf, c.deref_mut.ensures.len) in
    let counts : c.in_ok-count.count ≡ min 16777216 (length state.seen) = omega (arith, at.count, long, sized, c.min.ensures, c.in_ok-bytes.ensures.len, ap length seen) in
    front_read buf _ state.seen c.truncate.new.self.items c.in_ok-bytes.bytes.len c.in_ok-count.count long c.truncate.ensures.items front counts
