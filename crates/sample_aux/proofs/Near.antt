-- Places are never far from the file.
use Rattle.std.proofs.Common.{◌≡◌, ℕ, ◌+◌, ◌*◌, ◌^◌, ◌<◌, arith}
use Rattle.std.specs.Prelude.{ℤ, pos, ◌+ℤ◌, ◌≤ℤ◌}
use Rattle.std.proofs.lemmas.Int.{ints}
use Rattle.sample_aux.specs.Near.{IsNear, StaysNear, EndsNear}

-- what ends inside the file is near
pub behind_near : (size end : ℕ) (start at : ℤ) → end < 2 ^ 64 → (at +ℤ pos size) ≤ℤ pos end → StaysNear start at → StaysNear start (at +ℤ pos size)
behind_near size end start at fits inside h = λ b wide near.
    let l = (h b wide near).0 in
    (omega (arith, ints, l), omega (arith, ints, wide, fits, inside))

-- a run that begins near the base ends near it
pub run_near : (base at begin next : ℤ) → EndsNear base at → ((b : ℕ) → IsNear b base → IsNear (b + 2 ^ 32) at → IsNear (b + 2 ^ 32) begin) → StaysNear begin next → EndsNear base next
run_near base at begin next h g k = λ b wide near. k (b + 2 ^ 32) (omega (arith, wide)) (g b near (h b wide near))

-- each track fragment goes on where the one before it ended
pub traf_near : (k : ℕ) (at next : ℤ) → EndsNear at next → IsNear (2 ^ 64 + k * 2 ^ 32) at → IsNear (2 ^ 64 + (k + 1) * 2 ^ 32) next
traf_near k at next h near =
    let e : (2 ^ 64 + k * 2 ^ 32) + 2 ^ 32 ≡ 2 ^ 64 + (k + 1) * 2 ^ 32 = omega arith in
    rw e at (h (2 ^ 64 + k * 2 ^ 32) (omega arith) near)
