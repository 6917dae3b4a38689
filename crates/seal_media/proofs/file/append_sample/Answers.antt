use Rattle.std.proofs.Common.{◌≡◌, ◌++◌, length, refl, ap, ◌∙◌, rules}
use Rattle.std.specs.Prelude.{Some}
use Rattle.seal_media.specs.Sealed.{sealed_protect}
use Rattle.seal_media.proofs.SealedLemmas.{written, was_there}
use Rattle.seal_media.proofs.file.append_sample.Goals as goal

pub returns : goal.returns
returns c =
    let old = c.args.out.now.items in
    let was = c.args.sample.now.bytes in
    let items = c.extend_from_slice.new.self.items in
    let xs = c.as_mut_slice.result.now in
    let ys = c.seal_bytes.new.bytes in
    let start = c.len-start.result in
    let filled : items ≡ old ++ was = rw c.as_slice.ensures at c.in_ok-extend_from_slice.ensures.items in
    let at : start ≡ length old = search rules in
    let all : c.extend_from_slice.new.self.len ≡ length items = search rules in
    let there = was_there start items xs old was c.as_mut_slice.ensures.value filled at in
    let size : length ys ≡ length was = c.seal_bytes.ensures.size ∙ ap length there in
    record {
      sealed = record { protect = Some (sealed_protect c.args.plan.now c.args.number (length was)); bytes = ys };
      is = record { protect = refl; size = size; opens = rw there at c.seal_bytes.ensures.opens };
      behind = written c.extend_from_slice.new.self.len start items xs old was ys c.as_mut_slice.ensures.value filled at all size;
    }
