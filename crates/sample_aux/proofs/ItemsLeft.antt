-- What auxiliary data says of samples is taken item by item.
use Rattle.std.proofs.Common.{◌≡◌, ℕ, ◌+◌, List, drop, sym, ap, ◌∙◌, arith}
use Rattle.std.proofs.lemmas.List.{get_or-drop, drop-drop}
use Rattle.std.proofs.lemmas.Option.{unwrap_or-slice_get}
use Rattle.prot_boxes.specs.declared.senc.SencItem.{SencItem}
use Rattle.sample_aux.specs.Auxiliary.{nothing}
use Rattle.sample_aux.specs.Resolve.{item_of}

-- the first of those that are left is that of sample k
pub item_here : (items left : List SencItem) (k : ℕ) (x : SencItem) → x ≡ item_of left 0 → left ≡ drop k items → x ≡ item_of items k
item_here items left k x e rest =
    let n : k + 0 ≡ k = omega arith in
    e ∙ ap (λ (xs : List SencItem). item_of xs 0) rest ∙ unwrap_or-slice_get (drop k items) 0 nothing ∙ (rw n at (get_or-drop k items 0 nothing)) ∙ sym (unwrap_or-slice_get items k nothing)

pub rest_here : (items left new : List SencItem) (k : ℕ) → new ≡ drop 1 left → left ≡ drop k items → new ≡ drop (k + 1) items
rest_here items left new k e rest = e ∙ ap (λ (xs : List SencItem). drop 1 xs) rest ∙ drop-drop 1 k items
