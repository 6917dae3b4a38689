-- Indices of samples, item by item.
use Rattle.std.proofs.Common.{◌≡◌, ℕ, ◌-◌, ◌+◌, ◌<◌, ◌≤◌, true, false, ltb, List, [], ◌∷◌, length, get_or, take, drop, refl, sym, ◌∙◌, arith}
use Rattle.std.proofs.lemmas.Bool.{le-ltb, lt-ltb}
use Rattle.std.proofs.lemmas.List.{take_all}
use Rattle.prot_boxes.specs.declared.sbgp.SbgpItem.{SbgpItem}
use Rattle.sample_aux.specs.Groups.{index_at}

pub here : (i : SbgpItem) (is : List SbgpItem) (k : ℕ) → k < i.count → index_at (i ∷ is) k ≡ i.index
unfolding index_at
here i is k lt = let e : ltb k i.count ≡ true = lt-ltb _ _ lt in rw e refl

pub past : (i : SbgpItem) (is : List SbgpItem) (k : ℕ) → i.count ≤ k → index_at (i ∷ is) k ≡ index_at is (k - i.count)
unfolding index_at
past i is k le = let e : ltb k i.count ≡ false = le-ltb _ _ le in rw e refl

pub none_left : (k : ℕ) → index_at [] k ≡ 0
unfolding index_at
none_left k = refl

-- the same indices follow
pub record Same (items : List SbgpItem) (passed : ℕ) (old : List SbgpItem) (before : ℕ) : Type 0 where
  pub follow : (m : ℕ) → index_at items (passed + m) ≡ index_at old (before + m)
  pub low : passed ≤ before

pub Same-past : (i : SbgpItem) (is : List SbgpItem) (passed : ℕ) (old : List SbgpItem) (before : ℕ) → i.count ≤ passed → Same (i ∷ is) passed old before → Same is (passed - i.count) old before
Same-past i is passed old before le h = record {
  follow = λ m.
      let k : (passed - i.count) + m ≡ (passed + m) - i.count = omega arith in
      rw k (sym (past i is (passed + m) (omega arith)) ∙ h.follow m);
  low = let l = h.low in omega arith;
}

pub Same-now : (items : List SbgpItem) (passed : ℕ) (old : List SbgpItem) (before : ℕ) → Same items passed old before → index_at items passed ≡ index_at old before
Same-now items passed old before h = let f = h.follow 0 in let a : passed + 0 ≡ passed = omega arith in let b : before + 0 ≡ before = omega arith in rw (a, b) at f

pub Same-end : (passed : ℕ) (old : List SbgpItem) (before : ℕ) → Same [] passed old before → (m : ℕ) → index_at [] (passed + m) ≡ index_at old (before + (m + 1))
Same-end passed old before h m = none_left _ ∙ sym (none_left _) ∙ h.follow (m + 1)

-- a slice that is not empty is its first item and the rest
pub cut : (s : List SbgpItem) (d : SbgpItem) → 1 ≤ length s → s ≡ get_or s 0 d ∷ take (length s - 1) (drop 1 s)
cut [] d h = absurd (omega arith)
cut (x ∷ xs) d h =
    let n : length (x ∷ xs) - 1 ≡ length xs = omega arith in
    rw (n, take_all (length xs) xs (omega arith)) refl

pub empty : (s : List SbgpItem) → length s < 1 → s ≡ []
empty [] h = refl
empty (x ∷ xs) h = absurd (omega arith)
