-- Where the bytes of subsamples stand.
use Rattle.std.proofs.Common.{◌≡◌, ℕ, ◌+◌, ◌-◌, ◌*◌, ◌<◌, List, [], ◌∷◌, refl, sym, ◌∙◌, arith, inl, inr, suc, subst, ◌≤◌}
use Rattle.std.specs.Prelude.{Some, None}
use Rattle.std.proofs.lemmas.Bool.{cases_lt, lt-ltb, le-ltb}
use Rattle.eme_types.specs.declared.sample.Sub.{Sub}
use Rattle.pattern_map.specs.ByteClasses.{Spot, spot_from, part_block, part_size}

-- a byte of the clear part
pub spot_clear : (s : ℕ) (p : Sub) (more : List Sub) (i : ℕ) → i < p.clear → spot_from s (p ∷ more) i ≡ None
spot_clear s p more i lt = rw (lt-ltb i p.clear lt) refl

-- byte j of the protected part
pub spot_part : (s : ℕ) (p : Sub) (more : List Sub) (j : ℕ) → j < p.prot
    → spot_from s (p ∷ more) (p.clear + j) ≡ Some (record { subsample = s; place = j; size = p.prot })
spot_part s p more j lt =
    let past = le-ltb (p.clear + j) p.clear (omega arith) in
    let in_part = lt-ltb (p.clear + j) (p.clear + p.prot) (omega arith) in
    let place : p.clear + j - p.clear ≡ j = omega arith in
    rw (past, in_part, place) refl

-- a byte of the subsamples behind
pub spot_behind : (s : ℕ) (p : Sub) (more : List Sub) (y : ℕ)
    → spot_from s (p ∷ more) (p.clear + p.prot + y) ≡ spot_from (s + 1) more y
spot_behind s p more y =
    let past = le-ltb (p.clear + p.prot + y) p.clear (omega arith) in
    let behind = le-ltb (p.clear + p.prot + y) (p.clear + p.prot) (omega arith) in
    let place : p.clear + p.prot + y - (p.clear + p.prot) ≡ y = omega arith in
    rw (past, behind, place) refl

-- byte i has this spot in the subsamples from number t on
pub record Stands (t : ℕ) (subs : List Sub) (i : ℕ) (x : Spot) : Type 0 where
  pub number : ℕ
  pub is_number : x.subsample ≡ t + number
  pub size : x.size ≡ part_size subs number
  pub place : (q o : ℕ) → x.place ≡ 16 * q + o → i ≡ part_block subs number q + o
  pub inside : x.place < x.size

stands_behind : (t : ℕ) (p : Sub) (more : List Sub) (i : ℕ) (x : Spot) → p.clear + p.prot ≤ i → Stands (t + 1) more (i - (p.clear + p.prot)) x → Stands t (p ∷ more) i x
stands_behind t p more i x behind st = record {
  number = suc st.number;
  is_number = let e = st.is_number in omega arith;
  size = st.size;
  place = λ q o at. let e = st.place q o at in omega arith;
  inside = st.inside;
}

stands_here : (t : ℕ) (p : Sub) (more : List Sub) (j : ℕ) → j < p.prot → Stands t (p ∷ more) (p.clear + j) (record { subsample = t; place = j; size = p.prot })
stands_here t p more j lt = record {
  number = 0;
  is_number = omega arith;
  size = refl;
  place = λ q o at. omega arith;
  inside = lt;
}

pub spot_stands : (t : ℕ) (subs : List Sub) (i : ℕ) (x : Spot) → spot_from t subs i ≡ Some x → Stands t subs i x
spot_stands t [] i x e = let wrong : ⊥ = cc in absurd wrong
spot_stands t (p ∷ more) i x e = elim (cases_lt i p.clear) [
  | inl lt ↦ let none = sym (spot_clear t p more i lt) ∙ e in let wrong : ⊥ = cc in absurd wrong
  | inr past ↦ elim (cases_lt i (p.clear + p.prot)) [
    | inl lt ↦
        let there : p.clear + (i - p.clear) ≡ i = omega arith in
        let here = rw there at (sym (spot_part t p more (i - p.clear) (omega arith))) ∙ e in
        let same : record { subsample = t; place = i - p.clear; size = p.prot } ≡ x = cc in
        subst (λ y. Stands t (p ∷ more) i y) same (rw there at (stands_here t p more (i - p.clear) (omega arith)))
    | inr behind ↦
        let there : p.clear + p.prot + (i - (p.clear + p.prot)) ≡ i = omega arith in
        let next = rw there at (sym (spot_behind t p more (i - (p.clear + p.prot)))) ∙ e in
        stands_behind t p more i x behind (spot_stands (t + 1) more (i - (p.clear + p.prot)) x next)
  ]
]
