-- What a write to one file of a list does to all of them.
use Rattle.std.proofs.Common.{zero, suc, ◌≡◌, ◌≢◌, ℕ, ◌+◌, ◌<◌, List, [], ◌∷◌, ◌++◌, length, get_or, take, set, Some, None, Option, Bool, true, false, refl, ◌∙◌, ap, sym, arith, add-one}
use Rattle.std.specs.Prelude.{if◌then◌else◌}
use Rattle.std.specs.Str.{bytes_eq}
use Rattle.std.proofs.lemmas.List.{set-get_or}
use Rattle.std.proofs.lemmas.Slice.Eq.{bytes_eq-Decides}
use Rattle.eme_edge.specs.declared.files.Saved.{Saved}
use Rattle.eme_edge.specs.Files.{file_in, StandsAt}
use Rattle.eme_edge.specs.Shelf.{HoldsMore}

none_means : (b : Bool) (x : List ℕ) (o : Option (List ℕ)) → (if b then Some x else o) ≡ None → (b ≡ false) × (o ≡ None)
none_means true x o h = absurd cc
none_means false x o h = (refl, h)

same_name : (xs : List ℕ) → bytes_eq xs xs ≡ true
same_name xs = (bytes_eq-Decides xs xs).1 refl

-- the first i files do not have the name, and neither does the next
file_in-take_suc : (files : List Saved) (i : ℕ) (d : Saved) (name : List ℕ) → i < length files → file_in (take i files) name ≡ None → bytes_eq (get_or files i d).name name ≡ false → file_in (take (suc i) files) name ≡ None
file_in-take_suc [] i d name lt h e = refl
file_in-take_suc (x ∷ xs) zero d name lt h e = rw e refl
file_in-take_suc (x ∷ xs) (suc i) d name lt h e =
    let k = none_means (bytes_eq x.name name) x.bytes (file_in (take i xs) name) h in
    rw k.0 (file_in-take_suc xs i d name (omega arith) k.1 e)

pub file_in-take_more : (files : List Saved) (i : ℕ) (d : Saved) (name : List ℕ) → i < length files → file_in (take i files) name ≡ None → bytes_eq (get_or files i d).name name ≡ false → file_in (take (i + 1) files) name ≡ None
file_in-take_more files i d name lt h e = rw add-one (file_in-take_suc files i d name lt h e)

-- the file that stands there
pub file_in-found : (files : List Saved) (i : ℕ) (d : Saved) (name : List ℕ) → i < length files → file_in (take i files) name ≡ None → (get_or files i d).name ≡ name → file_in files name ≡ Some (get_or files i d).bytes
file_in-found [] i d name lt h e = absurd (omega arith)
file_in-found (x ∷ xs) zero d name lt h e = rw (e, same_name name) refl
file_in-found (x ∷ xs) (suc i) d name lt h e =
    let k = none_means (bytes_eq x.name name) x.bytes (file_in (take i xs) name) h in
    rw k.0 (file_in-found xs i d name (omega arith) k.1 e)

-- the file that stands there, after a write
pub file_in-set : (files : List Saved) (i : ℕ) (s : Saved) (name : List ℕ) → i < length files → file_in (take i files) name ≡ None → s.name ≡ name → file_in (set files i s) name ≡ Some s.bytes
file_in-set [] i s name lt h e = absurd (omega arith)
file_in-set (x ∷ xs) zero s name lt h e = rw (e, same_name name) refl
file_in-set (x ∷ xs) (suc i) s name lt h e =
    let k = none_means (bytes_eq x.name name) x.bytes (file_in (take i xs) name) h in
    rw k.0 (file_in-set xs i s name (omega arith) k.1 e)

differ : (a b : List ℕ) → a ≢ b → bytes_eq a b ≡ false
differ a b ne = elim (bytes_eq a b) as (λ v. bytes_eq a b ≡ v → v ≡ false) [ true ↦ λ e. absurd (ne ((bytes_eq-Decides a b).0 e)) | false ↦ λ e. refl ] refl

-- every other file
pub file_in_other-set : (files : List Saved) (i : ℕ) (s d : Saved) (name other : List ℕ) → (get_or files i d).name ≡ name → s.name ≡ name → other ≢ name → file_in (set files i s) other ≡ file_in files other
file_in_other-set [] i s d name other e f ne = refl
file_in_other-set (x ∷ xs) zero s d name other e f ne =
    let k : bytes_eq name other ≡ false = differ name other (λ q. ne (sym q)) in
    rw (f, e, k) refl
file_in_other-set (x ∷ xs) (suc i) s d name other e f ne = ap (λ o. if bytes_eq x.name other then Some x.bytes else o) (file_in_other-set xs i s d name other e f ne)

-- a new file at the end
pub file_in-push : (files : List Saved) (s : Saved) (name : List ℕ) → file_in files name ≡ None → s.name ≡ name → file_in (files ++ s ∷ []) name ≡ Some s.bytes
file_in-push [] s name h e = rw (e, same_name name) refl
file_in-push (x ∷ xs) s name h e =
    let k = none_means (bytes_eq x.name name) x.bytes (file_in xs name) h in
    rw k.0 (file_in-push xs s name k.1 e)

pub file_in_other-push : (files : List Saved) (s : Saved) (name other : List ℕ) → s.name ≡ name → other ≢ name → file_in (files ++ s ∷ []) other ≡ file_in files other
file_in_other-push [] s name other e ne = rw (e, differ name other (λ q. ne (sym q))) refl
file_in_other-push (x ∷ xs) s name other e ne = ap (λ o. if bytes_eq x.name other then Some x.bytes else o) (file_in_other-push xs s name other e ne)

-- a piece goes to the end of the file that stands there
pub adds : (files : List Saved) (i : ℕ) (s d : Saved) (name piece : List ℕ) → StandsAt files name i → s.name ≡ (get_or files i d).name → s.bytes ≡ (get_or files i d).bytes ++ piece → HoldsMore (file_in files name) piece (file_in (set files i s) name)
adds files i s d name piece at e f =
    rw (file_in-found files i d name at.within at.first (at.named d)) (file_in-set files i s name at.within at.first (e ∙ at.named d) ∙ ap Some f)

pub keeps_others : (files : List Saved) (i : ℕ) (s d : Saved) (name : List ℕ) → StandsAt files name i → s.name ≡ (get_or files i d).name → (other : List ℕ) → other ≢ name → file_in (set files i s) other ≡ file_in files other
keeps_others files i s d name at e other ne = file_in_other-set files i s d name other (at.named d) (e ∙ at.named d) ne

saved : List ℕ → List ℕ → Saved
saved name bytes = record { name = name; bytes = bytes }

-- the file that stands there is written as it was
pub keeps_all : (files : List Saved) (i : ℕ) (s d : Saved) → s.name ≡ (get_or files i d).name → s.bytes ≡ (get_or files i d).bytes → (other : List ℕ) → file_in (set files i s) other ≡ file_in files other
unfolding saved
keeps_all files i s d e f other =
    let same : s ≡ get_or files i d = ap (λ n. saved n s.bytes) e ∙ ap (λ b. saved (get_or files i d).name b) f in
    ap (λ (xs : List Saved). file_in xs other) (ap (λ (x : Saved). set files i x) same ∙ set-get_or files i d)
