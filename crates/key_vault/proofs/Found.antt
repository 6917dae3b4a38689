-- The record of a label, and what a change in its place makes of the records.
use Rattle.std.proofs.Common.{zero, suc, ◌≡◌, ◌≢◌, ℕ, ◌+◌, ◌<◌, List, [], ◌∷◌, ◌++◌, length, get_or, take, drop, set, Some, None, Option, Bool, true, false, refl, ◌∙◌, ap, sym, arith, add-one}
use Rattle.std.specs.Prelude.{if◌then◌else◌, remove}
use Rattle.std.specs.Str.{bytes_eq}
use Rattle.std.proofs.lemmas.Slice.Eq.{bytes_eq-Decides}
use Rattle.key_vault.specs.declared.stored.VaultRecord.{VaultRecord}
use Rattle.key_vault.specs.Records.{label_of, record_of, StandsAt, released, with_released, without}

none_means : (b : Bool) (x : VaultRecord) (o : Option VaultRecord) → (if b then Some x else o) ≡ None → (b ≡ false) × (o ≡ None)
none_means true x o h = absurd cc
none_means false x o h = (refl, h)

same_label : (xs : List ℕ) → bytes_eq xs xs ≡ true
same_label xs = (bytes_eq-Decides xs xs).1 refl

-- the first i records do not have the label, and neither does the next
none-take_suc : (records : List VaultRecord) (i : ℕ) (d : VaultRecord) (label : List ℕ) → i < length records → record_of label (take i records) ≡ None → bytes_eq (label_of (get_or records i d)) label ≡ false → record_of label (take (suc i) records) ≡ None
none-take_suc [] i d label lt h e = refl
none-take_suc (x ∷ xs) zero d label lt h e = rw e refl
none-take_suc (x ∷ xs) (suc i) d label lt h e =
    let k = none_means (bytes_eq (label_of x) label) x (record_of label (take i xs)) h in
    rw k.0 (none-take_suc xs i d label (omega arith) k.1 e)

pub none-take_more : (records : List VaultRecord) (i : ℕ) (d : VaultRecord) (label : List ℕ) → i < length records → record_of label (take i records) ≡ None → bytes_eq (label_of (get_or records i d)) label ≡ false → record_of label (take (i + 1) records) ≡ None
none-take_more records i d label lt h e = rw add-one (none-take_suc records i d label lt h e)

found : (records : List VaultRecord) (i : ℕ) (d : VaultRecord) (label : List ℕ) → i < length records → record_of label (take i records) ≡ None → label_of (get_or records i d) ≡ label → record_of label records ≡ Some (get_or records i d)
found [] i d label lt h e = absurd (omega arith)
found (x ∷ xs) zero d label lt h e = rw (e, same_label label) refl
found (x ∷ xs) (suc i) d label lt h e =
    let k = none_means (bytes_eq (label_of x) label) x (record_of label (take i xs)) h in
    rw k.0 (found xs i d label (omega arith) k.1 e)

-- the record of a label stands there
pub record_at : (records : List VaultRecord) (i : ℕ) (d : VaultRecord) (label : List ℕ) → StandsAt records label i → record_of label records ≡ Some (get_or records i d)
record_at records i d label at = found records i d label at.within at.first (at.named d)

set_at_label : (records : List VaultRecord) (i : ℕ) (d : VaultRecord) (label : List ℕ) → i < length records → record_of label (take i records) ≡ None → label_of (get_or records i d) ≡ label → with_released label records ≡ set records i (released (get_or records i d))
set_at_label [] i d label lt h e = absurd (omega arith)
set_at_label (x ∷ xs) zero d label lt h e = rw (e, same_label label) refl
set_at_label (x ∷ xs) (suc i) d label lt h e =
    let k = none_means (bytes_eq (label_of x) label) x (record_of label (take i xs)) h in
    rw k.0 (ap (λ (l : List VaultRecord). x ∷ l) (set_at_label xs i d label (omega arith) k.1 e))

-- letting it go changes it in its place
pub released_at : (records : List VaultRecord) (i : ℕ) (d : VaultRecord) (label : List ℕ) → StandsAt records label i → with_released label records ≡ set records i (released (get_or records i d))
released_at records i d label at = set_at_label records i d label at.within at.first (at.named d)

gone_at_label : (records : List VaultRecord) (i : ℕ) (d : VaultRecord) (label : List ℕ) → i < length records → record_of label (take i records) ≡ None → label_of (get_or records i d) ≡ label → without label records ≡ take i records ++ drop (suc i) records
gone_at_label [] i d label lt h e = absurd (omega arith)
gone_at_label (x ∷ xs) zero d label lt h e = rw (e, same_label label) refl
gone_at_label (x ∷ xs) (suc i) d label lt h e =
    let k = none_means (bytes_eq (label_of x) label) x (record_of label (take i xs)) h in
    rw k.0 (ap (λ (l : List VaultRecord). x ∷ l) (gone_at_label xs i d label (omega arith) k.1 e))

pub gone_at : (records : List VaultRecord) (i : ℕ) (d : VaultRecord) (label : List ℕ) → StandsAt records label i → without label records ≡ remove records i
gone_at records i d label at = gone_at_label records i d label at.within at.first (at.named d)

pub unreleased : (records : List VaultRecord) (label : List ℕ) → record_of label records ≡ None → with_released label records ≡ records
unreleased [] label h = refl
unreleased (x ∷ xs) label h =
    let k = none_means (bytes_eq (label_of x) label) x (record_of label xs) h in
    rw k.0 (ap (λ (l : List VaultRecord). x ∷ l) (unreleased xs label k.1))

pub none_gone : (records : List VaultRecord) (label : List ℕ) → record_of label records ≡ None → without label records ≡ records
none_gone [] label h = refl
none_gone (x ∷ xs) label h =
    let k = none_means (bytes_eq (label_of x) label) x (record_of label xs) h in
    rw k.0 (ap (λ (l : List VaultRecord). x ∷ l) (none_gone xs label k.1))
