-- The rules, where the record of a label is known.
use Rattle.std.proofs.Common.{◌≡◌, ℕ, ◌<◌, List, length, get_or, Some, None, Option, Bool, true, false, refl, ◌∙◌, ap, sym, subst, arith}
use Rattle.std.specs.Prelude.{Result, Ok, Err, is_ok, is_some, is_none, IsOk, IfOk, MatchOption, MatchResult}
use Rattle.eme_types.specs.FirstFault.{◌>>=◌, demanded}
use Rattle.clearkey_json.specs.KeySet.{key_set}
use Rattle.key_vault.specs.declared.stored.VaultRecord.{VaultRecord}
use Rattle.key_vault.specs.declared.stored.VaultRecord.TheVariants.{Held, Releasing}
use Rattle.key_vault.specs.declared.command.Command.TheVariants.{Store}
use Rattle.key_vault.specs.declared.fault.VaultFault.{VaultFault}
use Rattle.key_vault.specs.declared.fault.VaultFault.TheVariants.{Label, Licence, Exists, Unknown, NotHeld, Full}
use Rattle.key_vault.specs.Label.{is_label}
use Rattle.key_vault.specs.Records.{label_of, record_of, StandsAt, kids_in, released}
use Rattle.key_vault.specs.Rules.{held, loaded, allowed, Obeys}
use Rattle.key_vault.proofs.Found.{record_at}

pub loaded_at : (records : List VaultRecord) (label : List ℕ) (i : ℕ) (r : VaultRecord) → is_label label ≡ true → StandsAt records label i → r ≡ get_or records i r → loaded records label ≡ held (Some r)
loaded_at records label i r known at is =
    let there : record_of label records ≡ Some r = record_at records i r label at ∙ ap Some (sym is) in
    rw (known, there) refl

module _ {T : Type 0} (now : T → List ℕ) (rules : Result (List ℕ) VaultFault) where
  pub match_ok : (o : Result (List ℕ) VaultFault) → rules ≡ o → (r : Result T VaultFault) → MatchResult r (λ l. o ≡ Ok (now l)) (λ e. o ≡ Err e) → IfOk r (λ l. rules ≡ Ok (now l))
  match_ok o same (Ok l) m = same ∙ m
  match_ok o same (Err e) m = tt

  ok_follows : (licence : List ℕ) → rules ≡ Ok licence → IsOk rules
  ok_follows licence is = rw is refl

  pub match_follows : (stored : VaultRecord) → rules ≡ held (Some stored) → (r : Result T VaultFault) → MatchResult r (λ l. held (Some stored) ≡ Ok (now l)) (λ e. held (Some stored) ≡ Err e) → Obeys rules r
  match_follows (Held label licence) same (Ok l) m = ok_follows licence same
  match_follows (Held label licence) same (Err e) m = absurd cc
  match_follows (Releasing label kids) same (Ok l) m = absurd cc
  match_follows (Releasing label kids) same (Err e) m =
      let is : NotHeld ≡ e = cc in
      subst (λ (f : VaultFault). Obeys {T = T} rules (Err f)) is same

pub demanded_means : (fault : VaultFault) (b : Bool) → IsOk (demanded fault b) → b ≡ true
demanded_means fault true ok = refl
demanded_means fault false ok = absurd cc

pub some_means : (o : Option ℕ) (P : Type 0) (Q : ℕ → Type 0) → is_some o ≡ true → MatchOption o P Q → (i : ℕ) × Q i
some_means None P Q is m = absurd cc
some_means (Some i) P Q is m = (i, m)

pub exists_at : (records : List VaultRecord) (label licence : List ℕ) (gate i : ℕ) (d : VaultRecord) → is_label label ≡ true → is_ok (key_set licence) ≡ true → StandsAt records label i
    → allowed (Store label licence) records gate ≡ Err Exists
exists_at records label licence gate i d known read at =
    let there = record_at records i d label at in
    rw (known, read, there) refl

go : (b : Bool) (r entry : VaultRecord) (label : List ℕ) → is_ok (demanded Label b >>= (λ named. held (Some r))) ≡ true
    → IfOk (demanded Label b >>= (λ named. held (Some r))) (λ licence. entry ≡ Releasing label (kids_in licence)) → label_of r ≡ label → released r ≡ entry
go false r entry label ok is named = absurd cc
go true (Held l licence) entry label ok is named = ap (λ (x : List ℕ). Releasing x (kids_in licence)) named ∙ sym is
go true (Releasing l kids) entry label ok is named = absurd cc

pub released_is : (records : List VaultRecord) (label : List ℕ) (i : ℕ) (d entry : VaultRecord) → StandsAt records label i → is_ok (loaded records label) ≡ true
    → IfOk (loaded records label) (λ licence. entry ≡ Releasing label (kids_in licence)) → released (get_or records i d) ≡ entry
released_is records label i d entry at ok is =
    let there = record_at records i d label at in
    go (is_label label) (get_or records i d) entry label
    (subst (λ (o : Option VaultRecord). is_ok (demanded Label (is_label label) >>= (λ named. held o)) ≡ true) there ok)
    (subst (λ (o : Option VaultRecord). IfOk (demanded Label (is_label label) >>= (λ named. held o)) (λ licence. entry ≡ Releasing label (kids_in licence))) there is)
    (at.named d)
