-- The objects of a key set.
use Rattle.std.proofs.Common.{◌≡◌, ◌<◌, List, [], ◌∷◌, length, map, Bool, Some, None, cond, refl, ap, arith, codes}
use Rattle.std.specs.List.{list_all}
use Rattle.std.proofs.lemmas.List.Folds.{list_all-map}
use Rattle.serde_json.specs.Data.{Data}
use Rattle.serde_json.specs.Find.{get, as_array}
use Rattle.serde_json.specs.View.{view, items_of, items_view}
use Rattle.serde_json.specs.declared.value.Value.{Value}
use Rattle.eme_types.specs.FirstFault.{read_each}
use Rattle.clearkey_json.specs.Json.{list_of}
use Rattle.clearkey_json.specs.KeySet.{is_web_key, web_keys, pair_of, pairs_of}

list_of-items_of : (ds : List Data) → list_of (items_of ds) ≡ ds
list_of-items_of [] = refl
list_of-items_of (d ∷ ds) = ap (λ es. d ∷ es) (list_of-items_of ds)

pub list_of-items_view : (vs : List Value) → list_of (items_view vs) ≡ map view vs
list_of-items_view vs = list_of-items_of (map view vs)

pub web_keys-is : (set d : Data) (vs : List Value) (all : Bool) → Some d ≡ get (codes "keys") set → Some (items_view vs) ≡ as_array d → all ≡ list_all (λ v. is_web_key (view v)) vs
    → cond all (Some (map view vs)) None ≡ web_keys set
unfolding web_keys
web_keys-is set d vs all keys listed passes = rw (← keys, ← listed, list_of-items_view vs, list_all-map is_web_key view vs, ← passes) refl

pub pairs_of-some : (vs : List Value) → 0 < length vs → pairs_of (map view vs) ≡ read_each pair_of (map view vs)
pairs_of-some [] some = absurd (omega arith)
pairs_of-some (v ∷ vs) some = refl
