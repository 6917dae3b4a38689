-- Lists in JSON.
use Rattle.std.proofs.Common.{◌≡◌, ℕ, List, ◌≢◌, Result, Ok, Err, Some, map, IfOk, IfErr, inl, inr, refl}
use Rattle.serde_json.specs.Data.{Data}
use Rattle.serde_json.specs.Find.{as_array}
use Rattle.serde_json.specs.View.{view, items_view}
use Rattle.serde_json.specs.declared.value.Value.{Value}
use Rattle.clearkey_json.specs.Json.{json_of}
use Rattle.eme_types.specs.FirstFault.{read_each, Gives}
use Rattle.clearkey_json.proofs.KeySetLemmas.{list_of-items_view}
use Rattle.key_system_access.specs.declared.configs.ConfigFault.{ConfigFault}
use Rattle.key_system_access.specs.Configs.{list_in, config_of, configs_of}

pub list_in-is : {A : Type 0} (reader : Data → Result A ConfigFault) (d : Data) (vs : List Value) → Some (items_view vs) ≡ as_array d → list_in reader d ≡ read_each reader (map view vs)
list_in-is reader d vs listed = rw (← listed, list_of-items_view vs) refl

pub configs_of-is : (bytes : List ℕ) (d : Data) (vs : List Value) → Some d ≡ json_of bytes → Some (items_view vs) ≡ as_array d → configs_of bytes ≡ read_each config_of (map view vs)
unfolding configs_of
configs_of-is bytes d vs json listed = rw (← json, ← listed, list_of-items_view vs) refl

-- the two halves of what a reader gives

pub gives_ok : {Y E : Type 0} (memory : E) (result read : Result Y E) → Gives (λ e. e ≡ memory) (λ y. y) result read → IfOk result (λ y. read ≡ Ok y)
gives_ok memory (Ok y) read gives = gives
gives_ok memory (Err e) read gives = tt

pub gives_err : {Y E : Type 0} (memory : E) (result read : Result Y E) → Gives (λ e. e ≡ memory) (λ y. y) result read → IfErr result (λ e. e ≢ memory → read ≡ Err e)
gives_err memory (Ok y) read gives = tt
gives_err memory (Err e) read (inl wants) = λ other. absurd (other wants)
gives_err memory (Err e) read (inr is) = λ other. is
