-- The member kids.
use Rattle.std.proofs.Common.{◌≡◌, ℕ, List, length, map, true, Some, refl}
use Rattle.std.specs.Prelude.{nat_le, codes}
use Rattle.serde_json.specs.Data.{Data}
use Rattle.serde_json.specs.Find.{get, as_array}
use Rattle.serde_json.specs.View.{view, items_view}
use Rattle.serde_json.specs.declared.value.Value.{Value}
use Rattle.eme_types.specs.FirstFault.{read_each}
use Rattle.eme_types.specs.declared.limits.TheConstants.{MAX_INIT_DATA_BYTES}
use Rattle.clearkey_json.specs.Json.{json_of}
use Rattle.clearkey_json.proofs.KeySetLemmas.{list_of-items_view}
use Rattle.init_data.specs.InitData.{kid_in, keyids_of}

pub keyids_of-is : (bytes : List ℕ) (d m : Data) (vs : List Value) → nat_le (length bytes) MAX_INIT_DATA_BYTES ≡ true → Some d ≡ json_of bytes → Some m ≡ get (codes "kids") d
    → Some (items_view vs) ≡ as_array m → keyids_of bytes ≡ read_each kid_in (map view vs)
unfolding keyids_of
keyids_of-is bytes d m vs short json member listed = rw (short, ← json, ← member, ← listed, list_of-items_view vs) refl
