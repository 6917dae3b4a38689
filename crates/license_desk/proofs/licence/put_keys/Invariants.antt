use Rattle.std.proofs.Common.{◌≡◌, ◌++◌, take, All, string_bytes}
use Rattle.std.specs.List.{flat_map}
use Rattle.license_desk.specs.Licence.{further_key}
use Rattle.license_desk.specs.ReadBack.{IsReadBack}
use Rattle.license_desk.proofs.licence.put_keys.Given as goal

abbrev pub invariant-loop-row : goal.invariant-loop-row
invariant-loop-row l = record {
  text : string_bytes l.text ≡ string_bytes l.initial.text ++ flat_map further_key (take l.row-index l.row-items);
  reads : All IsReadBack (take l.row-index l.row-items);
}
