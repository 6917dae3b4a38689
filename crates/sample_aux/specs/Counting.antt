-- The count of a full box that begins with one (ISO/IEC 14496-12 section 4.2).
use Rattle.std.specs.Prelude.{ℕ}
use Rattle.std.specs.Int.{w8, w32}
use Rattle.iso_boxes.specs.Reading.{Reading, ◌>>=◌, number, number24}
use Rattle.prot_boxes.specs.declared.fault.ProtKind.{ProtKind}
use Rattle.prot_boxes.specs.declared.fault.ProtKind.TheVariants.{Short}

-- behind version and flags
unfoldable pub count_fields : Reading ProtKind ℕ
count_fields = do
  version ← number Short w8
  flags ← number24 Short
  number Short w32
