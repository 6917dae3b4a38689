-- Faults of lines.
use Rattle.std.specs.Prelude.{◌≡◌, ℕ, Option, Some}
use Rattle.script_lang.specs.declared.fault.ScriptKind.{ScriptKind}
use Rattle.script_lang.specs.declared.fault.ScriptFault.{ScriptFault}
use Rattle.script_lang.specs.declared.fault.ScriptFault.TheVariants.{Refused, OutOfMemory as NoMemory}
use Rattle.script_lang.specs.declared.fault.LineFault.{LineFault}
use Rattle.script_lang.specs.declared.fault.LineFault.TheVariants.{Broken, OutOfMemory}

-- the fault of a line at its number
abbrev pub fault_at : ℕ → LineFault → ScriptFault
fault_at line (Broken kind) = Refused line kind
fault_at line OutOfMemory = NoMemory

-- the first broken rule is this one, or memory was missing
abbrev pub Breaks : Option ScriptKind → LineFault → Type 0
Breaks fault (Broken kind) = fault ≡ Some kind
Breaks fault OutOfMemory = Unit {0}
