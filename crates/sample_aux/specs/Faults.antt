-- The refusals of a movie's protection and of a movie fragment.
use Rattle.std.specs.Prelude.{◌≡◌, ℕ, Result, Ok, Err}
use Rattle.eme_types.specs.FirstFault as first
use Rattle.prot_boxes.specs.declared.fault.ProtKind.{ProtKind}
use Rattle.prot_boxes.specs.declared.fault.ProtKind.TheVariants as prot
use Rattle.prot_boxes.specs.declared.fault.ProtFault.{ProtFault}
use Rattle.pattern_map.specs.declared.check.SampleFault.{SampleFault}
use Rattle.pattern_map.specs.declared.check.SampleFault.TheVariants as sample
use Rattle.sample_aux.specs.declared.fault.AuxKind.{AuxKind}
use Rattle.sample_aux.specs.declared.fault.AuxKind.TheVariants as aux
use Rattle.sample_aux.specs.declared.fault.AuxFault.{AuxFault}

-- a broken rule at a place
abbrev pub fault_at : ℕ → AuxKind → AuxFault
fault_at place kind = record { place = place; kind = kind }

-- a rule of a protection box has one name in both
abbrev pub aux_kind : ProtKind → AuxKind
aux_kind prot.Short = aux.Short
aux_kind prot.SizeTooSmall = aux.SizeTooSmall
aux_kind prot.PastEnd = aux.PastEnd
aux_kind prot.Version = aux.Version
aux_kind prot.IsProtected = aux.IsProtected
aux_kind prot.IvSize = aux.IvSize
aux_kind prot.Pattern = aux.Pattern
aux_kind prot.Scheme = aux.Scheme
aux_kind prot.NoTenc = aux.NoTenc
aux_kind prot.CountDiffers = aux.CountDiffers
aux_kind prot.OutOfMemory = aux.OutOfMemory

-- a broken rule of a protection box, at its place
abbrev pub aux_fault : ProtFault → AuxFault
aux_fault f = fault_at f.place (aux_kind f.kind)

-- what a protection box says, with its refusal as one of the file
abbrev pub told : {A : Type 0} → Result A ProtFault → Result A AuxFault
told (Ok x) = Ok x
told (Err f) = Err (aux_fault f)

-- the part of 'well formed' that a sample does not meet
abbrev pub sample_kind : SampleFault → AuxKind
sample_kind sample.Sum = aux.SubsSum
sample_kind sample.IvSize = aux.IvSize
sample_kind sample.Pattern = aux.Pattern

-- memory ran out
abbrev pub WantsMemory : AuxFault → Type 0
WantsMemory e = e.kind ≡ aux.OutOfMemory

-- what a function returned, seen by view, is what the definition gives, unless memory ran out
abbrev pub Gives : {X Y : Type 0} → (X → Y) → Result X AuxFault → Result Y AuxFault → Type 0
Gives view answer read = first.Gives WantsMemory view answer read
