-- What a reader of a sinf has gathered, one box after the other. Contracts of private functions speak of it.
use Rattle.iso_boxes.specs.Children.{first_or}
use Rattle.prot_boxes.specs.declared.sinf.SinfPart.{SinfPart}
use Rattle.prot_boxes.specs.declared.sinf.SinfPart.TheVariants as part
use Rattle.prot_boxes.specs.declared.sinf.SinfParts.{SinfParts}

-- a part is added
abbrev pub added : SinfParts → SinfPart → SinfParts
added s (part.Scheme x) = record s { schm = first_or s.schm x }
added s (part.Info x) = record s { schi = first_or s.schi x }
added s part.Other = s
