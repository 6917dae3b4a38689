-- What a call for the next fragment says of what comes before it and after it.
use Rattle.std.specs.Prelude.{◌≡◌, ◌⊎◌, [], ◌∷◌, Option, Some, None, Result, Ok, Err}
use Rattle.eme_types.specs.declared.media.Fragment.{Fragment}
use Rattle.track_media.specs.declared.kind.MediaFault.{MediaFault}
use Rattle.track_media.specs.File.{WantsMemory}
use Rattle.track_media.specs.Front.{Coming, Front}

-- a fragment, and then the rest
abbrev pub ahead : Fragment → Coming → Coming
ahead f rest = record rest { fragments = f ∷ rest.fragments }

-- no fragment, and no broken rule
abbrev pub nothing_comes : Coming
nothing_comes = record { fragments = []; broken = None }

-- a rule is broken before another fragment is whole
abbrev pub refused_next : MediaFault → Coming
refused_next fault = record { fragments = []; broken = Some fault }

-- a fragment that is given was the next one; at the end, at a refusal and for want of memory all is as it was
abbrev pub Advances : Result (Option Fragment) MediaFault → Front → Front → Type 0
Advances (Ok (Some f)) old new = old ≡ record new { coming = ahead f new.coming }
Advances (Ok None) old new = (old.coming ≡ nothing_comes) × (new ≡ old)
Advances (Err e) old new = (WantsMemory e ⊎ (old.coming ≡ refused_next e)) × (new ≡ old)
