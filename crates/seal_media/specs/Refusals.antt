-- Why media are not sealed: the first of these rules that they break.
use Rattle.std.specs.Prelude.{ℕ, ◌+◌, ◌-◌, ◌^◌, ◌==◌, min, Bool, nat_lt, List, [], ◌∷◌, length, Option, Some, None, is_some, if◌then◌else◌}
use Rattle.std.specs.List.{list_any}
use Rattle.eme_types.specs.declared.sample.EncSample.{EncSample}
use Rattle.eme_types.specs.declared.media.TrackPart.{TrackPart}
use Rattle.eme_types.specs.declared.media.Fragment.{Fragment}
use Rattle.eme_types.specs.declared.media.Media.{Media}
use Rattle.eme_types.specs.declared.limits.TheConstants.{MAX_MEDIA_BYTES}
use Rattle.seal_media.specs.declared.fault.SealFault.{SealFault}
use Rattle.seal_media.specs.declared.fault.SealFault.TheVariants.{HasInit, Protected, TooLarge}
use Rattle.seal_media.specs.declared.plan.SealPlan.{SealPlan}
use Rattle.seal_media.specs.Lengths.{sealed_length}

abbrev pub is_protected : EncSample → Bool
is_protected s = is_some s.protect

-- the first fault, else that of what follows
abbrev pub or_next : Option SealFault → Option SealFault → Option SealFault
or_next None next = next
or_next (Some fault) next = Some fault

-- the first part with a protected sample
abbrev pub parts_refusal : ℕ → List TrackPart → Option SealFault
parts_refusal number [] = None
parts_refusal number (p ∷ ps) =
    if list_any is_protected p.samples then Some (Protected number p.track) else parts_refusal number ps

-- initialization data, and then a protected sample
abbrev pub fragment_refusal : ℕ → Fragment → Option SealFault
fragment_refusal number f = if length f.inits == 0 then parts_refusal number f.parts else Some (HasInit number)

-- fragments are numbered from 1; a number of 32 bits stands still at its end
abbrev pub fragment_number : ℕ → ℕ
fragment_number index = min (index + 1) (2 ^ 32 - 1)

-- each fragment in order, the first of which has this index
abbrev pub fragments_refusal : ℕ → List Fragment → Option SealFault
fragments_refusal index [] = None
fragments_refusal index (f ∷ fs) = or_next (fragment_refusal (fragment_number index) f) (fragments_refusal (index + 1) fs)

-- a media file has at most 67,108,864 bytes
abbrev pub length_refusal : SealPlan → Media → Option SealFault
length_refusal plan m = if nat_lt MAX_MEDIA_BYTES (sealed_length plan.scheme m) then Some TooLarge else None

-- the first broken rule; none where the media are sealed
unfoldable pub refusal : SealPlan → Media → Option SealFault
refusal plan m = or_next (fragments_refusal 0 m.fragments) (length_refusal plan m)
