-- The first broken rule of media.
use Rattle.std.proofs.Common.{◌≡◌, true, false, refl}
use Rattle.std.specs.Prelude.{nat_lt, Some, None}
use Rattle.eme_types.specs.declared.media.Media.{Media}
use Rattle.eme_types.specs.declared.limits.TheConstants.{MAX_MEDIA_BYTES}
use Rattle.seal_media.specs.declared.fault.SealFault.{SealFault}
use Rattle.seal_media.specs.declared.fault.SealFault.TheVariants.{TooLarge}
use Rattle.seal_media.specs.declared.plan.SealPlan.{SealPlan}
use Rattle.seal_media.specs.Lengths.{sealed_length}
use Rattle.seal_media.specs.Refusals.{fragments_refusal, refusal}

pub by_fragment : (plan : SealPlan) (m : Media) (fault : SealFault) → fragments_refusal 0 m.fragments ≡ Some fault → refusal plan m ≡ Some fault
unfolding refusal
by_fragment plan m fault e = rw e refl

pub by_length : (plan : SealPlan) (m : Media) → fragments_refusal 0 m.fragments ≡ None → nat_lt MAX_MEDIA_BYTES (sealed_length plan.scheme m) ≡ true → refusal plan m ≡ Some TooLarge
unfolding refusal
by_length plan m e large = rw (e, large) refl

pub by_none : (plan : SealPlan) (m : Media) → fragments_refusal 0 m.fragments ≡ None → nat_lt MAX_MEDIA_BYTES (sealed_length plan.scheme m) ≡ false → refusal plan m ≡ None
unfolding refusal
by_none plan m e fits = rw (e, fits) refl
