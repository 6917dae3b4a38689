use Rattle.std.proofs.Common.{◌≡◌, [], ◌∷◌, take}
use Rattle.std.specs.List.{sum_by}
use Rattle.eme_types.specs.Fed.{fragment_samples}
use Rattle.seal_media.specs.Sealed.{init_of}
use Rattle.seal_media.specs.Views.{HasFragments}
use Rattle.seal_media.proofs.file.append_fragments.Given as goal

abbrev pub invariant-loop-fragment : goal.invariant-loop-fragment
invariant-loop-fragment l = record {
  number : l.number ≡ sum_by fragment_samples (take l.fragment-index l.fragments);
  done : HasFragments l.plan 0 (init_of l.plan ∷ []) (take l.fragment-index l.fragments) l.initial.out.items l.out.items;
}
