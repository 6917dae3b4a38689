use Rattle.std.proofs.Common.{◌≡◌, ◌+◌, ◌++◌, List, ℕ, [], ◌∷◌, take, arith, ◌∙◌, ap, sym, refl}
use Rattle.std.proofs.lemmas.List.{take_more, flat_map_more}
use Rattle.std.proofs.lemmas.List.Sums.{sum_by_push}
use Rattle.eme_types.specs.declared.media.Fragment.{Fragment}
use Rattle.eme_types.specs.Fed.{fragment_samples}
use Rattle.seal_media.specs.Sealed.{init_of, IsSealedFragment}
use Rattle.seal_media.specs.Layout.{fragment_boxes}
use Rattle.seal_media.proofs.SealedLemmas.{next_given, one_fragment_more}
use Rattle.seal_media.proofs.file.append_fragments.Goals as goal

pub loop-fragment-preserved : goal.loop-fragment-preserved
loop-fragment-preserved c =
    let l = c.loop-fragment in
    let done = l.invariant.done in
    let one = c.in_ok-number.ensures.fragment in
    let fragments = c.args.fragments.now in
    let clear = c.fragment-item.result in
    let before = take l.fragment-index fragments in
    let boxes = fragment_boxes c.args.plan.now.scheme in
    let given = init_of c.args.plan.now ∷ [] in
    let more : take (l.fragment-index + 1) fragments ≡ before ++ clear ∷ [] = take_more fragments l.fragment-index clear c.loop-fragment-test.true ∙ ap (λ (x : Fragment). before ++ x ∷ []) (sym c.fragment-item.is) in
    let sealed : Fragment = record { inits = next_given given before; parts = one.sealed } in
    let is : IsSealedFragment c.args.plan.now l.number (next_given given before) clear sealed = record { inits = refl; parts = one.are } in
    record {
      number = rw more (omega (arith, l.invariant.number, c.in_ok-number.ensures.next, sum_by_push fragment_samples before clear));
      done = record {
        sealed = done.sealed ++ sealed ∷ [];
        are = rw more (one_fragment_more c.args.plan.now 0 l.number given before done.sealed clear sealed done.are (omega (arith, l.invariant.number)) is);
        behind = one.behind ∙ ap (λ (xs : List ℕ). xs ++ boxes sealed) done.behind ∙ flat_map_more boxes c.args.out.now.items done.sealed sealed;
      };
    }
