-- What follows the last line.
use Rattle.std.proofs.Common.{zero, suc, ◌≡◌, ℕ, ◌<◌, List, [], ◌∷◌, ◌++◌, Option, Some, length, map, drop, refl, ap, ◌∙◌, sym, subst, append_assoc, arith}
use Rattle.std.specs.Prelude.{slice_get}
use Rattle.std.specs.List.{AllByRecursion}
use Rattle.std.proofs.lemmas.List.Concat.{flat_map-append}
use Rattle.eme_types.specs.declared.media.Fragment.{Fragment}
use Rattle.eme_types.specs.declared.entry.Entry.{Entry}
use Rattle.eme_types.specs.declared.entry.Entry.TheVariants.{Feed, Settle}
use Rattle.output_order.specs.Lane.{asked, asked_in, feeds_in, fed_by}
use Rattle.output_order.specs.Complete.{feed_rest}
use Rattle.decrypt_workers.specs.Desks.{Placed}
use Rattle.shared_cdm.specs.Own.{entries}
use Rattle.play_parts.specs.Parts.{AreSteps, AreFed, IsOfLane0, HasFollowed}
use Rattle.play_parts.proofs.Reading.{all_append, entries_append, flat_both, feeds_asked}
use Rattle.play_parts.proofs.Steps.{ended_both, ended_one, step_asked}
use Rattle.play_parts.proofs.Feeding.{fed_on}
use Rattle.play_parts.proofs.Lines.{stepped_flat, stepped_kinds, stepped_ended}

-- steps, and then the settle behind the last line
pub followed_first : (left : List Fragment) (steps : Placed) (place : ℕ) → AreSteps steps → HasFollowed left left (steps ++ (place, Settle 0) ∷ [])
followed_first left steps place are = record {
  asked_ = ap (λ (xs : List Entry). xs ++ feed_rest left) (stepped_flat asked steps place (Settle 0) step_asked are);
  kinds = stepped_kinds steps place (Settle 0) are tt;
  ended = stepped_ended steps place (Settle 0) are (λ h. h);
}

followed_next : (first left : List Fragment) (f : Fragment) (news steps : Placed) (place behind : ℕ) → AreSteps steps → HasFollowed first (f ∷ left) news → HasFollowed first left ((news ++ (place, Feed 0 (Some f)) ∷ []) ++ (steps ++ (behind, Settle 0) ∷ []))
followed_next first left f news steps place behind are followed =
    let feed : Placed = (place, Feed 0 (Some f)) ∷ [] in
    let settle : Placed = steps ++ (behind, Settle 0) ∷ [] in
    let rest : List Entry = feed_rest left in
    let read : asked_in (entries ((news ++ feed) ++ settle)) ≡ (asked_in (entries news) ++ Feed 0 (Some f) ∷ []) ++ Settle 0 ∷ [] =
    flat_both asked (news ++ feed) settle ∙ (ap (λ (xs : List Entry). xs ++ asked_in (entries settle)) (flat_both asked news feed) ∙ ap (λ (xs : List Entry). (asked_in (entries news) ++ Feed 0 (Some f) ∷ []) ++ xs) (stepped_flat asked steps behind (Settle 0) step_asked are)) in
    record {
      asked_ = ap (λ (xs : List Entry). xs ++ rest) read ∙ (append_assoc (asked_in (entries news) ++ Feed 0 (Some f) ∷ []) (Settle 0 ∷ []) rest ∙ (append_assoc (asked_in (entries news)) (Feed 0 (Some f) ∷ []) (Settle 0 ∷ rest) ∙ followed.asked_));
      kinds = subst (AllByRecursion IsOfLane0) (sym (entries_append (news ++ feed) settle)) (all_append IsOfLane0 (entries (news ++ feed)) (entries settle) (subst (AllByRecursion IsOfLane0) (sym (entries_append news feed)) (all_append IsOfLane0 (entries news) (Feed 0 (Some f) ∷ []) followed.kinds (tt, tt))) (stepped_kinds steps behind (Settle 0) are tt));
      ended = ended_both (news ++ feed) settle (ended_both news feed followed.ended (ended_one place (Feed 0 (Some f)) (λ h. h))) (stepped_ended steps behind (Settle 0) are (λ h. h));
    }

-- one fragment more, steps, and its settle
pub followed_more : (first left : List Fragment) (news steps : Placed) (place behind : ℕ) → 0 < length left → AreSteps steps → HasFollowed first left news → HasFollowed first (drop 1 left) ((news ++ (place, Feed 0 (slice_get left 0)) ∷ []) ++ (steps ++ (behind, Settle 0) ∷ []))
followed_more first [] news steps place behind some are followed = absurd (omega (arith, some))
followed_more first (f ∷ left) news steps place behind some are followed = followed_next first left f news steps place behind are followed

feeds_rest : (left : List Fragment) → feeds_in (feed_rest left) ≡ map Some left
feeds_rest [] = refl
feeds_rest (f ∷ left) = ap (λ (xs : List (Option Fragment)). Some f ∷ xs) (feeds_rest left)

-- all that follows the last line feeds what was left there
feeds_all : (first left : List Fragment) (news : Placed) → HasFollowed first left news → feeds_in (entries news) ++ map Some left ≡ map Some first
feeds_all first left news followed =
    let es : List Entry = entries news in
    let read : feeds_in (asked_in es ++ feed_rest left) ≡ feeds_in es ++ map Some left = flat_map-append fed_by (asked_in es) (feed_rest left) ∙ (ap (λ (xs : List (Option Fragment)). xs ++ feeds_in (feed_rest left)) (feeds_asked es) ∙ ap (λ (xs : List (Option Fragment)). feeds_in es ++ xs) (feeds_rest left)) in
    sym read ∙ (ap feeds_in followed.asked_ ∙ feeds_rest first)

front_at : (gs : List (Option Fragment)) (first left : List Fragment) (k : ℕ) (given : Option Fragment) → gs ++ map Some left ≡ map Some first → slice_get gs k ≡ Some given → given ≡ slice_get first k
front_at [] first left k given is at = absurd cc
front_at (g ∷ gs) [] left k given is at = absurd cc
front_at (g ∷ gs) (x ∷ first) left zero given is at = cc (is, at)
front_at (g ∷ gs) (x ∷ first) left (suc k) given is at = front_at gs first left k given (cc is) at

front_rest : (gs : List (Option Fragment)) (first left : List Fragment) → gs ++ map Some left ≡ map Some first → drop (length gs) first ≡ left
front_rest [] [] [] is = refl
front_rest [] [] (y ∷ left) is = absurd cc
front_rest [] (x ∷ first) [] is = absurd cc
front_rest [] (x ∷ first) (y ∷ left) is =
    let same : x ≡ y = cc is in
    let rest : first ≡ left = front_rest [] first left (cc is) in cc
front_rest (g ∷ gs) [] left is = absurd cc
front_rest (g ∷ gs) (x ∷ first) left is = front_rest gs first left (cc is)

-- what was fed, lines and what follows them taken together
pub followed_fed : (fragments first left : List Fragment) (lines behind : Placed) → AreFed fragments first (entries lines) → HasFollowed first left behind → AreFed fragments left (entries (lines ++ behind))
followed_fed fragments first left lines behind fed followed =
    let gs : List (Option Fragment) = feeds_in (entries behind) in
    let all : gs ++ map Some left ≡ map Some first = feeds_all first left behind followed in
    subst (AreFed fragments left) (sym (entries_append lines behind)) (fed_on fragments first left (entries lines) (entries behind) (λ k given at. front_at gs first left k given all at) (front_rest gs first left all) fed)
