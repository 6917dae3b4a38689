-- Subsamples are read one after the other.
use Rattle.std.proofs.Common.{◌≡◌, ℕ, List, [], ◌∷◌, ◌++◌, Option, Some, None, refl, append_assoc}
use Rattle.std.proofs.lemmas.List.{append-nil}
use Rattle.eme_types.specs.declared.sample.Sub.{Sub}
use Rattle.track_media.specs.Text.{all_subs, with_sub, sub_in}

abbrev pub joined_subs : List Sub → Option (List Sub) → Option (List Sub)
joined_subs done None = None
joined_subs done (Some more) = Some (done ++ more)

joined_on : (done : List Sub) (s : Sub) (more : Option (List Sub)) → joined_subs done (with_sub s more) ≡ joined_subs (done ++ s ∷ []) more
joined_on done s None = refl
joined_on done s (Some more) = simp append_assoc

-- nothing is done
pub none_done : (more : Option (List Sub)) → joined_subs [] more ≡ more
none_done None = refl
none_done (Some more) = refl

pub one_more : (done : List Sub) (text : List ℕ) (s : Sub) (more : List (List ℕ)) → sub_in text ≡ Some s → joined_subs done (all_subs (text ∷ more)) ≡ joined_subs (done ++ s ∷ []) (all_subs more)
unfolding all_subs
one_more done text s more e = rw e (joined_on done s (all_subs more))

pub no_more : (done : List Sub) (text : List ℕ) (more : List (List ℕ)) → sub_in text ≡ None → joined_subs done (all_subs (text ∷ more)) ≡ None
unfolding all_subs
no_more done text more e = rw e refl

pub all_done : (done : List Sub) → joined_subs done (all_subs []) ≡ Some done
unfolding all_subs
all_done done = simp append-nil
