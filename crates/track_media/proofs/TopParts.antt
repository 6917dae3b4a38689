-- The parts of an MP4 file, one more at the end.
use Rattle.std.proofs.Common.{◌≡◌, ℕ, ◌+◌, ◌-◌, true, List, [], ◌∷◌, ◌++◌, Bool, Some, None, refl, sym, ap, ◌∙◌, arith}
use Rattle.std.specs.List.{list_all, sum_by}
use Rattle.std.proofs.lemmas.List.Sums.{sum_by-cons}
use Rattle.eme_types.specs.declared.media.InitData.{InitData}
use Rattle.eme_types.specs.declared.media.Fragment.{Fragment}
use Rattle.track_media.specs.declared.top.KnownMovie.{KnownMovie}
use Rattle.track_media.specs.declared.top.TopPart.{TopPart}
use Rattle.track_media.specs.declared.top.TopPart.TheVariants as part
use Rattle.track_media.specs.Mp4.{movie_in, fragments_in, with_first}
use Rattle.track_media.proofs.Sound.{sum_end}

-- a part behind fragments
abbrev pub more_fragments : List Fragment → TopPart → List Fragment
more_fragments fs (part.Fragment f) = fs ++ f ∷ []
more_fragments fs _ = fs

more_behind : (f : Fragment) (fs : List Fragment) (p : TopPart) → f ∷ more_fragments fs p ≡ more_fragments (f ∷ fs) p
more_behind f fs (part.Movie m) = refl
more_behind f fs (part.Fragment g) = refl
more_behind f fs part.Other = refl

pub fragments_end : (before : List TopPart) (p : TopPart) → fragments_in (before ++ p ∷ []) ≡ more_fragments (fragments_in before) p
fragments_end [] (part.Movie m) = refl
fragments_end [] (part.Fragment f) = refl
fragments_end [] part.Other = refl
fragments_end (part.Movie m ∷ ps) p = fragments_end ps p
fragments_end (part.Fragment f ∷ ps) p = ap (λ (fs : List Fragment). f ∷ fs) (fragments_end ps p) ∙ more_behind f (fragments_in ps) p
fragments_end (part.Other ∷ ps) p = fragments_end ps p

pub movie_gained : (before : List TopPart) (m : KnownMovie) → movie_in before ≡ None → movie_in (before ++ part.Movie m ∷ []) ≡ Some m
movie_gained [] m e = refl
movie_gained (part.Movie n ∷ ps) m e = absurd cc
movie_gained (part.Fragment f ∷ ps) m e = movie_gained ps m e
movie_gained (part.Other ∷ ps) m e = movie_gained ps m e

pub less : (most : ℕ) (n : Fragment → ℕ) (fs : List Fragment) (f : Fragment) → (most - sum_by n fs) - n f ≡ most - sum_by n (fs ++ f ∷ [])
less most n fs f = omega (arith, sum_end n fs f)

-- initialization data changes no part
pub same_tests : (p : Fragment → Bool) → ((f : Fragment) (is : List InitData) → p (record f { inits = is }) ≡ p f) → (is : List InitData) (fs : List Fragment) → list_all p fs ≡ true → list_all p (with_first is fs) ≡ true
same_tests p same is [] h = h
same_tests p same is (f ∷ fs) h = rw (same f (is ++ f.inits)) h

pub same_sum : (n : Fragment → ℕ) → ((f : Fragment) (is : List InitData) → n (record f { inits = is }) ≡ n f) → (is : List InitData) (fs : List Fragment) → sum_by n (with_first is fs) ≡ sum_by n fs
same_sum n same is [] = refl
same_sum n same is (f ∷ fs) =
    let g : Fragment = record f { inits = is ++ f.inits } in
    sum_by-cons n g fs ∙ ap (λ (k : ℕ). k + sum_by n fs) (same f (is ++ f.inits)) ∙ sym (sum_by-cons n f fs)
