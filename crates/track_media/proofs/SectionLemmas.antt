-- Lines that are added at the end of a list, and what that does to its tracks, its samples and its sections.
use Rattle.std.proofs.Common.{◌≡◌, ℕ, List, [], ◌∷◌, ◌++◌, Bool, true, false, refl, ap, ◌∙◌}
use Rattle.std.specs.Prelude.{◌==◌, if◌then◌else◌, ◌||◌}
use Rattle.std.specs.List.{list_any}
use Rattle.eme_types.specs.declared.sample.EncSample.{EncSample}
use Rattle.track_media.specs.declared.line.ListLine.{ListLine}
use Rattle.track_media.specs.declared.line.ListLine.TheVariants as a
use Rattle.track_media.specs.SampleList.{tracks_of, inits_of, samples_of, track_samples, is_fragment, up_to_fragment, sections}

pub tracks_of-append : (xs ys : List ListLine) → tracks_of (xs ++ ys) ≡ tracks_of xs ++ tracks_of ys
tracks_of-append [] ys = refl
tracks_of-append (a.Track id ∷ xs) ys = ap (λ ts. id ∷ ts) (tracks_of-append xs ys)
tracks_of-append (a.Fragment ∷ xs) ys = tracks_of-append xs ys
tracks_of-append (a.Init init ∷ xs) ys = tracks_of-append xs ys
tracks_of-append (a.Sample id s ∷ xs) ys = tracks_of-append xs ys

pub inits_of-append : (xs ys : List ListLine) → inits_of (xs ++ ys) ≡ inits_of xs ++ inits_of ys
inits_of-append [] ys = refl
inits_of-append (a.Track id ∷ xs) ys = inits_of-append xs ys
inits_of-append (a.Fragment ∷ xs) ys = inits_of-append xs ys
inits_of-append (a.Init init ∷ xs) ys = ap (λ ts. init ∷ ts) (inits_of-append xs ys)
inits_of-append (a.Sample id s ∷ xs) ys = inits_of-append xs ys

pub samples_of-append : (xs ys : List ListLine) → samples_of (xs ++ ys) ≡ samples_of xs ++ samples_of ys
samples_of-append [] ys = refl
samples_of-append (a.Track id ∷ xs) ys = samples_of-append xs ys
samples_of-append (a.Fragment ∷ xs) ys = samples_of-append xs ys
samples_of-append (a.Init init ∷ xs) ys = samples_of-append xs ys
samples_of-append (a.Sample id s ∷ xs) ys = ap (λ ts. s ∷ ts) (samples_of-append xs ys)

chosen : (b : Bool) (s : EncSample) (xs ys : List EncSample) → (if b then s ∷ (xs ++ ys) else (xs ++ ys)) ≡ (if b then s ∷ xs else xs) ++ ys
chosen true s xs ys = refl
chosen false s xs ys = refl

pub track_samples-append : (track : ℕ) (xs ys : List ListLine) → track_samples track (xs ++ ys) ≡ track_samples track xs ++ track_samples track ys
track_samples-append track [] ys = refl
track_samples-append track (a.Track id ∷ xs) ys = track_samples-append track xs ys
track_samples-append track (a.Fragment ∷ xs) ys = track_samples-append track xs ys
track_samples-append track (a.Init init ∷ xs) ys = track_samples-append track xs ys
track_samples-append track (a.Sample id s ∷ xs) ys =
    ap (λ ts. if id == track then s ∷ ts else ts) (track_samples-append track xs ys) ∙ chosen (id == track) s (track_samples track xs) (track_samples track ys)

-- ---- sections

-- a line other than `fragment` goes to the end of the last section, where there is one
abbrev pub grown : ListLine → List (List ListLine) → List (List ListLine)
grown x [] = []
grown x (s ∷ []) = (s ++ x ∷ []) ∷ []
grown x (s ∷ t ∷ more) = s ∷ grown x (t ∷ more)

abbrev front_grown : ListLine → List (List ListLine) → List ListLine → List ListLine
front_grown x [] s = s ++ x ∷ []
front_grown x (t ∷ more) s = s

front_cons : (x y : ListLine) (ss : List (List ListLine)) (s : List ListLine) → y ∷ front_grown x ss s ≡ front_grown x ss (y ∷ s)
front_cons x y [] s = refl
front_cons x y (t ∷ more) s = refl

front_and_more : (x : ListLine) (s : List ListLine) (ss : List (List ListLine)) → front_grown x ss s ∷ grown x ss ≡ grown x (s ∷ ss)
front_and_more x s [] = refl
front_and_more x s (t ∷ more) = refl

alone : (x : ListLine) → is_fragment x ≡ false → up_to_fragment (x ∷ []) ≡ x ∷ []
alone (a.Track id) e = refl
alone a.Fragment e = absurd cc
alone (a.Init init) e = refl
alone (a.Sample id s) e = refl

no_section : (x : ListLine) → is_fragment x ≡ false → sections (x ∷ []) ≡ []
no_section (a.Track id) e = refl
no_section a.Fragment e = absurd cc
no_section (a.Init init) e = refl
no_section (a.Sample id s) e = refl

front_end : (xs : List ListLine) (x : ListLine) → is_fragment x ≡ false → up_to_fragment (xs ++ x ∷ []) ≡ front_grown x (sections xs) (up_to_fragment xs)
front_end [] x e = alone x e
front_end (a.Track id ∷ xs) x e = ap (λ ls. a.Track id ∷ ls) (front_end xs x e) ∙ front_cons x (a.Track id) (sections xs) (up_to_fragment xs)
front_end (a.Fragment ∷ xs) x e = refl
front_end (a.Init init ∷ xs) x e = ap (λ ls. a.Init init ∷ ls) (front_end xs x e) ∙ front_cons x (a.Init init) (sections xs) (up_to_fragment xs)
front_end (a.Sample id s ∷ xs) x e = ap (λ ls. a.Sample id s ∷ ls) (front_end xs x e) ∙ front_cons x (a.Sample id s) (sections xs) (up_to_fragment xs)

pub sections_grown : (xs : List ListLine) (x : ListLine) → is_fragment x ≡ false → sections (xs ++ x ∷ []) ≡ grown x (sections xs)
sections_grown [] x e = no_section x e
sections_grown (a.Track id ∷ xs) x e = sections_grown xs x e
sections_grown (a.Fragment ∷ xs) x e = rw (front_end xs x e, sections_grown xs x e) (front_and_more x (up_to_fragment xs) (sections xs))
sections_grown (a.Init init ∷ xs) x e = sections_grown xs x e
sections_grown (a.Sample id s ∷ xs) x e = sections_grown xs x e

up_to_end : (xs : List ListLine) → up_to_fragment (xs ++ a.Fragment ∷ []) ≡ up_to_fragment xs
up_to_end [] = refl
up_to_end (a.Track id ∷ xs) = ap (λ ls. a.Track id ∷ ls) (up_to_end xs)
up_to_end (a.Fragment ∷ xs) = refl
up_to_end (a.Init init ∷ xs) = ap (λ ls. a.Init init ∷ ls) (up_to_end xs)
up_to_end (a.Sample id s ∷ xs) = ap (λ ls. a.Sample id s ∷ ls) (up_to_end xs)

pub sections_begun : (xs : List ListLine) → sections (xs ++ a.Fragment ∷ []) ≡ sections xs ++ [] ∷ []
sections_begun [] = refl
sections_begun (a.Track id ∷ xs) = sections_begun xs
sections_begun (a.Fragment ∷ xs) = rw (up_to_end xs, sections_begun xs) refl
sections_begun (a.Init init ∷ xs) = sections_begun xs
sections_begun (a.Sample id s ∷ xs) = sections_begun xs

pub grown_last : (x : ListLine) (whole : List (List ListLine)) (s : List ListLine) → grown x (whole ++ s ∷ []) ≡ whole ++ (s ++ x ∷ []) ∷ []
grown_last x [] s = refl
grown_last x (w ∷ []) s = refl
grown_last x (w ∷ v ∷ more) s = ap (λ ss. w ∷ ss) (grown_last x (v ∷ more) s)

pub begun_at_end : (xs : List ListLine) (x : ListLine) → list_any is_fragment (xs ++ x ∷ []) ≡ (list_any is_fragment xs || is_fragment x)
begun_at_end [] a.Fragment = refl
begun_at_end [] (a.Track id) = refl
begun_at_end [] (a.Init init) = refl
begun_at_end [] (a.Sample id s) = refl
begun_at_end (y ∷ xs) x = or_more (is_fragment y) (list_any is_fragment (xs ++ x ∷ [])) _ _ (begun_at_end xs x)
  where
    or_more : (b c d e : Bool) → c ≡ (d || e) → (b || c) ≡ ((b || d) || e)
    or_more true c d e h = refl
    or_more false c d e h = h
