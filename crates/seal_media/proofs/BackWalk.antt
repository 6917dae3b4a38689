-- Boxes that were written one behind the other are read one after the other.
use Rattle.std.proofs.Common.{◌≡◌, ℕ, ◌+◌, ◌^◌, ◌<◌, Bool, true, false, List, [], ◌∷◌, ◌++◌, length, Some, None, Result, Ok, Err, refl, ap, ◌∙◌, append-nil}
use Rattle.iso_boxes.specs.declared.walk.BoxFault.{BoxFault}
use Rattle.iso_boxes.specs.Walk.{Found, Walked, before, boxes_left, walk, walk_of}
use Rattle.iso_boxes.specs.Writing.{boxed}
use Rattle.iso_boxes.specs.Children.{◌>>=◌, each_knowing, all_knowing, first_read, ended}
use Rattle.iso_boxes.proofs.WrittenAgain.{written_again}
use Rattle.prot_boxes.proofs.Again.{box_of}
use Rattle.seal_media.proofs.BackStands.{Stands, stands_left, stands_fits}

-- no box
abbrev pub end : Walked
end = record { boxes = []; fault = None }

pub walk_nil : (place : ℕ) (top : Bool) → walk [] place top ≡ end
unfolding walk boxes_left walk_of
walk_nil place top = refl

pub one_box : (kind body : List ℕ) (place : ℕ) (top : Bool) → length kind ≡ 4 → 8 + length body < 2 ^ 32 → walk (boxed kind body) place top ≡ before (box_of kind body place) end
one_box kind body place top k4 fits =
    (rw append-nil at (written_again kind body [] place top k4 fits)) ∙ ap (before (box_of kind body place)) (walk_nil (place + (8 + length body)) top)

behind : {E A : Type 0} (x : A) (r : Result (List A) E) (e : Result (Unit {0}) E) (xs : List A) → (r >>= λ ys. (e >>= λ end. Ok ys)) ≡ Ok xs → ((r >>= λ ys. Ok (x ∷ ys)) >>= λ ys. (e >>= λ end. Ok ys)) ≡ Ok (x ∷ xs)
behind x (Ok ys) (Ok u) xs h = cc
behind x (Ok ys) (Err f) xs h = absurd cc
behind x (Err f) e xs h = absurd cc

-- a box in front of a walk
pub reads_before : {E A K : Type 0} (header : BoxFault → E) (read : K → Found → Result A E) (learn : K → A → K) (known : K) (b : Found) (w : Walked) (x : A) (xs : List A)
    → read known b ≡ Ok x → all_knowing header read learn (learn known x) w ≡ Ok xs → all_knowing header read learn known (before b w) ≡ Ok (x ∷ xs)
unfolding all_knowing each_knowing
reads_before header read learn known b w x xs here more = rw here (behind x (each_knowing read learn (learn known x) w.boxes) (ended header w.fault) xs more)

-- nothing is left
pub reads_end : {E A K : Type 0} (header : BoxFault → E) (read : K → Found → Result A E) (learn : K → A → K) (known : K) (place : ℕ) (top : Bool) → all_knowing header read learn known (walk [] place top) ≡ Ok []
unfolding all_knowing each_knowing
reads_end header read learn known place top = rw (walk_nil place top) refl

-- a box that stands in a file is read, and then what stands behind it
pub reads_on : {E A K : Type 0} (header : BoxFault → E) (read : K → Found → Result A E) (learn : K → A → K) (known : K) (file kind body after : List ℕ) (place : ℕ) (top : Bool) (x : A) (xs : List A)
    → length kind ≡ 4 → length file < 2 ^ 32 → Stands file place (boxed kind body ++ after) → read known (box_of kind body place) ≡ Ok x
    → all_knowing header read learn (learn known x) (walk after (place + (8 + length body)) top) ≡ Ok xs → all_knowing header read learn known (walk (boxed kind body ++ after) place top) ≡ Ok (x ∷ xs)
reads_on header read learn known file kind body after place top x xs k4 small stands here more =
    let fits = stands_fits file place kind body k4 small (stands_left file place (boxed kind body) after stands) in
    rw (written_again kind body after place top k4 fits) (reads_before header read learn known (box_of kind body place) (walk after (place + (8 + length body)) top) x xs here more)

at_end : {E A K : Type 0} (header : BoxFault → E) (read : K → Found → Result A E) (learn : K → A → K) (known : K) → all_knowing header read learn known end ≡ Ok []
unfolding all_knowing each_knowing
at_end header read learn known = refl

-- the last box
pub reads_last : {E A K : Type 0} (header : BoxFault → E) (read : K → Found → Result A E) (learn : K → A → K) (known : K) (file kind body : List ℕ) (place : ℕ) (top : Bool) (x : A)
    → length kind ≡ 4 → length file < 2 ^ 32 → Stands file place (boxed kind body) → read known (box_of kind body place) ≡ Ok x
    → all_knowing header read learn known (walk (boxed kind body) place top) ≡ Ok (x ∷ [])
reads_last header read learn known file kind body place top x k4 small stands here =
    let fits = stands_fits file place kind body k4 small stands in
    rw (one_box kind body place top k4 fits) (reads_before header read learn known (box_of kind body place) end x [] here (at_end header read learn (learn known x)))

-- the only box, where the first of its type is read
pub reads_only : {E A : Type 0} (header : BoxFault → E) (test : Found → Bool) (read : Found → Result A E) (file kind body : List ℕ) (place : ℕ) (x : A)
    → length kind ≡ 4 → length file < 2 ^ 32 → Stands file place (boxed kind body) → test (box_of kind body place) ≡ true → read (box_of kind body place) ≡ Ok x
    → first_read header test read (walk (boxed kind body) place false) ≡ Ok (Some x)
unfolding first_read
reads_only header test read file kind body place x k4 small stands passes here =
    let fits = stands_fits file place kind body k4 small stands in
    rw (one_box kind body place false k4 fits, passes, here) refl
