-- A reader that goes over the boxes and gathers what it reads comes to what the definition says of all of them.
use Rattle.std.proofs.Common.{◌≡◌, ◌⊎◌, inl, inr, true, List, [], ◌∷◌, Option, Some, None, Result, Ok, Err, refl, sym, ◌∙◌}
use Rattle.std.specs.Prelude.{is_some}
use Rattle.iso_boxes.specs.declared.walk.BoxFault.{BoxFault}
use Rattle.iso_boxes.specs.Walk.{Found, Walked, before}
use Rattle.iso_boxes.specs.Children.{◌>>=◌, each_knowing, ended, all_knowing, first, first_or}

-- read and learn are those of the definition; a state says what is known; add puts a part to it;
-- finish says what it comes to where these parts follow
pub record Reader (E A K S R : Type 0) : Type 0 where
  pub header : BoxFault → E
  pub read : K → Found → Result A E
  pub learn : K → A → K
  pub know : S → K
  pub add : S → A → S
  pub finish : S → List A → Result R E

pub record Gathers {E A K S R : Type 0} (r : Reader E A K S R) : Type 0 where
  pub knows : (s : S) (p : A) → r.know (r.add s p) ≡ r.learn (r.know s) p
  pub adds : (s : S) (p : A) (ps : List A) → r.finish s (p ∷ ps) ≡ r.finish (r.add s p) ps

-- what it comes to where these boxes are left
unfoldable pub left : {E A K S R : Type 0} → Reader E A K S R → S → Walked → Result R E
left r s w = all_knowing r.header r.read r.learn (r.know s) w >>= r.finish s

abbrev push : {E A : Type 0} → A → Result (List A) E → Result (List A) E
push p rest = rest >>= λ xs. Ok (p ∷ xs)

abbrev closing : {E A K S R : Type 0} → Reader E A K S R → S → Result (List A) E → Option BoxFault → Result R E
closing r s rest fault = (rest >>= λ xs. (ended r.header fault >>= λ end. Ok xs)) >>= r.finish s

front : {E A K S R : Type 0} (r : Reader E A K S R) → Gathers r → (s : S) (p : A) (rest : Result (List A) E) (fault : Option BoxFault) → closing r s (push p rest) fault ≡ closing r (r.add s p) rest fault
front r laws s p (Ok xs) None = laws.adds s p xs
front r laws s p (Ok xs) (Some f) = refl
front r laws s p (Err e) fault = refl

one_at : {E A K S R : Type 0} (r : Reader E A K S R) → Gathers r → (s : S) (w : Walked) (one : Result A E)
    → closing r s (one >>= λ p. push p (each_knowing r.read r.learn (r.learn (r.know s) p) w.boxes)) w.fault ≡ (one >>= λ p. left r (r.add s p) w)
unfolding left all_knowing
one_at r laws s w (Ok p) = front r laws s p (each_knowing r.read r.learn (r.learn (r.know s) p) w.boxes) w.fault ∙ rw (← laws.knows s p) refl
one_at r laws s w (Err e) = refl

pub one_more : {E A K S R : Type 0} (r : Reader E A K S R) → Gathers r → (s : S) (b : Found) (w : Walked) → left r s (before b w) ≡ (r.read (r.know s) b >>= λ p. left r (r.add s p) w)
unfolding left all_knowing each_knowing
one_more r laws s b w = one_at r laws s w (r.read (r.know s) b)

pub ends_broken : {E A K S R : Type 0} (r : Reader E A K S R) (s : S) (w : Walked) (f : BoxFault) (total : Result R E) → w ≡ record { boxes = []; fault = Some f } → left r s w ≡ total → total ≡ Err (r.header f)
unfolding left all_knowing each_knowing
ends_broken r s w f total e so_far = sym so_far ∙ rw e refl

pub ends : {E A K S R : Type 0} (r : Reader E A K S R) (s : S) (w : Walked) (total : Result R E) → w ≡ record { boxes = []; fault = None } → left r s w ≡ total → total ≡ r.finish s []
unfolding left all_knowing each_knowing
ends r s w total e so_far = sym so_far ∙ rw e refl

pub goes_on : {E A K S R : Type 0} (r : Reader E A K S R) → Gathers r → (s : S) (p : A) (b : Found) (old new : Walked) (total : Result R E) → old ≡ before b new → r.read (r.know s) b ≡ Ok p
    → left r s old ≡ total → left r (r.add s p) new ≡ total
goes_on r laws s p b old new total e h so_far =
    let one : left r s old ≡ left r (r.add s p) new = rw e (one_more r laws s b new ∙ rw h refl) in
    sym one ∙ so_far

pub stops : {E A K S R : Type 0} (r : Reader E A K S R) → Gathers r → (memory : Type 0) (s : S) (b : Found) (old new : Walked) (total : Result R E) (f : E) → old ≡ before b new
    → memory ⊎ (r.read (r.know s) b ≡ Err f) → left r s old ≡ total → memory ⊎ (total ≡ Err f)
stops r laws memory s b old new total f e (inl m) so_far = inl m
stops r laws memory s b old new total f e (inr h) so_far =
    let one : left r s old ≡ Err f = rw e (one_more r laws s b new ∙ rw h refl) in
    inr (sym so_far ∙ one)

-- ---- of several the first

-- what is first where these follow
abbrev pub chosen : {A : Type 0} → Option A → List A → Option A
chosen None xs = first xs
chosen (Some x) xs = Some x

pub chosen_more : {A : Type 0} (o : Option A) (x : A) (xs : List A) → chosen o (x ∷ xs) ≡ chosen (first_or o x) xs
chosen_more None x xs = refl
chosen_more (Some y) x xs = refl

pub chosen_none : {A : Type 0} (o : Option A) → chosen o [] ≡ o
chosen_none None = refl
chosen_none (Some x) = refl

pub known_more : {A : Type 0} (o : Option A) (x : A) → is_some (first_or o x) ≡ true
known_more None x = refl
known_more (Some y) x = refl
