-- Boxes and key ids read one after the other.
use Rattle.std.proofs.Common.{◌≡◌, ◌⊎◌, inl, inr, ℕ, List, [], ◌∷◌, ◌++◌, Option, Some, None, Result, Ok, Err, refl, sym, ap, ◌∙◌, append_assoc}
use Rattle.std.proofs.lemmas.List.{append-nil}
use Rattle.eme_types.specs.FirstFault.{◌>>=◌, read_each}
use Rattle.iso_boxes.specs.declared.walk.BoxFault.{BoxFault}
use Rattle.iso_boxes.specs.Fields.{bytes_at}
use Rattle.iso_boxes.specs.Reading.{some_bytes}
use Rattle.iso_boxes.specs.Walk.{Found, Walked, before}
use Rattle.init_data.specs.declared.fault.InitFault.{InitFault}
use Rattle.init_data.specs.declared.fault.InitFault.TheVariants.{Invalid, OutOfMemory}
use Rattle.init_data.specs.declared.pssh.Pssh.{Pssh}
use Rattle.init_data.specs.Pssh.{pssh_in, ended, gathered}

pub some_bytes-ok : (n : ℕ) (bytes x after : List ℕ) → Some (x, after) ≡ bytes_at n bytes → some_bytes Invalid n bytes ≡ Ok (x, after)
some_bytes-ok n bytes x after e = rw (← e) refl

pub some_bytes-err : (n : ℕ) (bytes : List ℕ) → None ≡ bytes_at n bytes → some_bytes Invalid n bytes ≡ Err Invalid
some_bytes-err n bytes e = rw (← e) refl

-- what the boxes that are left come to, with what was read before in front
abbrev closing : List Pssh → Result (List Pssh) InitFault → Option BoxFault → Result (List Pssh) InitFault
closing front rest fault = rest >>= λ xs. ended fault >>= λ end. Ok (front ++ xs)

abbrev pub left_over : List Pssh → Walked → Result (List Pssh) InitFault
left_over front w = closing front (read_each pssh_in w.boxes) w.fault

abbrev in_ok : List Pssh → Result (List Pssh) InitFault
in_ok xs = Ok xs

regroup : (front : List Pssh) (p : Pssh) (rest : Result (List Pssh) InitFault) (fault : Option BoxFault)
    → closing front (rest >>= λ xs. Ok (p ∷ xs)) fault ≡ closing (front ++ p ∷ []) rest fault
regroup front p (Err e) fault = refl
regroup front p (Ok xs) (Some f) = refl
regroup front p (Ok xs) None = ap in_ok (simp append_assoc)

one_more : (front : List Pssh) (b : Found) (w : Walked) (p : Pssh) → pssh_in b ≡ Ok p → left_over front (before b w) ≡ left_over (front ++ p ∷ []) w
unfolding read_each
one_more front b w p one = rw one (regroup front p (read_each pssh_in w.boxes) w.fault)

one_refused : (front : List Pssh) (b : Found) (w : Walked) (e : InitFault) → pssh_in b ≡ Err e → left_over front (before b w) ≡ Err e
unfolding read_each
one_refused front b w e one = rw one refl

pub goes_on : (front : List Pssh) (b : Found) (old new : Walked) (p : Pssh) (total : Result (List Pssh) InitFault) → old ≡ before b new → pssh_in b ≡ Ok p
    → total ≡ left_over front old → total ≡ left_over (front ++ p ∷ []) new
goes_on front b old new p total is one so_far = so_far ∙ ap (left_over front) is ∙ one_more front b new p one

pub stops : (front : List Pssh) (b : Found) (old new : Walked) (e : InitFault) (total : Result (List Pssh) InitFault) → old ≡ before b new → (e ≡ OutOfMemory) ⊎ (pssh_in b ≡ Err e)
    → total ≡ left_over front old → (e ≡ OutOfMemory) ⊎ (total ≡ Err e)
stops front b old new e total is (inl wants) so_far = inl wants
stops front b old new e total is (inr one) so_far = inr (so_far ∙ ap (left_over front) is ∙ one_refused front b new e one)

pub finishes : (front : List Pssh) (old : Walked) (total : Result (List Pssh) InitFault) → old ≡ record { boxes = []; fault = None }
    → total ≡ left_over front old → total ≡ Ok front
unfolding read_each
finishes front old total is so_far = so_far ∙ ap (left_over front) is ∙ ap in_ok (append-nil front)

pub breaks : (front : List Pssh) (old : Walked) (f : BoxFault) (total : Result (List Pssh) InitFault) → old ≡ record { boxes = []; fault = Some f }
    → total ≡ left_over front old → total ≡ Err Invalid
unfolding read_each
breaks front old f total is so_far = so_far ∙ ap (left_over front) is

begins_at : (rest : Result (List Pssh) InitFault) (fault : Option BoxFault) → (rest >>= λ xs. ended fault >>= λ end. Ok xs) ≡ closing [] rest fault
begins_at (Ok xs) None = refl
begins_at (Ok xs) (Some f) = refl
begins_at (Err e) fault = refl

begins : (w : Walked) → gathered w ≡ left_over [] w
unfolding gathered
begins w = begins_at (read_each pssh_in w.boxes) w.fault

pub begins_from : (front : List Pssh) (w v : Walked) → front ≡ [] → v ≡ w → gathered w ≡ left_over front v
begins_from front w v none same = begins w ∙ sym (ap (λ fr. left_over fr v) none ∙ ap (left_over []) same)
