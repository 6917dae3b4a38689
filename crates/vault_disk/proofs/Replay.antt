-- What a write does to the content, and to what a crash may leave.
use Rattle.std.proofs.Common.{◌≡◌, ℕ, zero, suc, ◌+◌, ◌-◌, ◌<◌, ◌≤◌, List, [], ◌∷◌, ◌++◌, length, take, drop, get_or, refl, sym, ap, ◌∙◌, subst, arith, append_assoc, length-append}
use Rattle.std.proofs.lemmas.List.{take_more, length-take-le, take-append-drop, take-take, take_all, drop-drop, take_at, drop_at}
use Rattle.vault_disk.specs.declared.step.Step.{Step}
use Rattle.vault_disk.specs.declared.step.Step.TheVariants.{Wrote, Synced}
use Rattle.vault_disk.specs.Disk.{Holds, Torn, Follows}
use Rattle.vault_disk.specs.Content.{put_at, Content, begun, after, replayed, wrote, MayLeave, filled}
use Rattle.vault_disk.specs.Laws.{untorn, torn_put}
use Rattle.vault_disk.proofs.Puts.{put_at-append}

pub replayed-append : (c : Content) (xs ys : List Step) → replayed c (xs ++ ys) ≡ replayed (replayed c xs) ys
replayed-append c [] ys = refl
replayed-append c (x ∷ xs) ys = replayed-append (after x c) xs ys

-- a write of one byte and then of those behind it
torn_more : (place n : ℕ) (old mid new : List ℕ) → Torn place 1 old mid → Torn (place + 1) n mid new → Torn place (suc n) old new
torn_more place n old mid new one more =
    let e : place + suc n ≡ place + 1 + n = omega arith in
    record {
      before =
          sym (take-take place (place + 1) new (omega arith))
          ∙ ap (λ (l : List ℕ). take place l) more.before
          ∙ take-take place (place + 1) mid (omega arith)
          ∙ one.before;
      behind =
          ap (λ (k : ℕ). drop k new) e
          ∙ more.behind
          ∙ sym (drop-drop n (place + 1) mid)
          ∙ ap (λ (l : List ℕ). drop n l) one.behind
          ∙ drop-drop n (place + 1) old
          ∙ ap (λ (k : ℕ). drop k old) (sym e);
      no_shorter = omega (arith, one.no_shorter, more.no_shorter);
      no_longer = omega (arith, one.no_longer, more.no_longer);
    }

torn_none : (place : ℕ) (xs : List ℕ) → Torn place 0 xs xs
torn_none place xs = record { before = refl; behind = refl; no_shorter = omega arith; no_longer = omega arith }

-- each outcome after a write is an outcome before it, torn in the range
pub write_tears : (c : Content) (place : ℕ) (bytes : List ℕ) → Follows (Torn place (length bytes)) (MayLeave c) (MayLeave (replayed c (wrote place bytes)))
write_tears c place [] x left = (x, left, torn_none place x)
write_tears c place (byte ∷ bytes) x left =
    let from = write_tears (after (Wrote place byte) c) (place + 1) bytes x left in
    let first = from.1 in
    (first.0, first.1, torn_more place (length bytes) first.0 from.0 x first.2 from.2)

-- what a read gives after it is one of them
pub write_torn : (c : Content) (place : ℕ) (bytes : List ℕ) → Torn place (length bytes) c.seen (replayed c (wrote place bytes)).seen
write_torn c place [] = torn_none place c.seen
write_torn c place (byte ∷ bytes) =
    torn_more place (length bytes) c.seen (put_at c.seen place byte) _ (torn_put c.seen place byte) (write_torn (after (Wrote place byte) c) (place + 1) bytes)

-- what a crash might have left it may still leave
pub write_keeps : (c : Content) (place : ℕ) (bytes x : List ℕ) → MayLeave c x → MayLeave (replayed c (wrote place bytes)) x
write_keeps c place [] x left = left
write_keeps c place (byte ∷ bytes) x left = write_keeps (after (Wrote place byte) c) (place + 1) bytes x (x, left, untorn place x)

put_at-is : (xs : List ℕ) (place byte : ℕ) → place ≤ length xs → put_at xs place byte ≡ take place xs ++ byte ∷ drop (place + 1) xs
put_at-is xs place byte inside =
    ap (λ (l : List ℕ). put_at l place byte) (sym (take-append-drop place xs))
    ∙ put_at-append (take place xs) (drop place xs) place byte (length-take-le place xs inside)
    ∙ ap (λ (l : List ℕ). take place xs ++ byte ∷ l) (drop-drop 1 place xs)

-- the bytes stand there
pub write_holds : (c : Content) (place : ℕ) (bytes : List ℕ) → place ≤ length c.seen → Holds c.seen place bytes (replayed c (wrote place bytes)).seen
write_holds c place [] inside =
    let e : place + 0 ≡ place = omega arith in
    sym (ap (λ (n : ℕ). take place c.seen ++ [] ++ drop n c.seen) e ∙ append_assoc (take place c.seen) [] (drop place c.seen) ∙ take-append-drop place c.seen)
write_holds c place (byte ∷ bytes) inside =
    let xs = c.seen in
    let now = put_at xs place byte in
    let is : now ≡ take place xs ++ byte ∷ drop (place + 1) xs = put_at-is xs place byte inside in
    let grouped : now ≡ (take place xs ++ byte ∷ []) ++ drop (place + 1) xs = is ∙ sym (append_assoc (take place xs) (byte ∷ []) (drop (place + 1) xs)) in
    let front_long : length (take place xs ++ byte ∷ []) ≡ place + 1 = omega (arith, length-append (take place xs) (byte ∷ []), length-take-le place xs inside) in
    let long : place + 1 ≤ length now = omega (arith, ap length grouped, length-append (take place xs ++ byte ∷ []) (drop (place + 1) xs), front_long) in
    let front : take (place + 1) now ≡ take place xs ++ byte ∷ [] = ap (λ (l : List ℕ). take (place + 1) l) grouped ∙ take_at (take place xs ++ byte ∷ []) (drop (place + 1) xs) (place + 1) front_long in
    let back : drop (place + 1) now ≡ drop (place + 1) xs = ap (λ (l : List ℕ). drop (place + 1) l) grouped ∙ drop_at (take place xs ++ byte ∷ []) (drop (place + 1) xs) (place + 1) front_long in
    let e : place + suc (length bytes) ≡ place + 1 + length bytes = omega arith in
    let tail : drop (place + 1 + length bytes) now ≡ drop (place + suc (length bytes)) xs =
    sym (drop-drop (length bytes) (place + 1) now) ∙ ap (λ (l : List ℕ). drop (length bytes) l) back ∙ drop-drop (length bytes) (place + 1) xs ∙ ap (λ (k : ℕ). drop k xs) (sym e) in
    write_holds (after (Wrote place byte) c) (place + 1) bytes long
    ∙ ap (λ (l : List ℕ). l ++ bytes ++ drop (place + 1 + length bytes) now) front
    ∙ ap (λ (l : List ℕ). take place xs ++ byte ∷ [] ++ bytes ++ l) tail
    ∙ ap (λ (l : List ℕ). l ++ drop (place + suc (length bytes)) xs) (append_assoc (take place xs) (byte ∷ []) bytes)

-- the image of a fill byte is one of the outcomes
pub filled_left : (byte : ℕ) (written synced : List ℕ) → MayLeave (record { seen = []; synced = synced; written = written }) (filled byte written synced)
filled_left byte [] synced = refl
filled_left byte (place ∷ older) synced = (filled byte older synced, filled_left byte older synced, torn_put (filled byte older synced) place byte)

-- one step more of a list
pub one_more : (c : Content) (steps : List Step) (i : ℕ) (d step : Step) → i < length steps → get_or steps i d ≡ step → replayed c (take (i + 1) steps) ≡ after step (replayed c (take i steps))
one_more c steps i d step lt is =
    ap (λ (l : List Step). replayed c l) (take_more steps i d lt)
    ∙ replayed-append c (take i steps) (get_or steps i d ∷ [])
    ∙ ap (λ (s : Step). after s (replayed c (take i steps))) is
