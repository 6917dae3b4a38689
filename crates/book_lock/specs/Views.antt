-- What a seat knows, and what each step makes of it.
use Rattle.std.specs.Prelude.{ℕ, ◌+◌, ◌-◌, ◌^◌, if◌then◌else◌, ltb, List, [], ◌∷◌, ◌++◌, length}
use Rattle.book_lock.specs.declared.view.Phase.{Phase}
use Rattle.book_lock.specs.declared.view.Phase.TheVariants.{Idle, Waiting, Turn, Counted}
use Rattle.book_lock.specs.declared.view.View.{View}

-- 1 where a ticket is out
abbrev pub out : Phase → ℕ
out Idle = 0
out Waiting = 1
out Turn = 1
out Counted = 1

-- the seat has the turn
abbrev pub Holds : Phase → Type 0
Holds Idle = ⊥
Holds Waiting = ⊥
Holds Turn = Unit {0}
Holds Counted = Unit {0}

abbrev pub longer : {E : Type 0} → List E → List E → List E
longer xs ys = if ltb (length xs) (length ys) then ys else xs

abbrev pub shorter : {E : Type 0} → List E → List E → List E
shorter xs ys = if ltb (length xs) (length ys) then xs else ys

-- the first pass has all parts, and owns place 0
abbrev pub opened : {E : Type 0} → List ℕ → View E
opened base = record { phase = Idle; ticket = 0; taken = []; seen = []; told = []; own = 0 ∷ []; parts = 2 ^ 32; fixed = base }

-- what a pass leaves that was joined into another
abbrev pub spent_view : {E : Type 0} → View E
spent_view = record { phase = Idle; ticket = 0; taken = []; seen = []; told = []; own = []; parts = 0; fixed = [] }

module _ {E : Type 0} where
  abbrev pub is_out : View E → ℕ
  is_out v = out v.phase

  abbrev pub parts_of : View E → ℕ
  parts_of v = v.parts

  abbrev pub waiting : View E → ℕ → View E
  waiting v t = record v { phase = Waiting; ticket = t }

  abbrev pub turn : View E → List E → View E
  turn v xs = record v { phase = Turn; taken = xs }

  -- the list has one entry more, whose place is its length
  abbrev pub counted : View E → List E → View E
  counted v xs = record v { phase = Counted; seen = xs; own = v.own ++ length xs ∷ [] }

  -- after its turn a seat has seen what it took, or what it counted
  abbrev pub seen_after : Phase → View E → List E
  seen_after Idle v = v.seen
  seen_after Waiting v = v.seen
  seen_after Turn v = v.taken
  seen_after Counted v = v.seen

  abbrev pub idle : View E → View E
  idle v = record v { phase = Idle; seen = seen_after v.phase v }

  abbrev pub left_of : View E → View E
  left_of v = record v { parts = v.parts - 1 }

  -- a new pass has seen the same, owns nothing and has one part
  abbrev pub right_of : View E → View E
  right_of v = record v { own = []; parts = 1 }

  -- the pass that stays has the longer list, and the places and parts of both
  abbrev pub both_of : View E → View E → View E
  both_of v w = record v { seen = longer v.seen w.seen; told = shorter v.seen w.seen; own = v.own ++ w.own; parts = v.parts + w.parts }
