use Rattle.std.proofs.Common.{◌∙◌, sym, ap, subst, ℕ, ◌-◌, List, length, get_or, take, drop}
use Rattle.prot_boxes.specs.declared.sbgp.SbgpItem.{SbgpItem}
use Rattle.sample_aux.specs.Groups.{index_at}
use Rattle.sample_aux.proofs.Indices.{Same, Same-past, Same-now, Same-end, here, none_left, cut, empty}
use Rattle.sample_aux.proofs.groups.Cursor.next.Goals as goal

pub returns-in-empty-clause-index : goal.returns-in-empty-clause-index
returns-in-empty-clause-index c =
    let e = empty c.loop-self.self.items.now c.in-empty.len_below in
    let s = rw e at c.loop-self.invariant in
    sym (none_left c.loop-self.self.passed) ∙ Same-now _ _ _ _ s

pub returns-in-empty-clause-moves : goal.returns-in-empty-clause-moves
returns-in-empty-clause-moves c =
    let e = empty c.loop-self.self.items.now c.in-empty.len_below in
    let s = rw e at c.loop-self.invariant in
    rw e (Same-end c.loop-self.self.passed c.args.self.now.items.now c.args.self.now.passed s)

-- what `[item, rest @ ..]` binds
abbrev item : List SbgpItem → SbgpItem
item s = get_or s 0 (record { count = 0; index = 0 })

abbrev rest : List SbgpItem → List SbgpItem
rest s = take (length s - 1) (drop 1 s)

pub returns-then-self-item-clause-index : goal.returns-then-self-item-clause-index
returns-then-self-item-clause-index c =
    let s = c.loop-self.self.items.now in
    let k = c.loop-self.self.passed in
    let f : List SbgpItem → ℕ = λ t. index_at t k in
    sym (here (item s) (rest s) k c.if-self-item.true) ∙ ap f (sym (cut s (record { count = 0; index = 0 }) c.in-len1-up.len_at_least)) ∙ Same-now _ _ _ _ c.loop-self.invariant

pub loop-self-preserved : goal.loop-self-preserved
loop-self-preserved c =
    let s = c.loop-self.self.items.now in
    let k = c.loop-self.self.passed in
    let f : List SbgpItem → Type 0 = λ t. Same t k c.args.self.now.items.now c.args.self.now.passed in
    Same-past (item s) (rest s) k _ _ c.if-self-item.false (subst f (cut s (record { count = 0; index = 0 }) c.in-len1-up.len_at_least) c.loop-self.invariant)
