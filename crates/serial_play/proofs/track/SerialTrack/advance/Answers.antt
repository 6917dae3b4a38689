use Rattle.std.proofs.Common.{◌≡◌, ℕ, ◌+◌, ◌<◌, Bool, true, false, List, ◌++◌, Some, None, length, slice_get, refl, ap, ◌∙◌, sym, subst, arith}
use Rattle.std.proofs.lemmas.Option.{slice_get_within}
use Rattle.cdm_world.specs.Tracks.{Picks}
use Rattle.key_sessions.specs.Keys.{pick}
use Rattle.serial_play.specs.Serial.{passed}
use Rattle.serial_play.specs.declared.track.SerialTrack.{SerialTrack}
use Rattle.serial_play.specs.Answer.{Passes, moved_track}
use Rattle.serial_play.proofs.Moving.{pass_none, pass_some, moved_stop, moved_end, moved_one}
use Rattle.serial_play.proofs.track.SerialTrack.advance.Goals as goal

pub returns-then-not-branch : goal.returns-then-not-branch
returns-then-not-branch c =
    let picks : Picks = pick c.args.sessions.now.machine in
    let t : SerialTrack = c.moves.self in
    let none = pass_none (passed picks c.in-Some.sample.now) t.bytes c.pass.new.bytes (subst (λ (b : Bool). Passes (passed picks c.in-Some.sample.now) t.bytes b c.pass.new.bytes) c.if-not-branch.true c.in_ok-pass.ensures) in
    ap (λ (bytes : List ℕ). let u : SerialTrack = record t { bytes = bytes } in u) none.1 ∙ (sym (moved_stop picks t c.in-Some.sample.now c.in-Some.ensures.found none.0) ∙ c.moves.invariant)

pub moves-smaller : goal.moves-smaller
moves-smaller c =
    let lt : c.moves.self.count < length c.moves.self.fed = slice_get_within c.moves.self.fed c.moves.self.count c.in-Some.sample.now c.in-Some.ensures.found in
    omega (arith, lt)

pub moves-preserved : goal.moves-preserved
moves-preserved c =
    let picks : Picks = pick c.args.sessions.now.machine in
    let t : SerialTrack = c.moves.self in
    let some = pass_some (passed picks c.in-Some.sample.now) t.bytes c.pass.new.bytes (subst (λ (b : Bool). Passes (passed picks c.in-Some.sample.now) t.bytes b c.pass.new.bytes) c.if-not-branch.false c.in_ok-pass.ensures) in
    ap (λ (bytes : List ℕ). let u : SerialTrack = record t { count = t.count + 1; bytes = bytes } in moved_track picks u) some.2 ∙ (moved_one picks t c.in-Some.sample.now some.0 c.in-Some.ensures.found some.1 ∙ c.moves.invariant)

pub returns : goal.returns
returns c =
    sym (moved_end (pick c.args.sessions.now.machine) c.moves.self c.in_default.ensures.found) ∙ c.moves.invariant
