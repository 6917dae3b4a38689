use Rattle.std.proofs.Common.{◌≡◌, ◌+◌, ℕ, IsTrue, Bool, true, List, ◌∷◌, drop, slice_get, ap, ◌∙◌, sym, subst}
use Rattle.std.proofs.lemmas.List.{drop_more}
use Rattle.eme_types.specs.declared.media.Media.{Media}
use Rattle.key_sessions.specs.Agree.{Agree}
use Rattle.key_sessions.specs.Machine.{Machine}
use Rattle.script_lang.specs.declared.script.Line.{Line}
use Rattle.serial_play.specs.Answer.{HasPlayed}
use Rattle.serial_play.proofs.Playing.{LineGoes, line_fits, played_more, settled_same}
use Rattle.serial_play.proofs.outcome.play_lines.Goals as goal

pub line-requires-clause-formed : goal.line-requires-clause-formed
line-requires-clause-formed c = (c.loop-line.invariant c.requires.0 c.requires.1).formed

pub line-requires-clause-moment : goal.line-requires-clause-moment
line-requires-clause-moment c =
    let script : List Line = c.args.script.now in
    let i = c.loop-line.line-index in
    let line : Line = c.line-item.result in
    let here : drop i script ≡ line ∷ drop (i + 1) script = drop_more script i line c.loop-line-test.true ∙ ap (λ (l : Line). l ∷ drop (i + 1) script) (sym c.line-item.is) in
    line_fits script c.requires.0 line (drop (i + 1) script) c.loop-line.agreeing c.loop-line.play (subst (λ (ls : List Line). HasPlayed script c.requires.0 ls c.loop-line.agreeing c.loop-line.play) here (c.loop-line.invariant c.requires.0 c.requires.1))

pub still_agree-requires : goal.still_agree-requires
still_agree-requires c agreeing settles_ =
    let has = c.loop-line.invariant c.requires.0 c.requires.1 in
    let line : Line = c.line-item.result in
    let media : Media = c.requires.0 in
    subst Agree (sym (settled_same media.tracks line.action (slice_get c.loop-line.play.left.now 0) has.s c.loop-line.play c.line.new.self settles_ has.stands (c.in_ok-line.ensures.stands media.tracks has.s has.stands))) (has.agreed agreeing)

pub loop-line-preserved : goal.loop-line-preserved
loop-line-preserved c media begun =
    let script : List Line = c.args.script.now in
    let i = c.loop-line.line-index in
    let line : Line = c.line-item.result in
    let here : drop i script ≡ line ∷ drop (i + 1) script = drop_more script i line c.loop-line-test.true ∙ ap (λ (l : Line). l ∷ drop (i + 1) script) (sym c.line-item.is) in
    let goes : LineGoes line c.loop-line.agreeing c.in_ok-agree.agree c.loop-line.play c.line.new.self = record {
      stands = c.in_ok-line.ensures.stands;
      left = c.in_ok-line.ensures.left;
      moment = c.in_ok-line.ensures.moment;
      agree = c.in_ok-agree.ensures;
    } in
    played_more script media line (drop (i + 1) script) c.loop-line.agreeing c.in_ok-agree.agree c.loop-line.play c.line.new.self goes (subst (λ (ls : List Line). HasPlayed script media ls c.loop-line.agreeing c.loop-line.play) here (c.loop-line.invariant media begun))
