use Rattle.std.proofs.Common.{◌≡◌, ◌<◌, ◌+◌, length, ap, sym, ◌∙◌, rules, arith}
use Rattle.text_words.specs.Lines.{lines_of}
use Rattle.script_lang.specs.Grammar.{created, moment_at_end}
use Rattle.script_lang.proofs.Walk.{walk, script_walk, empty_refused}
use Rattle.script_lang.proofs.Keeps.{is_script}
use Rattle.script_lang.proofs.read.read_script.Goals as goal

pub returns-then-is_empty : goal.returns-then-is_empty
returns-then-is_empty c = let none : length c.args.bytes.now ≡ 0 = search rules in rw c.at.ensures (empty_refused c.args.bytes.now none)

pub loop-line-init : goal.loop-line-init
loop-line-init c =
    let some : 0 < length c.args.bytes.now = search rules in (
      script_walk c.args.bytes.now some ∙ ap (λ made. walk 1 made (lines_of c.args.bytes.now)) (sym c.new-told.ensures.lines),
      record {
        labels = c.new-told.ensures.labels ∙ ap created (sym c.new-told.ensures.lines);
        moment = c.new-told.ensures.moment ∙ ap moment_at_end (sym c.new-told.ensures.lines);
      },
      omega arith,
    )

pub new-requires : goal.new-requires
new-requires c =
    is_script c.args.bytes.now c.loop-line.told.lines (c.loop-line.invariant.0 ∙ ap (walk (c.loop-line.number + 1) c.loop-line.told.lines) c.in_default.ensures.lines)
