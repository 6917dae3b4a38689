use Rattle.script_lang.proofs.TellLemmas.{one_told}
use Rattle.script_lang.proofs.read.read_action.Goals as goal

pub returns-clause-told : goal.returns-clause-told
returns-clause-told c =
    one_told c.args.told.now c.take_label.new.self c.push.new.self _ c.in-Ok.parts.verb c.in-Ok.parts.first.now c.in-Ok.parts.second.now c.in-Ok.parts.last.now c.requires
    c.in_ok-take_label.ensures.labels c.take_label.ensures.moment c.take_label.ensures.lines c.in_ok-action.ensures.value c.push.ensures.labels c.in_ok-push.ensures.moment c.in_ok-push.ensures.lines
