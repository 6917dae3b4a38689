use Rattle.std.proofs.Common.{◌≡◌, Option, refl, slice_get, subst, rules}
use Rattle.eme_types.specs.declared.media.Fragment.{Fragment}
use Rattle.eme_types.specs.declared.entry.Entry.TheVariants.{Feed}
use Rattle.player_core.specs.Course.{Goes}
use Rattle.player_core.proofs.Steps.{goes_now}
use Rattle.player_core.proofs.alone.feed_next.Goals as goal

pub returns-in-Ok-clause-goes : goal.returns-in-Ok-clause-goes
returns-in-Ok-clause-goes c =
    let given : Option Fragment = c.pop_front-given.result in
    let first : given ≡ slice_get c.args.left.now.items 0 = search rules in
    subst (λ (x : Option Fragment). Goes c.args.cdm.now c.feed.new.self (Feed c.args.line x)) first (goes_now c.args.cdm.now c.args.cdm.now c.feed.new.self (Feed c.args.line given) refl c.in-Ok.ensures.ok (λ w t i n k x. cc) (λ last. last))
