use Rattle.std.proofs.Common.{arith}
use Rattle.serial_play.proofs.FirstFed.{may_feed_copied}
use Rattle.serial_play.proofs.tests.schedule.first_fragment.Goals as goal

pub returns-in_ok-copy-in-len1-up : goal.returns-in_ok-copy-in-len1-up
returns-in_ok-copy-in-len1-up c =
    may_feed_copied c.args.media.now c.args.cdm.now.tracks c.args.cdm.now.history c.fragments.result c.as_slice.result.now c.first-item.result c.in_ok-copy-in-len1-up.field-0 c.requires.fed c.requires.tracks c.fragments.ensures (omega (arith, c.if-fragments-gt0.false)) c.as_slice.ensures (omega (arith, c.in-len1-up.len_at_least)) c.first-item.is c.in_ok-copy-in-len1-up.ensures
