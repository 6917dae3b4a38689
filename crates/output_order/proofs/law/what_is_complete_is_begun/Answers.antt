use Rattle.std.proofs.Common.{[], append-nil, ◌∙◌}
use Rattle.output_order.proofs.law.what_is_complete_is_begun.Goals as goal

pub returns : goal.returns
returns c = λ script media h done. record {
  lanes = λ i le. record { rest = []; is = append-nil _ ∙ done.lanes i le };
  known = done.known;
  feeds = done.feeds.each;
  implied = record { lines = done.implied.lines; behind = _; above = done.implied.above; is = done.implied.is; front = record { rest = []; is = append-nil _ } };
}
