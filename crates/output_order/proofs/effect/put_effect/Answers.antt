use Rattle.std.proofs.Common.{◌++◌, ap, ◌∙◌, sym, codes}
use Rattle.std.specs.List.{flat_map}
use Rattle.output_order.specs.Log.{effect_line, status_words, settled_words}
use Rattle.output_order.proofs.Puts.{put_two, put_three, statuses_line, promise_line}
use Rattle.output_order.proofs.effect.put_effect.Goals as goal

pub returns-in_ok-extend_from_slice-in-Statuses-2 : goal.returns-in_ok-extend_from_slice-in-Statuses-2
returns-in_ok-extend_from_slice-in-Statuses-2 c =
    put_three c.args.out.now c.as_bytes.result.now c.extend_from_slice.new.self (flat_map status_words c.in-Statuses.list) c.put_statuses.new.out (codes "\n") c.extend_from_slice-in-Statuses.new.self (effect_line c.args.effect.now) c.in_ok-extend_from_slice-in-Statuses.ensures.ok (c.in_ok-put_statuses-in-Statuses.ensures ∙ ap (λ xs. c.extend_from_slice.new.self ++ flat_map status_words xs) c.as_slice.ensures) c.in_ok-extend_from_slice-in-Statuses-2.ensures.ok
    (statuses_line c.in-Statuses.session c.in-Statuses.list c.as_bytes.result.now (c.as_bytes.ensures.value ∙ c.in_ok-words-in-Statuses.ensures.ok) ∙ sym (ap effect_line c.in-Statuses.is))

pub returns-in_ok-put_settled-in-Promise : goal.returns-in_ok-put_settled-in-Promise
returns-in_ok-put_settled-in-Promise c =
    put_two c.args.out.now c.as_bytes-in-Promise.result.now c.extend_from_slice-in-Promise.new.self (settled_words c.in-Promise.how) c.put_settled.new.out (effect_line c.args.effect.now) c.in_ok-extend_from_slice-in-Promise.ensures.ok c.in_ok-put_settled-in-Promise.ensures
    (promise_line c.in-Promise.promise c.in-Promise.how c.as_bytes-in-Promise.result.now (c.as_bytes-in-Promise.ensures.value ∙ c.in_ok-words-in-Promise.ensures.ok) ∙ sym (ap effect_line c.in-Promise.is))
