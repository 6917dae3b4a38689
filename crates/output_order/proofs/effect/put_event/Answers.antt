use Rattle.std.proofs.Common.{ℕ, List, ◌++◌, ap, ◌∙◌, sym, codes}
use Rattle.output_order.specs.Log.{event_line}
use Rattle.output_order.proofs.Puts.{put_one, put_three, message_words}
use Rattle.output_order.proofs.effect.put_event.Goals as goal

pub returns-in_ok-extend_from_slice-in-Message-3 : goal.returns-in_ok-extend_from_slice-in-Message-3
returns-in_ok-extend_from_slice-in-Message-3 c =
    put_three c.args.out.now c.as_bytes.result.now c.extend_from_slice.new.self c.in-Message.text c.extend_from_slice-in-Message.new.self (codes "\n") c.extend_from_slice-in-Message-2.new.self (event_line c.args.event.now) c.in_ok-extend_from_slice-in-Message.ensures.ok (c.in_ok-extend_from_slice-in-Message-2.ensures.ok ∙ ap (λ (x : List ℕ). c.extend_from_slice.new.self ++ x) c.as_slice.ensures) c.in_ok-extend_from_slice-in-Message-3.ensures.ok
    (message_words c.in-Message.session c.in-Message.id c.in-Message.text c.as_bytes.result.now (c.as_bytes.ensures.value ∙ c.in_ok-words-in-Message.ensures.ok) ∙ sym (ap event_line c.in-Message.is))

pub returns-in_ok-extend_from_slice-in-KeyStatuses : goal.returns-in_ok-extend_from_slice-in-KeyStatuses
returns-in_ok-extend_from_slice-in-KeyStatuses c =
    put_one c.args.out.now c.as_bytes-in-KeyStatuses.result.now c.extend_from_slice-in-KeyStatuses.new.self (event_line c.args.event.now) c.in_ok-extend_from_slice-in-KeyStatuses.ensures.ok (c.as_bytes-in-KeyStatuses.ensures.value ∙ (c.in_ok-line-in-KeyStatuses.ensures.ok ∙ sym (ap event_line c.in-KeyStatuses.is)))

pub returns-in_ok-extend_from_slice-in-WaitingForKey : goal.returns-in_ok-extend_from_slice-in-WaitingForKey
returns-in_ok-extend_from_slice-in-WaitingForKey c =
    put_one c.args.out.now c.as_bytes-in-WaitingForKey.result.now c.extend_from_slice-in-WaitingForKey.new.self (event_line c.args.event.now) c.in_ok-extend_from_slice-in-WaitingForKey.ensures.ok (c.as_bytes-in-WaitingForKey.ensures.value ∙ (c.in_ok-line-in-WaitingForKey.ensures.ok ∙ sym (ap event_line c.in-WaitingForKey.is)))

pub returns-in_ok-extend_from_slice-in-Encrypted : goal.returns-in_ok-extend_from_slice-in-Encrypted
returns-in_ok-extend_from_slice-in-Encrypted c =
    put_one c.args.out.now c.as_bytes-in-Encrypted.result.now c.extend_from_slice-in-Encrypted.new.self (event_line c.args.event.now) c.in_ok-extend_from_slice-in-Encrypted.ensures.ok (c.as_bytes-in-Encrypted.ensures.value ∙ (c.in_ok-line-in-Encrypted.ensures ∙ sym (ap event_line c.in-Encrypted.is)))
