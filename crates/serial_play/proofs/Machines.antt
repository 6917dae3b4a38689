-- What the queued work makes of the machine does not depend on the effects before it.
use Rattle.std.proofs.Common.{zero, suc, ◌≡◌, ℕ, refl, ap, ◌∙◌, sym}
use Rattle.key_sessions.specs.Machine.{Machine}
use Rattle.key_sessions.specs.Steps.{Done, unmoved}
use Rattle.serial_play.specs.Served.{and_then, next_step, weight, serve, served}
use Rattle.serial_play.proofs.ServedAll.{served_step, served_idle}

serve_alike : (n : ℕ) (d e : Done) → d.machine ≡ e.machine → (serve n d).machine ≡ (serve n e).machine
unfolding serve
serve_alike zero d e same = same
serve_alike (suc n) d e same = serve_alike n (and_then d next_step) (and_then e next_step) (ap (λ (m : Machine). (next_step m).machine) same)

-- of two machines that are the same the same comes
pub served_alike : (d e : Done) → d.machine ≡ e.machine → (served d).machine ≡ (served e).machine
served_alike d e same = serve_alike (weight d.machine) d e same ∙ ap (λ (n : ℕ). (serve n e).machine) (ap weight same)

-- what the queued work makes of a machine
abbrev pub after_work : Machine → Machine
after_work m = (served (unmoved m)).machine

-- one step of it first changes nothing
pub work_more : (m n : Machine) → n ≡ (next_step m).machine → after_work n ≡ after_work m
work_more m n is = ap after_work is ∙ (served_alike (unmoved (next_step m).machine) (and_then (unmoved m) next_step) refl ∙ sym (ap (λ (d : Done). d.machine) (served_step (unmoved m))))
