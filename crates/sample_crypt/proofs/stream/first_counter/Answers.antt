use Rattle.sample_crypt.proofs.stream.first_counter.Goals as goal

pub returns-in-Eight : goal.returns-in-Eight
returns-in-Eight c = λ key n. rw (c.padded.ensures.value, c.in-Eight.is) (c.short_iv_law.ensures key c.in-Eight.bytes n c.padded.ensures.size)
