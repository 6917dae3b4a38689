-- A key that a step ended, as the pair of its session and its key id.
use Rattle.std.specs.Prelude.{ℕ, List}
use Rattle.key_sessions.specs.declared.lost.Lost.{Lost}

-- the session and the key id
abbrev pub pair_of : Lost → ℕ × List ℕ
pair_of l = (l.session, l.kid)
