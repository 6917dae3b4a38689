use Rattle.std.proofs.Common.{◌≡◌, ◌++◌, drop, IsTrue}
use Rattle.std.specs.List.{list_all}
use Rattle.license_desk.specs.Rows.{has_moments}
use Rattle.license_desk.specs.Answer.{given}
use Rattle.license_desk.proofs.answers.given.Given as goal

abbrev pub invariant-loop-kid : goal.invariant-loop-kid
invariant-loop-kid l = record {
  rows : given l.desk l.moment l.kids ≡ l.rows ++ given l.desk l.moment (drop l.kid-index l.kids);
  moments : IsTrue (list_all (λ row. has_moments row.1) l.rows);
}
