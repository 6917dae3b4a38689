use Rattle.key_vault.proofs.Once.{one_reading, never_broken}
use Rattle.key_vault.proofs.laws.a_file_has_one_reading.Goals as goal

pub returns-clause-one : goal.returns-clause-one
returns-clause-one c = one_reading

pub returns-clause-never_broken : goal.returns-clause-never_broken
returns-clause-never_broken c = never_broken
