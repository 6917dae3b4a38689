use Rattle.ctr_cbc.proofs.JoinLemmas.{block_of_first, block_of_second, before_of_first, before_of_second}
use Rattle.ctr_cbc.proofs.law.joined_chain_law.Goals as goal

pub returns : goal.returns
returns c = record {
  first = λ iv one two r. block_of_first one two r;
  second = λ iv one two r. block_of_second one two r;
  before_first = before_of_first;
  before_second = before_of_second;
}
