use Rattle.pattern_map.proofs.BlockLemmas.{block_stands}
use Rattle.pattern_map.proofs.law.block_law.Goals as goal

pub returns : goal.returns
returns c = λ p size i s r place e. block_stands p.scheme p size i s r place e
