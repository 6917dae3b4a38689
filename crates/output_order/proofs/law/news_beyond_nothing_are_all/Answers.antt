use Rattle.output_order.proofs.Beyond.{all_is_news}
use Rattle.output_order.proofs.law.news_beyond_nothing_are_all.Goals as goal

pub returns : goal.returns
returns c = all_is_news
