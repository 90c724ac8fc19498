use Rattle.leaf_lambda.proofs.CopyLaws.{backed-copy}
use Rattle.leaf_lambda.proofs.laws.own_record_is_like.Goals as goal

pub returns : goal.returns
returns c = λ d disk s p bytes core backed at fresh there name is. backed-copy d disk s p bytes backed at fresh there name is (core.long s p at)
