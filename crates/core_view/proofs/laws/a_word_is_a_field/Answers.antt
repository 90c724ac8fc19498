use Rattle.core_view.proofs.Words.{word-held}
use Rattle.core_view.proofs.laws.a_word_is_a_field.Goals as goal

pub returns : goal.returns
returns c = λ d disk s p i w old core at. word-held d disk core s p i w old at
