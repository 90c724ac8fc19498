use Rattle.loom_guard.proofs.laws.other_words_are_those_of_loom.Goals as goal

pub returns : goal.returns
returns c = λ tells told before now old new words result p other. p.others other
