use Rattle.st80_compile.proofs.steps.+put_stores.Given as goal

abbrev pub decreases-put_stores : goal.decreases-put_stores
decreases-put_stores l = l.count
