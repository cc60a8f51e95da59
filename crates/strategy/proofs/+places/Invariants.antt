use Rattle.strategy.proofs.+places.Given as goal

abbrev pub decreases-places : goal.decreases-places
decreases-places l = l.k
