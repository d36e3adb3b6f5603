-- `opening::open` meets its contract. The loop's invariant: the chores passed are opened, and their owners counted. A word that is 0
-- says that nobody finds the chore easy.
use Rattle.opening.proofs.Opens.{Opens}
use Rattle.opening.proofs.open.Given as goal

abbrev pub invariant-loop-c : goal.invariant-loop-c
invariant-loop-c l = Opens l.sheet l.c l.held l.owners l.prices l.likes
