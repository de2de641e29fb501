use Rattle.test_joins.proofs.tests.joins.run_all.Given as goal

abbrev pub decreases-loop-job : goal.decreases-loop-job
decreases-loop-job l = goal.left-loop-job l
