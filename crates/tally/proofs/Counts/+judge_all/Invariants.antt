use Rattle.tally.proofs.Counts.+judge_all.Given as goal

abbrev pub decreases-judge_all : goal.decreases-judge_all
decreases-judge_all g l = l.left
