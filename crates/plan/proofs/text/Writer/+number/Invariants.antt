-- The cycle {number}: the measure is the number itself.
use Rattle.plan.proofs.text.Writer.+number.Given as goal

abbrev pub decreases-number : goal.decreases-number
decreases-number l = l.value
