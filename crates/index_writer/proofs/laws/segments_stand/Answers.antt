use Rattle.index_writer.proofs.Standing.{commits_stand, opened_stand, standing_stays}
use Rattle.index_writer.proofs.laws.segments_stand.Goals as goal

pub returns-clause-commit : goal.returns-clause-commit
returns-clause-commit c = commits_stand

pub returns-clause-opened : goal.returns-clause-opened
returns-clause-opened c = opened_stand

pub returns-clause-stay : goal.returns-clause-stay
returns-clause-stay c = standing_stays
