use Rattle.std.proofs.Common.{◌∙◌, ◌||◌, Bool, List, ap, subst, sym}
use Rattle.ix_base.proofs.GroupedLaws.{or_false}
use Rattle.ix_base.specs.declared.postings.Posting.{Posting}
use Rattle.merge_postings.specs.Gathering.{is_gathered}
use Rattle.merge_postings.specs.Renumbering.{IsFirstNumber, moved_at}
use Rattle.merge_postings.proofs.MovedSpots.{moved_none}
use Rattle.merge_postings.proofs.gathered.Gathered.add.Goals as goal

pub returns-in_default : goal.returns-in_default
returns-in_default c r x =
    or_false (is_gathered c.args.self.now r x)
    ∙ ap (λ (b : Bool). is_gathered c.args.self.now r x || b)
    (sym (ap (λ (rows : List Posting). moved_at c.args.numbers.now rows r x) c.as_slice-spots.ensures.places
    ∙ moved_none c.args.numbers.now c.as_slice-spots.result.now (subst (IsFirstNumber c.args.numbers.now c.as_slice-spots.result.now) c.in_default.is c.first_number.ensures) r x))
