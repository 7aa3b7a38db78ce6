use Rattle.ram_postings.proofs.FrozenTerms.{empty_list}
use Rattle.ram_postings.proofs.freezing.has_no_place.Goals as goal

pub returns : goal.returns
returns c = empty_list c.args.rows.now c.as_slice.result.now c.is_empty.result c.as_slice.ensures.places c.is_empty.ensures
