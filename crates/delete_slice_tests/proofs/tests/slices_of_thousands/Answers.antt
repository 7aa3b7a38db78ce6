use Rattle.delete_slice.proofs.Parts.{slices_stay}
use Rattle.delete_slice_tests.proofs.tests.slices_of_thousands.Goals as goal

pub advance-requires-2-clause-slice : goal.advance-requires-2-clause-slice
advance-requires-2-clause-slice g c =
    slices_stay c.numbers_by_seat.new.seat c.link_fives.new.seat c.start-rest.result c.link_fives.ensures.extends c.start-rest.ensures.slice
