use Rattle.delete_queue.proofs.Examples.{is_delete_of_five}
use Rattle.test_operations.proofs.words.delete_of_five.Goals as goal

pub returns : goal.returns
returns c = is_delete_of_five
