use Rattle.delete_queue.proofs.Examples.{is_delete_of_six}
use Rattle.test_operations.proofs.words.delete_of_six.Goals as goal

pub returns : goal.returns
returns c = is_delete_of_six
