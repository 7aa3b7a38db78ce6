use Rattle.delete_queue.proofs.Examples.{is_add}
use Rattle.test_operations.proofs.words.add.Goals as goal

pub returns : goal.returns
returns c = is_add
