use Rattle.thread_writer.proofs.Pieces as pieces
use Rattle.thread_writer.proofs.laws.pieces_are_few.Goals as goal

pub returns : goal.returns
returns c = pieces.pieces_are_few
