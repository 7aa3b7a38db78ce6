use Rattle.thread_writer.proofs.Pieces as pieces
use Rattle.thread_writer.proofs.laws.pieces_have_all.Goals as goal

pub returns : goal.returns
returns c = pieces.pieces_have_all
