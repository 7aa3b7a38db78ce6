use Rattle.std.proofs.Common.{vec_len}
use Rattle.flush_control.proofs.released.Released.let_go.Given as goal

abbrev pub decreases-remains : goal.decreases-remains
decreases-remains l = vec_len l.self-inside.remains
