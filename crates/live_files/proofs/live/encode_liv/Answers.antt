use Rattle.live_files.proofs.LiveWrite.{live_fits}
use Rattle.live_files.proofs.live.encode_liv.Goals as goal

pub returns-clause-fits : goal.returns-clause-fits
returns-clause-fits c = live_fits c.args.rows c.args.live.now.marks c.requires.rows c.requires.some
