use Rattle.std.proofs.Common.{◌<◌}
use Rattle.ix_base.specs.Codec.{byte_at}
use Rattle.node_words.proofs.Forms.{byte_codec, rest_fits}
use Rattle.node_words.specs.Reads.{byte_alone}
use Rattle.node_words.proofs.reader.Reader.byte.Goals as goal

pub invariant_of-self : goal.invariant_of-self
invariant_of-self c = rest_fits (λ b. b < 256) byte_alone byte_at byte_codec c.self.inside.rest.now c.in_ok-byte.byte c.in_ok-byte.rest.now c.self.invariant c.in_ok-byte.ensures
