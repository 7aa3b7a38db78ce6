use Rattle.std.proofs.Common.{rules, ◌≡◌, take, drop, sym, ◌∙◌}
use Rattle.ix_memory.proofs.Prefixes.{prefix_and_rest}
use Rattle.ix_memory.proofs.steady_source.SteadySource.take_prefix.Goals as goal

pub returns-clause-bytes : goal.returns-clause-bytes
returns-clause-bytes c =
    let same : take c.copy_prefix-count.result c.copy_prefix-count.new.buffer ≡ take c.copy_prefix-count.result (drop c.self.inside.at c.self.inside.bytes.items) = search rules in
    sym c.self.view_is ∙ prefix_and_rest _ _ _ _ same
