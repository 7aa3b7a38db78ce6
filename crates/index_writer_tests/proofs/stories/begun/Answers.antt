use Rattle.std.proofs.Common.{◌≡◌, ℕ, Bool, true, sym, ap, subst}
use Rattle.index_writer.specs.declared.writer.IndexWriter.{IndexWriter}
use Rattle.index_writer_tests.specs.Trials.{IsUnderWay}
use Rattle.index_writer_tests.proofs.stories.begun.Goals as goal

same_upto : {S : Type 0} (old new : IndexWriter S) (out : Bool) → new ≡ record old { state = record old.state { out = out } }
    → old.state.published.upto ≡ new.state.published.upto
same_upto {S} old new out is = sym (ap (λ (w : IndexWriter S). w.state.published.upto) is)

pub returns-clause-parts : goal.returns-clause-parts
returns-clause-parts c =
    subst (λ (base : ℕ). IsUnderWay base c.in_ok-into_parts.field-0) (same_upto c.args.writer.now c.begin_round.new.self true c.in_ok-begin_round.ensures.ok)
    (c.in_ok-into_parts.ensures c.args.writers c.args.writer.now.state c.in_ok-begin_round.ensures.begun)
