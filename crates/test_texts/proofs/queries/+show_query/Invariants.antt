use Rattle.test_texts.proofs.queries.+show_query.Given as goal

abbrev pub decreases-show_query : goal.decreases-show_query
decreases-show_query l = l.depth
