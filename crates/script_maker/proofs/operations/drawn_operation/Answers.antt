use Rattle.std.proofs.Common.{rules}
use Rattle.script_maker.specs.Operations.{drawn_operation}
use Rattle.script_maker.proofs.operations.drawn_operation.Goals as goal

pub returns-in_ok-document_of-in-0-to-3 : goal.returns-in_ok-document_of-in-0-to-3
unfolding drawn_operation
returns-in_ok-document_of-in-0-to-3 c = search rules

pub returns-in_ok-document_of-in-4 : goal.returns-in_ok-document_of-in-4
unfolding drawn_operation
returns-in_ok-document_of-in-4 c = search rules

pub returns-in_ok-tag_term-in-5 : goal.returns-in_ok-tag_term-in-5
unfolding drawn_operation
returns-in_ok-tag_term-in-5 c = search rules

pub returns-in_ok-query_of-in_default : goal.returns-in_ok-query_of-in_default
unfolding drawn_operation
returns-in_ok-query_of-in_default c = search rules

pub returns-in-6 : goal.returns-in-6
unfolding drawn_operation
returns-in-6 c = search rules
