use Rattle.std.proofs.Common.{◌≡◌, ◌∙◌, ◌<◌, ◌≤◌, ◌++◌, ℕ, List, Bool, map, sym, ap, subst}
use Rattle.frozen_packet.specs.Gathered.{AreReplaced, unmarked}
use Rattle.frozen_packet.specs.Updates.{term_delete, query_delete, change}
use Rattle.frozen_packet.specs.declared.updates.Change.{Change}
use Rattle.frozen_packet.proofs.Replacing.{gathered_same, gathered_numbers}
use Rattle.frozen_packet.proofs.Taking.{Numbers}
use Rattle.row_fates.specs.Fate.{SameFates}
use Rattle.frozen_packet.proofs.updates.Updates.gather.Goals as goal

pub returns-clause-same : goal.returns-clause-same
returns-clause-same c =
    let old = c.args.self.now in
    let marks : List Bool = c.in_ok-marks.marks.items in
    let left : c.from_vec.result ≡ unmarked old.changes marks =
    c.from_vec.ensures ∙ c.without_marked.ensures ∙ ap (λ (ss : List Change). unmarked ss c.deref.result.now) (c.into_vec.ensures ∙ c.replace-all.ensures.value) ∙ ap (unmarked old.changes) c.deref.ensures.value in
    let all : AreReplaced old.changes marks = subst (λ (ss : List Change). AreReplaced ss marks) c.as_slice.ensures c.in_ok-marks.ensures.replaced in
    subst (λ (ss : List Change). SameFates (map term_delete old.deletes ++ (map query_delete old.queries ++ map change ss)) (map term_delete old.deletes ++ (map query_delete old.queries ++ map change old.changes))) (sym left)
    (gathered_same c.fates_are_told.ensures old.deletes old.queries old.changes marks all)

pub returns-clause-numbers : goal.returns-clause-numbers
returns-clause-numbers c =
    let old = c.args.self.now in
    let marks : List Bool = c.in_ok-marks.marks.items in
    let left : c.from_vec.result ≡ unmarked old.changes marks =
    c.from_vec.ensures ∙ c.without_marked.ensures ∙ ap (λ (ss : List Change). unmarked ss c.deref.result.now) (c.into_vec.ensures ∙ c.replace-all.ensures.value) ∙ ap (unmarked old.changes) c.deref.ensures.value in
    let keeps : (P : ℕ → Type 0) → Numbers P (map term_delete old.deletes ++ (map query_delete old.queries ++ map change old.changes)) → Numbers P (map term_delete old.deletes ++ (map query_delete old.queries ++ map change c.from_vec.result)) =
    λ P h. subst (λ (ss : List Change). Numbers P (map term_delete old.deletes ++ (map query_delete old.queries ++ map change ss))) (sym left) (gathered_numbers P old.deletes old.queries old.changes marks h) in
    record { within = λ after upto h. keeps (λ n. (after < n) × (n ≤ upto)) h; below = λ upto h. keeps (λ n. n ≤ upto) h }
