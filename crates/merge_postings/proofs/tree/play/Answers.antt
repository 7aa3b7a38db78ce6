use Rattle.std.proofs.Common.{◌≡◌, ◌∙◌, ◌+◌, ◌*◌, ℕ, List, length, ap, inl, inr}
use Rattle.merge_postings.specs.Tree.{winner_of}
use Rattle.merge_postings.proofs.Losers.{puts_loser}
use Rattle.merge_postings.proofs.TwoPlay.{first_plays}
use Rattle.merge_postings.proofs.tree.play.Goals as goal
use Rattle.merge_postings.proofs.tree.play.Goals.{then-first-left, else-first-left}

pub returns-clause-wins : goal.returns-clause-wins
returns-clause-wins c =
    let heads = c.args.heads.now in
    let wins = c.args.wins.now.items in
    let node = c.args.node in
    let left : c.winner_at-left.result ≡ winner_of wins (length heads) (2 * node) = c.winner_at-left.ensures ∙ ap (λ (l : List ℕ). winner_of l (length heads) (2 * node)) c.as_slice.ensures.value in
    let right : c.winner_at-right.result ≡ winner_of wins (length heads) (2 * node + 1) = c.winner_at-right.ensures ∙ ap (λ (l : List ℕ). winner_of l (length heads) (2 * node + 1)) c.as_slice-2.ensures.value in
    first_plays heads wins node c.winner_at-left.result c.winner_at-right.result c.first_of-first.result left right c.first_of-first.ensures

pub returns-clause-losers : goal.returns-clause-losers
returns-clause-losers c =
    let heads = c.args.heads.now in
    let wins = c.args.wins.now.items in
    let node = c.args.node in
    let left : c.winner_at-left.result ≡ winner_of wins (length heads) (2 * node) = c.winner_at-left.ensures ∙ ap (λ (l : List ℕ). winner_of l (length heads) (2 * node)) c.as_slice.ensures.value in
    let right : c.winner_at-right.result ≡ winner_of wins (length heads) (2 * node + 1) = c.winner_at-right.ensures ∙ ap (λ (l : List ℕ). winner_of l (length heads) (2 * node + 1)) c.as_slice-2.ensures.value in
    puts_loser wins c.args.losers.now.items (length heads) node c.winner_at-left.result c.winner_at-right.result c.first_of-first.result c.if-first-left.loser
    c.requires.above c.requires.within c.requires.wins.all left right c.first_of-first.ensures.of
    (elim c.if-first-left.branch [ then-first-left w ↦ inl (w.if-first-left.true, w.loser-is) | else-first-left w ↦ inr (w.if-first-left.false, w.loser-is) ])
