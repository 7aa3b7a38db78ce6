use Rattle.std.proofs.Common.{◌≡◌, ◌∙◌, ◌+◌, ◌-◌, ◌<◌, ◌≤◌, ℕ, List, length, ap, subst, arith}
use Rattle.merge_postings.specs.Tree.{winner_of}
use Rattle.merge_postings.proofs.Losers.{HaveLostFrom, lost_end, lost_start, lost_step}
use Rattle.merge_postings.proofs.Playing.{IsPlayedFrom, from_start, from_step}
use Rattle.merge_postings.proofs.tree.play_all.Goals as goal

pub nodes-init : goal.nodes-init
nodes-init c = record {
  upto = omega arith;
  played = from_start c.args.heads.now c.args.wins.now.items c.requires.wins;
  lost = lost_start (length c.args.heads.now) c.args.wins.now.items c.args.losers.now.items c.requires.losers;
}

pub nodes-preserved : goal.nodes-preserved
nodes-preserved c =
    let heads = c.args.heads.now in
    let wins = c.nodes.wins.items in
    let losers = c.nodes.losers.items in
    let node : ℕ = c.nodes.node - 1 in
    let more : c.nodes.node ≡ node + 1 = omega (arith, c.nodes-test.true) in
    let some : 1 ≤ node = omega (arith, c.nodes-test.true) in
    let below : node < length heads = omega (arith, c.nodes-test.true, c.nodes.invariant.upto) in
    record {
      upto = omega (arith, c.nodes.invariant.upto);
      played = from_step heads wins c.play.new.wins.items node some below (subst (λ (k : ℕ). IsPlayedFrom k heads wins) more c.nodes.invariant.played) c.play.ensures.wins;
      lost = lost_step heads wins c.play.new.wins.items losers c.play.new.losers.items node some below
          (subst (λ (k : ℕ). HaveLostFrom k (length heads) wins losers) more c.nodes.invariant.lost) c.play.ensures.wins c.play.ensures.losers;
    }

pub returns-clause-played : goal.returns-clause-played
returns-clause-played c =
    lost_end c.args.heads.now c.nodes.wins.items c.nodes.losers.items c.nodes.node c.winner_at.result (omega (arith, c.nodes-test.false)) c.nodes.invariant.played c.nodes.invariant.lost
    (c.winner_at.ensures ∙ ap (λ (l : List ℕ). winner_of l (length c.args.heads.now) 1) c.as_slice.ensures.value)

pub returns-clause-wins : goal.returns-clause-wins
returns-clause-wins c = c.nodes.invariant.played.within.all
