use Rattle.std.proofs.Common.{◌≡◌, ◌∙◌, ℕ, List, length, get_or, slice_set, ap, subst, sym, arith, rules}
use Rattle.std.specs.List.{remove}
use Rattle.std.proofs.lemmas.List.{length-set, with_items_is}
use Rattle.merge_postings.specs.Tree.{HavePlayed, IsFirst, IsKeyed, Queued}
use Rattle.merge_postings.specs.Walk.{IsBelow, IsPassed, Waiting, waiting}
use Rattle.merge_postings.specs.declared.key.Key.{Key}
use Rattle.merge_postings.proofs.FirstOfAll.{passed_last, passed_on}
use Rattle.merge_postings.proofs.KeysBeside.{keyed_passed, keyed_removed}
use Rattle.merge_postings.proofs.queue.Queue.pass.Goals as goal

pub play_above-self-inside-requires-clause-played : goal.play_above-self-inside-requires-clause-played
play_above-self-inside-requires-clause-played c =
    let heads = c.self.inside.heads.items in
    let place : c.place-place.result ≡ c.self.inside.place = c.place-place.ensures ∙ ap (λ (q : Queued). q.place) (sym c.self.view_is) in
    record {
      old = heads;
      source = c.pass.new.self;
      played = subst (λ (k : ℕ). HavePlayed heads c.as_mut_slice.result.now k) (sym place)
          (subst (λ (l : List ℕ). HavePlayed heads l c.self.inside.place) (sym c.as_mut_slice.ensures.value) c.self.invariant.0);
      is = c.as_slice-heads.ensures.value;
    }

pub play_above-self-inside-requires-clause-keyed : goal.play_above-self-inside-requires-clause-keyed
play_above-self-inside-requires-clause-keyed c =
    let heads = c.self.inside.heads.items in
    let keys = c.self.inside.keys.items in
    let field = c.self.inside.field.now in
    let long : c.len.result ≡ length heads = search rules in
    let keyed : IsKeyed field (slice_set heads c.place-place.result c.pass.new.self) (slice_set keys c.place-place.result c.pass.new.key) =
    keyed_passed field heads keys c.place-place.result c.index_mut.result.now c.pass.new.self c.index.result.now c.pass.new.key c.self.invariant.2
    (omega (arith, c.if-place-len.false, long)) c.index_mut.ensures.value c.index.ensures (c.pass.ensures.key c.if-pass.true field) in (
      field,
      subst (λ (hs : List Waiting). IsKeyed field hs c.as_slice.result.now) (sym c.as_slice-heads.ensures.value)
          (subst (λ (ks : List Key). IsKeyed field (slice_set heads c.place-place.result c.pass.new.self) ks) (sym c.as_slice.ensures.value) keyed),
    )

pub invariant_of-self : goal.invariant_of-self
invariant_of-self c =
    let heads = c.self.inside.heads.items in
    let keys = c.self.inside.keys.items in
    let field = c.self.inside.field.now in
    let long : c.len.result ≡ length heads = search rules in
    let passed : List Waiting = slice_set heads c.place-place.result c.pass.new.self in
    let lost = c.play_above-self-inside.new.losers in
    let same : length passed ≡ length heads = length-set heads c.place-place.result c.pass.new.self in
    let played : HavePlayed passed lost c.play_above-self-inside.result =
    subst (λ (hs : List Waiting). HavePlayed hs lost c.play_above-self-inside.result) c.as_slice-heads.ensures.value c.play_above-self-inside.ensures in
    let count : length lost ≡ c.self.inside.losers.len = omega (arith, played.all, same, c.self.invariant.0.all, c.self.inside.losers.ok.0) in (
      subst (λ (l : List ℕ). HavePlayed passed l c.play_above-self-inside.result) (sym (with_items_is c.self.inside.losers lost count)) played,
      c.self.invariant.1 ∙ sym same,
      keyed_passed field heads keys c.place-place.result c.index_mut.result.now c.pass.new.self c.index.result.now c.pass.new.key c.self.invariant.2
          (omega (arith, c.if-place-len.false, long)) c.index_mut.ensures.value c.index.ensures (c.pass.ensures.key c.if-pass.true field),
    )

pub play_all-self-inside-requires-clause-keyed : goal.play_all-self-inside-requires-clause-keyed
play_all-self-inside-requires-clause-keyed c =
    let heads = c.self.inside.heads.items in
    let keys = c.self.inside.keys.items in
    let field = c.self.inside.field.now in
    let long : c.len.result ≡ length heads = search rules in
    let keyed : IsKeyed field (remove (slice_set heads c.place-place.result c.pass.new.self) c.place-place.result) (remove keys c.place-place.result) =
    keyed_removed field heads keys c.place-place.result c.pass.new.self c.self.invariant.2 (omega (arith, c.if-place-len.false, long)) in (
      field,
      subst (λ (hs : List Waiting). IsKeyed field hs c.as_slice-else-pass.result.now) (sym (c.as_slice-heads-else-pass.ensures.value ∙ c.remove.ensures.items))
          (subst (λ (ks : List Key). IsKeyed field (remove (slice_set heads c.place-place.result c.pass.new.self) c.place-place.result) ks) (sym (c.as_slice-else-pass.ensures.value ∙ c.remove-else-pass.ensures.items)) keyed),
    )

pub invariant_of-self-else-pass : goal.invariant_of-self-else-pass
invariant_of-self-else-pass c =
    let heads = c.self.inside.heads.items in
    let keys = c.self.inside.keys.items in
    let field = c.self.inside.field.now in
    let long : c.len.result ≡ length heads = search rules in
    let keyed : IsKeyed field (remove (slice_set heads c.place-place.result c.pass.new.self) c.place-place.result) (remove keys c.place-place.result) =
    keyed_removed field heads keys c.place-place.result c.pass.new.self c.self.invariant.2 (omega (arith, c.if-place-len.false, long)) in (
      subst (λ (hs : List Waiting). HavePlayed hs c.play_all-self-inside.new.losers.items c.play_all-self-inside.result) c.as_slice-heads-else-pass.ensures.value c.play_all-self-inside.ensures.played,
      c.play_all-self-inside.ensures.wins ∙ ap (λ (hs : List Waiting). length hs) c.as_slice-heads-else-pass.ensures.value,
      subst (λ (hs : List Waiting). IsKeyed field hs c.remove-else-pass.new.self.items) (sym c.remove.ensures.items)
          (subst (λ (ks : List Key). IsKeyed field (remove (slice_set heads c.place-place.result c.pass.new.self) c.place-place.result) ks) (sym c.remove-else-pass.ensures.items) keyed),
    )

pub returns-then-pass-clause-passed : goal.returns-then-pass-clause-passed
returns-then-pass-clause-passed c w first =
    let heads = c.self.inside.heads.items in
    let long : c.len.result ≡ length heads = search rules in
    let at : c.place-place.result ≡ c.self.inside.place = c.place-place.ensures ∙ ap (λ (q : Queued). q.place) (sym c.self.view_is) in
    let f = subst (λ (q : Queued). IsFirst q w) (sym c.self.view_is) first in
    let is : (d : Waiting) → get_or heads c.place-place.result d ≡ w = λ d. ap (λ (k : ℕ). get_or heads k d) at ∙ f.is d in
    let old : c.index_mut.result.now ≡ w = c.index_mut.ensures.value ∙ is c.index_mut.result.now in
    subst (λ (ws : List Waiting). IsPassed w ws (slice_set heads c.place-place.result c.pass.new.self)) (ap (λ (q : Queued). q.waiting) c.self.view_is)
    (passed_on heads c.place-place.result w c.pass.new.self (omega (arith, c.if-place-len.false, long)) is
    (ap (λ (v : Waiting). waiting v.rest v.numbers) (sym old) ∙ c.pass.ensures.next c.if-pass.true)
    (subst (λ (v : Waiting). IsBelow v.first.term c.pass.new.self.first.term) old (c.pass.ensures.rises c.if-pass.true)))

pub returns-else-pass-clause-passed : goal.returns-else-pass-clause-passed
returns-else-pass-clause-passed c w first =
    let heads = c.self.inside.heads.items in
    let long : c.len.result ≡ length heads = search rules in
    let at : c.place-place.result ≡ c.self.inside.place = c.place-place.ensures ∙ ap (λ (q : Queued). q.place) (sym c.self.view_is) in
    let f = subst (λ (q : Queued). IsFirst q w) (sym c.self.view_is) first in
    let is : (d : Waiting) → get_or heads c.place-place.result d ≡ w = λ d. ap (λ (k : ℕ). get_or heads k d) at ∙ f.is d in
    let old : c.index_mut.result.now ≡ w = c.index_mut.ensures.value ∙ is c.index_mut.result.now in
    subst (λ (ws : List Waiting). IsPassed w ws c.remove.new.self.items) (ap (λ (q : Queued). q.waiting) c.self.view_is)
    (subst (IsPassed w heads) (sym c.remove.ensures.items)
    (passed_last heads c.place-place.result w c.pass.new.self (omega (arith, c.if-place-len.false, long)) is
    (ap (λ (v : Waiting). waiting v.rest v.numbers) (sym old) ∙ c.pass.ensures.last c.if-pass.false)))
