use Rattle.std.proofs.Common.{◌≡◌, ◌∙◌, ◌≤◌, ◌+◌, List, ◌∷◌, [], ◌++◌, ◌⊎◌, inl, inr, drop, length, get_or, sym, ap, Less, Equal, Greater, arith}
use Rattle.std.specs.Cmp.Lexicographic.{slice_cmp}
use Rattle.std.specs.Ordering.{nat_cmp}
use Rattle.std.proofs.lemmas.List.{get_or_default, take_rest}
use Rattle.ix_base.specs.Steps.{Named}
use Rattle.segment_core.specs.LiveRows.{with_numbers}
use Rattle.searcher.proofs.MergedNumbers.{next_less, next_equal, next_greater, rest_of_both}
use Rattle.searcher.proofs.numbers.merged.Goals as goal
use Rattle.searcher.proofs.numbers.merged.Goals.{then-loop-i-test+else-j-set, else-loop-i-test}

pub loop-i-preserved-in-Less : goal.loop-i-preserved-in-Less
loop-i-preserved-in-Less c =
    let own = c.args.own.now in
    let set = c.args.set.now in
    let i = c.loop-i.i in
    let j = c.loop-i.j in
    let inv = c.loop-i.invariant in
    let n = c.index-own-i-in-Less.result in
    let v = c.index-set-j.result in
    let name : c.as_str.result.now ≡ (get_or own i n).0 = c.as_str.ensures.bytes ∙ ap (λ (p : Named). p.0) (get_or_default own i c.index-own-i.result n c.loop-i-test.true) in
    let other : c.as_str-in-loop-i.result.now ≡ (get_or set j v).0 = c.as_str-in-loop-i.ensures.bytes in
    let order : slice_cmp nat_cmp (get_or own i n).0 (get_or set j v).0 ≡ Less = (λ k. slice_cmp nat_cmp (sym name k) (sym other k)) ∙ sym c.in-Less.ensures in
    record {
      own = omega arith;
      set = inv.set;
      made = ap (λ (l : List Named). l ++ with_numbers (drop j set) (drop (i + 1) own)) (c.in_ok-add-in-Less.ensures ∙ ap (λ (x : Named). c.loop-i.made.items ++ x ∷ []) c.index-own-i-in-Less.is)
          ∙ next_less own set c.loop-i.made.items i j n v c.loop-i-test.true c.if-j-set.true c.requires.own c.requires.set inv.made order;
    }

pub loop-i-preserved-in-Equal : goal.loop-i-preserved-in-Equal
loop-i-preserved-in-Equal c =
    let own = c.args.own.now in
    let set = c.args.set.now in
    let i = c.loop-i.i in
    let j = c.loop-i.j in
    let inv = c.loop-i.invariant in
    let n = c.index-own-i.result in
    let v = c.index-set-j-in-Equal.result in
    let name : c.as_str.result.now ≡ (get_or own i n).0 = c.as_str.ensures.bytes in
    let other : c.as_str-in-loop-i.result.now ≡ (get_or set j v).0 = c.as_str-in-loop-i.ensures.bytes ∙ ap (λ (p : Named). p.0) (get_or_default set j c.index-set-j.result v c.if-j-set.true) in
    let order : slice_cmp nat_cmp (get_or own i n).0 (get_or set j v).0 ≡ Equal = (λ k. slice_cmp nat_cmp (sym name k) (sym other k)) ∙ sym c.in-Equal.ensures in
    record {
      own = omega arith;
      set = omega arith;
      made = ap (λ (l : List Named). l ++ with_numbers (drop (j + 1) set) (drop (i + 1) own)) (c.in_ok-add-in-Equal.ensures ∙ ap (λ (x : Named). c.loop-i.made.items ++ x ∷ []) c.index-set-j-in-Equal.is)
          ∙ next_equal own set c.loop-i.made.items i j n v c.loop-i-test.true c.if-j-set.true c.requires.own c.requires.set inv.made order;
    }

pub loop-i-preserved : goal.loop-i-preserved
loop-i-preserved c =
    let own = c.args.own.now in
    let set = c.args.set.now in
    let i = c.loop-i.i in
    let j = c.loop-i.j in
    let inv = c.loop-i.invariant in
    let n = c.index-own-i.result in
    let v = c.index-set-j-in-Greater.result in
    let name : c.as_str.result.now ≡ (get_or own i n).0 = c.as_str.ensures.bytes in
    let other : c.as_str-in-loop-i.result.now ≡ (get_or set j v).0 = c.as_str-in-loop-i.ensures.bytes ∙ ap (λ (p : Named). p.0) (get_or_default set j c.index-set-j.result v c.if-j-set.true) in
    let order : slice_cmp nat_cmp (get_or own i n).0 (get_or set j v).0 ≡ Greater = (λ k. slice_cmp nat_cmp (sym name k) (sym other k)) ∙ sym c.in-Greater.ensures in
    record {
      own = inv.own;
      set = omega arith;
      made = ap (λ (l : List Named). l ++ with_numbers (drop (j + 1) set) (drop i own)) (c.in_ok-add-in-Greater.ensures ∙ ap (λ (x : Named). c.loop-i.made.items ++ x ∷ []) c.index-set-j-in-Greater.is)
          ∙ next_greater own set c.loop-i.made.items i j n v c.loop-i-test.true c.if-j-set.true c.requires.own c.requires.set inv.made order;
    }

pub returns : goal.returns
returns c =
    let own = c.args.own.now in
    let set = c.args.set.now in
    let i = c.loop-i.i in
    let j = c.loop-i.j in
    let ended : (length own ≤ i) ⊎ (length set ≤ j) = elim c.loop-i-test.branch [ then-loop-i-test+else-j-set w ↦ inr w.if-j-set.false | else-loop-i-test w ↦ inl w.loop-i-test.false ] in
    c.in_ok-add_all-2.ensures ∙ (λ k. (c.in_ok-add_all.ensures ∙ ap (λ (l : List Named). c.loop-i.made.items ++ l) (take_rest own i)) k ++ take_rest set j k)
    ∙ rest_of_both own set c.loop-i.made.items i j c.requires.set c.loop-i.invariant.made ended
