-- Parts of the list that updates took.
use Rattle.std.proofs.Common.{◌≡◌, ℕ, ◌+◌, ◌<◌, ◌≤◌, List, [], ◌∷◌, ◌++◌, length, length-append, append-nil, append_assoc, refl, sym, ap, ◌∙◌, subst, arith}
use Rattle.node_words.specs.declared.entry.Entry.{Entry}
use Rattle.row_fates.specs.Fate.{Numbered, SameFates}
use Rattle.row_fates.proofs.Same.{same-append, same-same, same-trans}
use Rattle.frozen_packet.specs.declared.updates.Updates.{Updates}
use Rattle.frozen_packet.specs.Updates.{as_operations, entry_operation}
use Rattle.delete_queue.specs.Seats.{Knows}
use Rattle.delete_queue.proofs.Laws.{knows_stays, seen_stays}
use Rattle.delete_slice.specs.Entries.{Standing, HasEntry, HasEntries, operations_behind, own_number, numbers_behind}
use Rattle.delete_slice.specs.Taken.{KeepsBoundsOf, HaveUpTo, TakesPart, TakesEntry}
use Rattle.delete_slice.specs.Laws.{PartsChain, PartsStay, PartsStayWithin, SlicesStay}
use Rattle.delete_slice.proofs.Lists.{all_first, all_second, operations-append, numbers-append, numbers_within, entries-append, entries_stand}

-- no entry was taken yet
pub takes_none : (Stands : Standing) (base from : ℕ) (u : Updates) → HaveUpTo (base + from) u → TakesPart Stands base from from u u
takes_none Stands base from u upto = record {
  entries = [];
  ends = omega arith;
  stand = tt;
  fates = same-same (as_operations u) (as_operations u ++ []) (sym (append-nil (as_operations u)));
  bounds = λ after most held numbers. held;
  upto = upto;
}

fates_chain : (a b c xs ys : List Numbered) → SameFates b (a ++ xs) → SameFates c (b ++ ys) → SameFates c (a ++ (xs ++ ys))
fates_chain a b c xs ys ab bc =
    same-trans c (b ++ ys) (a ++ (xs ++ ys)) bc
    (same-trans (b ++ ys) ((a ++ xs) ++ ys) (a ++ (xs ++ ys)) (same-append b (a ++ xs) ys ys ab (λ row. refl))
    (same-same ((a ++ xs) ++ ys) (a ++ (xs ++ ys)) (append_assoc a xs ys)))

bounds_chain : (xs ys : List ℕ) (u v w : Updates) → KeepsBoundsOf xs u v → KeepsBoundsOf ys v w → KeepsBoundsOf (xs ++ ys) u w
bounds_chain xs ys u v w f g after upto held within =
    let P : ℕ → Type 0 = λ n. (after < n) × (n ≤ upto) in
    g after upto (f after upto held (all_first P xs ys within)) (all_second P xs ys within)

pub parts_chain : (Stands : Standing) → PartsChain Stands
parts_chain Stands base from mid to old between new f g =
    let gs = g.entries in let fs = f.entries in
    let len = length-append fs gs in let mid_is = f.ends in let to_is = g.ends in
    let at : mid ≡ from + length fs = sym f.ends in record {
      entries = fs ++ gs;
      ends = omega (arith, len, mid_is, to_is);
      stand = entries-append Stands from fs gs f.stand (subst (λ (p : ℕ). HasEntries Stands p gs) at g.stand);
      fates =
          subst (λ (ops : List Numbered). SameFates (as_operations new) (as_operations old ++ ops))
          (ap (λ (p : ℕ). operations_behind base from fs ++ operations_behind base p gs) at ∙ sym (operations-append base from fs gs))
          (fates_chain (as_operations old) (as_operations between) (as_operations new) (operations_behind base from fs) (operations_behind base mid gs) f.fates g.fates);
      bounds =
          subst (λ (ns : List ℕ). KeepsBoundsOf ns old new)
          (ap (λ (p : ℕ). numbers_behind base from fs ++ numbers_behind base p gs) at ∙ sym (numbers-append base from fs gs))
          (bounds_chain (numbers_behind base from fs) (numbers_behind base mid gs) old between new f.bounds g.bounds);
      upto = g.upto;
    }

pub parts_stand : (Stands Others : Standing) → ((place : ℕ) (words : List ℕ) → Stands place words → Others place words)
    → (base from to : ℕ) (old new : Updates) → TakesPart Stands base from to old new → TakesPart Others base from to old new
parts_stand Stands Others on base from to old new f = record {
  entries = f.entries;
  ends = f.ends;
  stand = entries_stand Stands Others on from f.entries f.stand;
  fates = f.fates;
  bounds = f.bounds;
  upto = f.upto;
}

pub slices_stay : SlicesStay
slices_stay s t slice ext is = record { order = is.order; from = seen_stays s t slice.from ext is.from; to = seen_stays s t slice.to ext is.to }

pub parts_stay : PartsStay
parts_stay s t base from to old new ext f = parts_stand (Knows s) (Knows t) (λ place words k. knows_stays s t place words ext k) base from to old new f

-- one entry is a part
pub takes_entry : (Stands : Standing) (base from : ℕ) (e : Entry) (old new : Updates) → HasEntry Stands (from + 1) e
    → SameFates (as_operations new) (as_operations old ++ entry_operation (base + (from + 1)) e) → KeepsBoundsOf (own_number (base + (from + 1)) e) old new
    → HaveUpTo (base + (from + 1)) new → TakesEntry Stands base from old new
takes_entry Stands base from e old new stand fates bounds upto = record {
  entries = e ∷ [];
  ends = refl;
  stand = (stand, tt);
  fates = subst (λ (ops : List Numbered). SameFates (as_operations new) (as_operations old ++ ops)) (sym (append-nil (entry_operation (base + (from + 1)) e))) fates;
  bounds = subst (λ (ns : List ℕ). KeepsBoundsOf ns old new) (sym (append-nil (own_number (base + (from + 1)) e))) bounds;
  upto = upto;
}

pub parts_stay_within : (Stands : Standing) → PartsStayWithin Stands
parts_stay_within Stands base from to after upto old new f held low high =
    let ends = f.ends in f.bounds after upto held (numbers_within base from after upto f.entries low (omega (arith, ends, high)))
