-- Updates that took a part, and whose settings are then gathered.
use Rattle.std.proofs.Common.{◌≡◌, ℕ, ◌+◌, ◌++◌, Result, Ok, Err, OnOk, OnErr, sym, subst}
use Rattle.row_fates.specs.Fate.{SameFates}
use Rattle.row_fates.proofs.Same.{same-trans}
use Rattle.frozen_packet.specs.declared.updates.Updates.{Updates}
use Rattle.frozen_packet.specs.Updates.{as_operations}
use Rattle.frozen_packet.specs.Gathered.{KeepsNumbers}
use Rattle.delete_slice.specs.Entries.{Standing, operations_behind}
use Rattle.delete_slice.specs.Taken.{TakesPart}

part_gathered : (Stands : Standing) (base from to : ℕ) (old mid new : Updates) → TakesPart Stands base from to old mid
    → SameFates (as_operations new) (as_operations mid) → KeepsNumbers mid new → TakesPart Stands base from to old new
part_gathered Stands base from to old mid new part same keeps = record {
  entries = part.entries;
  ends = part.ends;
  stand = part.stand;
  fates = same-trans (as_operations new) (as_operations mid) (as_operations old ++ operations_behind base from part.entries) same part.fates;
  bounds = λ after upto held numbers. keeps.within after upto (part.bounds after upto held numbers);
  upto = keeps.below (base + to) part.upto;
}

pub gathered_ok : {T E : Type 0} (r : Result T E) (Stands : Standing) (base from to : ℕ) (old mid new : Updates) → TakesPart Stands base from to old mid
    → OnOk r (SameFates (as_operations new) (as_operations mid)) → OnOk r (KeepsNumbers mid new) → OnOk r (TakesPart Stands base from to old new)
gathered_ok (Ok x) Stands base from to old mid new part same keeps = part_gathered Stands base from to old mid new part same keeps
gathered_ok (Err x) Stands base from to old mid new part same keeps = tt

pub gathered_err : {T E : Type 0} (r : Result T E) (P : Updates → Type 0) (mid new : Updates) → P mid → OnErr r (new ≡ mid) → OnErr r (P new)
gathered_err (Ok x) P mid new p e = tt
gathered_err (Err x) P mid new p e = subst P (sym e) p
