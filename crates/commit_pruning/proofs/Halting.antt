-- Calls that take steps, one after another.
use Rattle.std.proofs.Common.{◌≡◌, ℕ, ◌+◌, ◌<◌, List, [], ◌∷◌, ◌++◌, Option, Result, Ok, Err, inl, inr, refl, sym, ap, subst, ◌∙◌, take, drop, map, length, get_or, append_assoc}
use Rattle.std.proofs.lemmas.Grind.{take_at_read}
use Rattle.std.proofs.lemmas.List.{take-append-drop, map-append}
use Rattle.ix_base.specs.declared.file_name.FileName.{FileName}
use Rattle.ix_outside.specs.declared.step.Step.{Step}
use Rattle.ix_outside.specs.declared.step.Step.TheVariants.{Deleted, HalfDeleted, HalfRenamed, Renamed, Settled, Spoilt, Synced, Wrote}
use Rattle.ix_outside.specs.declared.store.StoreFault.{StoreFault}
use Rattle.ix_outside.specs.declared.store.StoreFault.TheVariants.{Failed, NoMemory}
use Rattle.ix_outside.specs.Disk.{Disk, IsPartOf, taken, Stops, Told, TakesOn}
use Rattle.ix_outside.proofs.DiskLaws.{taken_then, stops_done, stops_early, stops_late, told_then, told_onto}
use Rattle.std.specs.List.{AllByRecursion}
use Rattle.commit_point.proofs.StepLaws.{by_none, by_one, by_then}
use Rattle.commit_pruning.specs.Pruning.{Deletes, OnlyDeletes}
use Rattle.commit_pruning.specs.Deleting.{Pauses, HaltsAt, Halts, delete_steps, prune_steps}

halts_one : (U : Type 0) (step : Step) (old new : Disk) (fault : StoreFault) → TakesOn {T = U} step old new (Err fault) → HaltsAt fault (step ∷ []) old new
halts_one U step old new Failed failing = inl failing
halts_one U step old new NoMemory same = record { front = []; behind = step ∷ []; are = refl; is = same }

halts_late : (xs ys : List Step) (a b c : Disk) (fault : StoreFault) → b ≡ taken xs a → HaltsAt fault ys b c → HaltsAt fault (xs ++ ys) a c
halts_late xs ys a b c Failed is second = stops_late xs ys a c (subst (λ (d : Disk). Stops ys d c) is second)
halts_late xs ys a b c NoMemory is second = record {
  front = xs ++ second.front;
  behind = second.behind;
  are = ap (λ (l : List Step). xs ++ l) second.are ∙ sym (append_assoc xs second.front second.behind);
  is = second.is ∙ (ap (taken second.front) is ∙ sym (taken_then xs second.front a));
}

halts_early : (xs ys : List Step) (a b : Disk) (fault : StoreFault) → HaltsAt fault xs a b → HaltsAt fault (xs ++ ys) a b
halts_early xs ys a b Failed stops = stops_early xs ys a b stops
halts_early xs ys a b NoMemory pauses = record {
  front = pauses.front;
  behind = pauses.behind ++ ys;
  are = ap (λ (l : List Step). l ++ ys) pauses.are ∙ append_assoc pauses.front pauses.behind ys;
  is = pauses.is;
}

-- ---- deletes

deletes_more : (names : List FileName) (i : ℕ) (name : FileName) → i < length names → name ≡ get_or names i name → map Deleted (take (i + 1) names) ≡ map Deleted (take i names) ++ Deleted name ∷ []
deletes_more names i name lt is =
    let e : take (i + 1) names ≡ take i names ++ name ∷ [] = (take_at_read names i name lt).1 ∙ ap (λ (n : FileName). take i names ++ n ∷ []) (sym is) in
    ap (map Deleted) e ∙ map-append Deleted (take i names) (name ∷ [])

deletes_split : (names : List FileName) (i : ℕ) (name : FileName) → i < length names → name ≡ get_or names i name
    → (map Deleted (take i names) ++ Deleted name ∷ []) ++ map Deleted (drop (i + 1) names) ≡ map Deleted names
deletes_split names i name lt is =
    ap (λ (s : List Step). s ++ map Deleted (drop (i + 1) names)) (sym (deletes_more names i name lt is))
    ∙ (sym (map-append Deleted (take (i + 1) names) (drop (i + 1) names))
    ∙ ap (map Deleted) (take-append-drop (i + 1) names))

-- one file more was deleted
pub delete_more : (names : List FileName) (i : ℕ) (name : FileName) (a b c : Option Disk) → i < length names → name ≡ get_or names i name
    → Told (λ old now. now ≡ taken (map Deleted (take i names)) old) a b → Told (λ old now. now ≡ Deleted name ∷ old) b c
    → Told (λ old now. now ≡ taken (map Deleted (take (i + 1) names)) old) a c
delete_more names i name a b c lt is first second =
    told_then _ _ (λ old now. now ≡ taken (map Deleted (take (i + 1) names)) old) a b c
    (λ x y z p q. q ∙ (ap (λ (d : Disk). Deleted name ∷ d) p ∙ (sym (taken_then (map Deleted (take i names)) (Deleted name ∷ []) x) ∙ ap (λ (s : List Step). taken s x) (sym (deletes_more names i name lt is)))))
    first second

-- a file was not deleted
pub delete_halts : (U : Type 0) (names : List FileName) (i : ℕ) (name : FileName) (fault : StoreFault) (a b c : Option Disk) → i < length names → name ≡ get_or names i name
    → Told (λ old now. now ≡ taken (map Deleted (take i names)) old) a b → Told (λ old now. TakesOn {T = U} (Deleted name) old now (Err fault)) b c
    → Told (λ old now. HaltsAt fault (map Deleted names) old now) a c
delete_halts U names i name fault a b c lt is first second =
    told_then _ _ (λ old now. HaltsAt fault (map Deleted names) old now) a b c
    (λ x y z p q.
    subst (λ (s : List Step). HaltsAt fault s x z) (deletes_split names i name lt is)
    (halts_early (map Deleted (take i names) ++ Deleted name ∷ []) (map Deleted (drop (i + 1) names)) x z fault
    (halts_late (map Deleted (take i names)) (Deleted name ∷ []) x y z fault p (halts_one U (Deleted name) y z fault q))))
    first second

-- ---- one call after another, where a store tells

late : {T : Type 0} (xs ys : List Step) (x y z : Disk) (r : Result T StoreFault) → y ≡ taken xs x → Halts ys y z r → Halts (xs ++ ys) x z r
late xs ys x y z (Ok v) is second = second ∙ (ap (taken ys) is ∙ sym (taken_then xs ys x))
late xs ys x y z (Err fault) is second = halts_late xs ys x y z fault is second

one : {T : Type 0} (step : Step) (x y : Disk) (r : Result T StoreFault) → TakesOn step x y r → Halts (step ∷ []) x y r
one step x y (Ok v) is = is
one {T} step x y (Err fault) taking = halts_one T step x y fault taking

pub told_late : {T : Type 0} (xs ys : List Step) (a b c : Option Disk) (r : Result T StoreFault) → Told (λ old now. now ≡ taken xs old) a b → Told (λ old now. Halts ys old now r) b c
    → Told (λ old now. Halts (xs ++ ys) old now r) a c
told_late xs ys a b c r first second = told_then _ _ (λ old now. Halts (xs ++ ys) old now r) a b c (λ x y z p q. late xs ys x y z r p q) first second

pub told_early : (xs ys : List Step) (a b : Option Disk) (fault : StoreFault) → Told (λ old now. HaltsAt fault xs old now) a b → Told (λ old now. HaltsAt fault (xs ++ ys) old now) a b
told_early xs ys a b fault first = told_onto _ (λ old now. HaltsAt fault (xs ++ ys) old now) a b (λ x y p. halts_early xs ys x y fault p) first

pub told_one : {T : Type 0} (step : Step) (a b : Option Disk) (r : Result T StoreFault) → Told (λ old now. TakesOn step old now r) a b → Told (λ old now. Halts (step ∷ []) old now r) a b
told_one step a b r taking = told_onto _ (λ old now. Halts (step ∷ []) old now r) a b (λ x y p. one step x y r p) taking

-- ---- a stop

halts_stops : (steps : List Step) (x y : Disk) (fault : StoreFault) → HaltsAt fault steps x y → Stops steps x y
halts_stops steps x y Failed stops = stops
halts_stops steps x y NoMemory pauses =
    subst (λ (s : List Step). Stops s x y) (sym pauses.are) (stops_early pauses.front pauses.behind x y (stops_done pauses.front x y pauses.is))

-- calls that took all steps have stopped behind them, and calls that were out of memory have stopped between two
pub told_done_stops : (gone rest seen others : List FileName) (a b : Option Disk) → seen ≡ gone → others ≡ rest
    → Told (λ old now. now ≡ taken (prune_steps seen others) old) a b → Told (Stops (prune_steps gone rest)) a b
told_done_stops gone rest seen others a b first second done =
    subst (λ (xs : List FileName). Told (Stops (prune_steps xs rest)) a b) first
    (subst (λ (ys : List FileName). Told (Stops (prune_steps seen ys)) a b) second
    (told_onto _ (Stops (prune_steps seen others)) a b (λ x y is. stops_done (prune_steps seen others) x y is) done))

pub told_pause_stops : (gone rest seen others : List FileName) (a b : Option Disk) → seen ≡ gone → others ≡ rest
    → Told (Pauses (prune_steps seen others)) a b → Told (Stops (prune_steps gone rest)) a b
told_pause_stops gone rest seen others a b first second paused =
    subst (λ (xs : List FileName). Told (Stops (prune_steps xs rest)) a b) first
    (subst (λ (ys : List FileName). Told (Stops (prune_steps seen ys)) a b) second
    (told_onto _ (Stops (prune_steps seen others)) a b (λ x y is. halts_stops (prune_steps seen others) x y NoMemory is) paused))

-- ---- only deletes

abbrev AreDeletes : List Step → Type 0
AreDeletes steps = AllByRecursion Deletes steps

deletes_are : (names : List FileName) (more : List Step) → AreDeletes more → AreDeletes (map Deleted names ++ more)
deletes_are [] more are = are
deletes_are (n ∷ ns) more are = (tt, deletes_are ns more are)

prune_deletes : (gone rest : List FileName) → AreDeletes (prune_steps gone rest)
prune_deletes gone rest =
    subst (λ (steps : List Step). AllByRecursion Deletes steps) (sym (append_assoc (map Deleted gone) (Settled ∷ []) (delete_steps rest)))
    (deletes_are gone (Settled ∷ delete_steps rest) (tt, deletes_are rest (Settled ∷ []) (tt, tt)))

part_deletes : (step part : Step) → Deletes step → IsPartOf step part → Deletes part
part_deletes (Deleted name) part is (inl same) = subst Deletes (sym same) tt
part_deletes (Deleted name) part is (inr same) = subst Deletes (sym same) tt
part_deletes (HalfDeleted name) part is none = absurd none
part_deletes Settled part is none = absurd none
part_deletes (Wrote name bytes) part is any = absurd is
part_deletes (Spoilt name found) part is any = absurd is
part_deletes (Synced name) part is any = absurd is
part_deletes (Renamed «from» to) part is any = absurd is
part_deletes (HalfRenamed «from» to) part is any = absurd is

stops_delete : (steps : List Step) (x y : Disk) → AreDeletes steps → Stops steps x y → OnlyDeletes x y
stops_delete [] x y are same = subst (OnlyDeletes x) (sym same) (by_none (λ step older. Deletes step) x)
stops_delete (s ∷ ss) x y are (inl (inl same)) = subst (OnlyDeletes x) (sym same) (by_none (λ step older. Deletes step) x)
stops_delete (s ∷ ss) x y are (inl (inr part)) = by_one (λ step older. Deletes step) part.0 x y part.2 (part_deletes s part.0 are.0 part.1)
stops_delete (s ∷ ss) x y are (inr later) =
    by_then (λ step older. Deletes step) x (s ∷ x) y (by_one (λ step older. Deletes step) s x (s ∷ x) refl are.0) (stops_delete ss (s ∷ x) y are.1 later)

pub told_deletes : (gone rest : List FileName) (a mid b : Option Disk) → mid ≡ a → Told (Stops (prune_steps gone rest)) mid b → Told OnlyDeletes a b
told_deletes gone rest a mid b same stops =
    subst (λ (o : Option Disk). Told OnlyDeletes o b) same
    (told_onto (Stops (prune_steps gone rest)) OnlyDeletes mid b (λ x y is. stops_delete (prune_steps gone rest) x y (prune_deletes gone rest) is) stops)
