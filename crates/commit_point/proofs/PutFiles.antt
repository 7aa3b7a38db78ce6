-- Files that are written, or synced, one after another.
use Rattle.std.proofs.Common.{◌≡◌, inl, ℕ, ◌+◌, ◌<◌, List, [], ◌∷◌, ◌++◌, Option, Err, sym, ap, subst, ◌∙◌, take, drop, length, get_or, append_assoc}
use Rattle.std.specs.Prelude.{map}
use Rattle.std.proofs.lemmas.Grind.{take_at_read}
use Rattle.std.proofs.lemmas.List.{map-append, take-append-drop}
use Rattle.ix_outside.specs.declared.step.Step.{Step}
use Rattle.ix_outside.specs.declared.store.StoreFault.{StoreFault}
use Rattle.ix_outside.specs.declared.store.StoreFault.TheVariants.{Failed, NoMemory}
use Rattle.ix_outside.specs.Disk.{Disk, taken, Failing, Stops, TakesOn, Told}
use Rattle.ix_outside.proofs.DiskLaws.{taken_then, stops_late, told_then}
use Rattle.commit_point.specs.Publishing.{File}

failing : (step : Step) (fault : StoreFault) (x y : Disk) → TakesOn {T = Unit {0}} step x y (Err fault) → Failing step x y
failing step Failed x y part = part
failing step NoMemory x y same = inl same

module _ (step : File → Step) where
  steps_more : (files : List File) (i : ℕ) (file : File) → i < length files → file ≡ get_or files i file
      → map step (take (i + 1) files) ≡ map step (take i files) ++ step file ∷ []
  steps_more files i file lt is =
      let e : take (i + 1) files ≡ take i files ++ file ∷ [] = (take_at_read files i file lt).1 ∙ ap (λ (f : File). take i files ++ f ∷ []) (sym is) in
      ap (map step) e ∙ map-append step (take i files) (file ∷ [])

  steps_split : (files : List File) (i : ℕ) (file : File) → i < length files → file ≡ get_or files i file
      → map step (take i files) ++ (step file ∷ map step (drop (i + 1) files)) ≡ map step files
  steps_split files i file lt is =
      sym (append_assoc (map step (take i files)) (step file ∷ []) (map step (drop (i + 1) files)))
      ∙ ap (λ (s : List Step). s ++ map step (drop (i + 1) files)) (sym (steps_more files i file lt is))
      ∙ sym (map-append step (take (i + 1) files) (drop (i + 1) files))
      ∙ ap (map step) (take-append-drop (i + 1) files)

  -- the step of one file more was taken
  pub one_more : (files : List File) (i : ℕ) (file : File) (a b c : Option Disk) → i < length files → file ≡ get_or files i file
      → Told (λ old now. now ≡ taken (map step (take i files)) old) a b → Told (λ old now. now ≡ step file ∷ old) b c
      → Told (λ old now. now ≡ taken (map step (take (i + 1) files)) old) a c
  one_more files i file a b c lt is first second =
      told_then _ _ (λ old now. now ≡ taken (map step (take (i + 1) files)) old) a b c
      (λ x y z p q. q ∙ ap (λ (d : Disk). step file ∷ d) p ∙ sym (taken_then (map step (take i files)) (step file ∷ []) x)
      ∙ ap (λ (s : List Step). taken s x) (sym (steps_more files i file lt is)))
      first second

  -- the step of a file failed
  pub one_fails : (files : List File) (i : ℕ) (file : File) (fault : StoreFault) (a b c : Option Disk) → i < length files → file ≡ get_or files i file
      → Told (λ old now. now ≡ taken (map step (take i files)) old) a b → Told (λ old now. TakesOn {T = Unit {0}} (step file) old now (Err fault)) b c
      → Told (λ old now. Stops (map step files) old now) a c
  one_fails files i file fault a b c lt is first second =
      told_then _ _ (λ old now. Stops (map step files) old now) a b c
      (λ x y z p q. subst (λ (s : List Step). Stops s x z) (steps_split files i file lt is)
      (stops_late (map step (take i files)) _ x z (inl (subst (λ (d : Disk). Failing (step file) d z) p (failing (step file) fault y z q)))))
      first second
