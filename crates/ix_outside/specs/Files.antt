-- The files of a store, and what its calls do to them.
use Rattle.std.specs.Prelude.{◌≡◌, ◌≢◌, ◌↔◌, ℕ, List, Option, Some, None, Contains, AllPairs, IsSome, ⊤}
use Rattle.std.proofs.Common.{subst, sym}
use Rattle.ix_base.specs.declared.file_name.FileName.{FileName}

-- the bytes of each file that is there, as reads give them
abbrev pub Files : Type 0
Files = FileName → Option (List ℕ)

-- the names are those of the files, each once
pub record Lists (files : Files) (names : List FileName) : Type 0 where
  pub each : (name : FileName) → Contains names name ↔ IsSome (files name)
  pub once : AllPairs ◌≢◌ names

-- every other file is as it was
abbrev pub SameBut : FileName → Files → Files → Type 0
SameBut name old new = (other : FileName) → other ≢ name → new other ≡ old other

-- the file has these bytes, and every other file is as it was
pub record Puts (name : FileName) (bytes : List ℕ) (old new : Files) : Type 0 where
  pub there : new name ≡ Some bytes
  pub others : SameBut name old new

-- the file is gone, and every other file is as it was
pub record Removes (name : FileName) (old new : Files) : Type 0 where
  pub gone : new name ≡ None
  pub others : SameBut name old new

-- the file has another name now, and every other file is as it was
pub record Renames («from» to : FileName) (old new : Files) : Type 0 where
  pub there : new to ≡ old «from»
  pub gone : new «from» ≡ None
  pub others : (other : FileName) → other ≢ «from» → other ≢ to → new other ≡ old other

abbrev pub Same : Files → Files → Type 0
Same old new = new ≡ old

-- Where a store tells its files, it goes on telling, and the change leads from the old ones to the new.
abbrev pub Changes : (Files → Files → Type 0) → Option Files → Option Files → Type 0
Changes change None new = ⊤
Changes change (Some old) None = ⊥
Changes change (Some old) (Some new) = change old new

-- what is read is what is there, where that is told
abbrev pub Reads : Option Files → FileName → Option (List ℕ) → Type 0
Reads None name found = ⊤
Reads (Some files) name found = found ≡ files name

-- what is told is this, where anything is told
abbrev pub Was : {A : Type 0} → Option A → A → Type 0
Was None x = ⊤
Was (Some y) x = y ≡ x

-- ---- one change after another

pub then : (change next both : Files → Files → Type 0) (a b c : Option Files)
    → ((x y z : Files) → change x y → next y z → both x z)
    → Changes change a b → Changes next b c → Changes both a c
then change next both None b c joined p q = tt
then change next both (Some x) (Some y) (Some z) joined p q = joined x y z p q
then change next both (Some x) (Some y) None joined p q = absurd q
then change next both (Some x) None c joined p q = absurd p

-- nothing changed
pub stays : (change : Files → Files → Type 0) (a b : Option Files) → ((x : Files) → change x x)
    → b ≡ a → Changes change a b
stays change a b same e = subst (λ (o : Option Files). Changes change a o) (sym e) (itself a)
  where
    itself : (o : Option Files) → Changes change o o
    itself None = tt
    itself (Some x) = same x

-- a change that implies another
pub onto : (change other : Files → Files → Type 0) (a b : Option Files)
    → ((x y : Files) → change x y → other x y) → Changes change a b → Changes other a b
onto change other None b implies p = tt
onto change other (Some x) (Some y) implies p = implies x y p
onto change other (Some x) None implies p = absurd p
