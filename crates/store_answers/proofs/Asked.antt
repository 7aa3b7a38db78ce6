-- The commit that is asked for, and what is said where there is none.
use Rattle.std.proofs.Common.{◌≡◌, inl, inr, ◌∙◌, ℕ, ◌-◌, ◌<◌, ◌≤◌, Bool, true, false, cond, eqb, List, [], ◌∷◌, length, get_or, Option, Some, None, Result, Ok, Err, refl, sym, ap, subst, arith}
use Rattle.std.specs.Prelude.{◌↔◌, AllPairs, Contains, IfErr, IfNone, IfOk, IfSome, IsSome, slice_get, unwrap_or}
use Rattle.std.proofs.lemmas.Option.{get_or_from_slice_get, slice_get_within, slice_get-get_or}
use Rattle.std.proofs.lemmas.Bool.{cases_lt, eq-eqb, eqb-true}
use Rattle.std.proofs.lemmas.List.Elements.{All-contains}
use Rattle.ix_base.specs.declared.damaged.Damaged.{Damaged}
use Rattle.ix_base.specs.declared.file_name.FileName.TheVariants.{Commit}
use Rattle.ix_outside.specs.Files.{Files}
use Rattle.commit_point.specs.Loading.{IsOutside}
use Rattle.commit_point.specs.declared.fault.OpenFault.{OpenFault}
use Rattle.commit_point.specs.declared.fault.OpenFault.TheVariants as opening
use Rattle.store_answers.proofs.Told.{Numbers, same_files}
use Rattle.store_answers.specs.Asking.{IsAmong, LacksAmong, IsAsked, LacksAsked, IsAskedIn, IsNoSuchOr, TellsLack, missing}

none_is_no : {A : Type 0} (o : Option (List ℕ)) → o ≡ None → IsSome o → A
none_is_no None e some = absurd cc
none_is_no (Some x) e some = absurd cc

none_or : (o : Option (List ℕ)) → (IsSome o → ⊥) → o ≡ None
none_or None h = refl
none_or (Some x) h = absurd (h refl)

-- ---- one commit is asked for

pub one_asked : (files : Files) (named : Option ℕ) (a b : ℕ) → IsAsked files named a → IsAsked files named b → a ≡ b
one_asked files (Some n) a b p q = p.0 ∙ sym q.0
one_asked files None a b p q = omega (arith, p.1 b q.0, q.1 a p.0)

not_both : {A : Type 0} (files : Files) (named : Option ℕ) (s : ℕ) → IsAsked files named s → LacksAsked files named → A
not_both files (Some n) s asked lacks = none_is_no (files (Commit n)) lacks (subst (λ (t : ℕ). IsSome (files (Commit t))) asked.0 asked.1)
not_both files None s asked lacks = none_is_no (files (Commit s)) (lacks s) asked.0

pub asked_is : (told : Option Files) (named : Option ℕ) (s t : ℕ) (files : Files) → told ≡ Some files → IsAskedIn told named s → IsAsked files named t → t ≡ s
asked_is told named s t files is found asked =
    let same : files ≡ found.0 = same_files told files found.0 is found.1 in
    one_asked files named t s asked (subst (λ (f : Files). IsAsked f named s) (sym same) found.2)

-- ---- the last of rising numbers

pub last_among : (numbers : List ℕ) (named r : Option ℕ) → named ≡ None → AllPairs ◌<◌ numbers → r ≡ slice_get numbers (length numbers - 1) → IfSome r (IsAmong numbers named)
last_among numbers named None none rise is = tt
last_among numbers named (Some x) none rise is =
    let there : slice_get numbers (length numbers - 1) ≡ Some x = sym is in
    let within : length numbers - 1 < length numbers = slice_get_within numbers (length numbers - 1) x there in
    let last : (d : ℕ) → get_or numbers (length numbers - 1) d ≡ x = λ d. get_or_from_slice_get numbers (length numbers - 1) x d there in
    subst (λ (o : Option ℕ). IsAmong numbers o x) (sym none) (
      (length numbers - 1, within, last x),
      λ k d lt. elim (cases_lt k (length numbers - 1)) [
        | inl less ↦ omega (arith, rise k (length numbers - 1) d less within, last d)
        | inr ge ↦
            let same : k ≡ length numbers - 1 = omega (arith, lt, ge, within) in
            let equal : get_or numbers k d ≡ get_or numbers (length numbers - 1) d = ap (λ (i : ℕ). get_or numbers i d) same in
            omega (arith, equal, last d)
      ],
    )

pub last_lacks : (numbers : List ℕ) (named r : Option ℕ) → named ≡ None → r ≡ slice_get numbers (length numbers - 1) → IfNone r (LacksAmong numbers named)
last_lacks numbers named (Some x) none is = tt
last_lacks [] named None none is = subst (λ (o : Option ℕ). LacksAmong [] o) (sym none) refl
last_lacks (n ∷ ns) named None none is =
    let there : slice_get (n ∷ ns) (length (n ∷ ns) - 1) ≡ Some (get_or (n ∷ ns) (length (n ∷ ns) - 1) 0) = slice_get-get_or (n ∷ ns) (length (n ∷ ns) - 1) 0 (omega arith) in
    absurd cc

-- ---- what the list of the commits tells

asked_files : (files : Files) (numbers : List ℕ) (named : Option ℕ) (s : ℕ) → ((t : ℕ) → Contains numbers t ↔ IsSome (files (Commit t))) → IsAmong numbers named s → IsAsked files named s
asked_files files numbers (Some n) s each among = (among.0, (each s).0 among.1)
asked_files files numbers None s each among = ((each s).0 among.0, λ t there. All-contains (λ (t : ℕ). t ≤ s) numbers t among.1 ((each t).1 there))

lacks_files : (files : Files) (numbers : List ℕ) (named : Option ℕ) → ((t : ℕ) → Contains numbers t ↔ IsSome (files (Commit t))) → LacksAmong numbers named → LacksAsked files named
lacks_files files numbers (Some n) each lacks = none_or (files (Commit n)) (λ there. lacks ((each n).1 there))
lacks_files files numbers None each lacks = λ t. none_or (files (Commit t)) (λ there. nothing t ((each t).1 there))
  where
    nothing : (t : ℕ) → Contains numbers t → ⊥
    nothing t has = let empty : Contains [] t = subst (λ (ns : List ℕ). Contains ns t) lacks has in absurd (omega (arith, empty.1))

-- the files that have one commit and nothing else
one_commit : ℕ → Files
one_commit n (Commit s) = cond (eqb s n) (Some []) None
one_commit n name = None

one_there : (n : ℕ) → IsSome (one_commit n (Commit n))
unfolding one_commit
one_there n = rw (eq-eqb n n refl) refl

only_one : (n t : ℕ) → IsSome (one_commit n (Commit t)) → t ≤ n
unfolding one_commit
only_one n t = by (eqb t n) refl
  where
    by : (b : Bool) → eqb t n ≡ b → IsSome {T = List ℕ} (cond b (Some []) None) → t ≤ n
    by true e some = omega (arith, eqb-true t n e)
    by false e some = absurd cc

one_is_asked : (numbers : List ℕ) (named : Option ℕ) (s : ℕ) → IsAmong numbers named s → IsAsked (one_commit s) named s
one_is_asked numbers (Some n) s among = (among.0, one_there s)
one_is_asked numbers None s among = (one_there s, λ t there. only_one s t there)

pub asked_told : (told : Option Files) (numbers : List ℕ) (named : Option ℕ) (s : ℕ) → Numbers told numbers → IsAmong numbers named s → IsAskedIn told named s
asked_told (Some files) numbers named s each among = (files, refl, asked_files files numbers named s each among)
asked_told None numbers named s each among = (one_commit s, tt, one_is_asked numbers named s among)

lacks_told : (told : Option Files) (numbers : List ℕ) (named : Option ℕ) (files : Files) → Numbers told numbers → LacksAmong numbers named → told ≡ Some files → LacksAsked files named
lacks_told told numbers named files each lacks is = lacks_files files numbers named (subst (λ (o : Option Files). Numbers o numbers) is each) lacks

-- ---- what is said of a store without the commit

pub lack_said : {T : Type 0} (told : Option Files) (numbers : List ℕ) (named : Option ℕ) → Numbers told numbers → LacksAmong numbers named → TellsLack {T = T} told named (Err (missing named))
lack_said told numbers named each lacks = record {
  no_such = λ other e. (cc, λ files is. lacks_told told numbers named files each lacks is);
  lacks = λ files is none. inl refl;
}

pub there_said : {T : Type 0} (told : Option Files) (named : Option ℕ) (s : ℕ) (r : Result T OpenFault) → IsAskedIn told named s → ((other : ℕ) → r ≡ Err (opening.NoSuch other) → ⊥) → TellsLack told named r
there_said told named s r found never = record {
  no_such = λ other e. absurd (never other e);
  lacks = λ files is none.
      let same : files ≡ found.0 = same_files told files found.0 is found.1 in
      not_both files named s (subst (λ (f : Files). IsAsked f named s) (sym same) found.2) none;
}

pub outside_said : {T : Type 0} (told : Option Files) (named : Option ℕ) (fault : OpenFault) → IsOutside fault → TellsLack {T = T} told named (Err fault)
outside_said told named fault (inl e) = record {
  no_such = λ other is. absurd cc;
  lacks = λ files is none. inr (inl e);
}
outside_said told named fault (inr e) = record {
  no_such = λ other is. absurd cc;
  lacks = λ files is none. inr (inr e);
}

pub said_again : {T U : Type 0} (told : Option Files) (named : Option ℕ) (fault : OpenFault) → TellsLack {T = T} told named (Err fault) → TellsLack {T = U} told named (Err fault)
said_again told named fault tells = record {
  no_such = λ other is. let e : fault ≡ opening.NoSuch other = cc in tells.no_such other (ap (λ (f : OpenFault). Err f) e);
  lacks = tells.lacks;
}

-- ---- what finding the number among those that are listed comes to

pub found_asked : (told : Option Files) (numbers slice : List ℕ) (named : Option ℕ) (r : Result ℕ OpenFault) → slice ≡ numbers → Numbers told numbers
    → IfOk r (IsAmong slice named) → IfOk r (IsAskedIn told named)
found_asked told numbers slice named (Err fault) same each among = tt
found_asked told numbers slice named (Ok s) same each among = asked_told told numbers named s each (subst (λ (ns : List ℕ). IsAmong ns named s) same among)

pub found_tells : (told : Option Files) (numbers slice : List ℕ) (named : Option ℕ) (r : Result ℕ OpenFault) → slice ≡ numbers → Numbers told numbers
    → IfOk r (IsAmong slice named) → IfErr r (λ fault. (fault ≡ missing named) × LacksAmong slice named) → TellsLack told named r
found_tells told numbers slice named (Ok s) same each among none =
    there_said told named s (Ok s) (found_asked told numbers slice named (Ok s) same each among) (λ other e. absurd cc)
found_tells told numbers slice named (Err fault) same each among none =
    subst (λ (f : OpenFault). TellsLack {T = ℕ} told named (Err f)) (sym none.0)
    (lack_said told numbers named each (subst (λ (ns : List ℕ). LacksAmong ns named) same none.1))

pub found_others : (slice : List ℕ) (named : Option ℕ) (r : Result ℕ OpenFault) → IfErr r (λ fault. (fault ≡ missing named) × LacksAmong slice named) → IfErr r (IsNoSuchOr named IsOutside)
found_others slice named (Ok s) none = tt
found_others slice named (Err fault) none = inl none.0

-- where the commit is there, a fault of finding it comes from outside
pub found_outside : {T : Type 0} (told : Option Files) (named : Option ℕ) (fault : OpenFault) (files : Files) (s : ℕ) → told ≡ Some files → IsAsked files named s
    → TellsLack {T = T} told named (Err fault) → IsNoSuchOr named IsOutside fault → IsOutside fault
found_outside told named fault files s is asked tells (inr outside) = outside
found_outside told named fault files s is asked tells (inl no_) =
    not_both files named s asked ((tells.no_such (unwrap_or named 0) (ap (λ (f : OpenFault). Err f) no_)).1 files is)

-- finding it tells no damage
pub found_whole : {A : Type 0} (named : Option ℕ) (fault : OpenFault) (damaged : Damaged) → IsNoSuchOr named IsOutside fault → fault ≡ opening.Damaged damaged → A
found_whole named fault damaged (inl no_) e = absurd cc
found_whole named fault damaged (inr (inl store)) e = absurd cc
found_whole named fault damaged (inr (inr memory)) e = absurd cc
