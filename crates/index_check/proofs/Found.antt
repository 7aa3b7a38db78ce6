-- What the check of one commit comes to.
use Rattle.std.proofs.Common.{◌≡◌, ◌⊎◌, inl, inr, ◌∙◌, ℕ, ◌+◌, ◌≤◌, Option, Some, None, refl, sym, ap, subst, arith}
use Rattle.std.specs.Prelude.{Contains, IfOk, MatchOption, Result, Ok, Err}
use Rattle.std.proofs.lemmas.Bool.{cases_lt}
use Rattle.ix_base.specs.declared.damaged.Damaged.{Damaged}
use Rattle.ix_outside.specs.Files.{Files, Was}
use Rattle.commit_point.specs.Holds.{HasHead, HasSegments, IsAboveIds, Lists, head_of}
use Rattle.commit_point.proofs.Laws.{one_head}
use Rattle.commit_point.specs.Reading.{head_from, reading}
use Rattle.commit_point.specs.declared.heads.Head.{Head}
use Rattle.commit_point.specs.declared.heads.HeadSegment.{HeadSegment}
use Rattle.commit_point.specs.declared.open.Opened.{Opened}
use Rattle.index_check.specs.Difference.{DiffersAt, HasOther, IsTaken, LacksRoom, next_id_is}
use Rattle.index_check.specs.Earlier.{IsBehindListed, IsBelow, IsLeastAbove, IsLeastId}
use Rattle.index_check.specs.Known.{IsBefore, IsKnown, IsOther, IsSame, count_of}
use Rattle.index_check.specs.Sound.{IsLawfulCommit}
use Rattle.index_check.specs.declared.earlier.Earlier.{Earlier}
use Rattle.index_check.specs.declared.fault.CheckFault.{CheckFault}
use Rattle.index_check.specs.declared.fault.Difference.{Difference}
use Rattle.index_check.specs.declared.known.Known.{Known}
use Rattle.index_check.proofs.SomeRows.{some_rows}

pub same_files : (told : Option Files) (files seen : Files) → told ≡ Some files → Was told seen → seen ≡ files
same_files told files seen is was = sym (subst (λ (o : Option Files). Was o seen) is was)

-- what was read of a commit is in these files, where the store tells them
pub read_there : (told : Option Files) (files : Files) (s : ℕ) (opened : Opened) → told ≡ Some files
    → (seen : Files) × Was told seen × HasSegments seen s opened.next_id opened.entries opened.segments → HasSegments files s opened.next_id opened.entries opened.segments
read_there told files s opened is found =
    subst (λ (f : Files). HasSegments f s opened.next_id opened.entries opened.segments) (same_files told files found.0 is found.1) found.2

-- the head that was read last is that of the commit file, where the store tells its files
pub head_read : (told next : Option Files) (s : ℕ) (r : Result Head CheckFault) → next ≡ told
    → IfOk r (λ head. (files : Files) × Was next files × HasHead files s head) → (files : Files) → told ≡ Some files → IfOk r (HasHead files s)
head_read told next s (Ok head) same found files is =
    subst (λ (f : Files). HasHead f s head) (same_files told files found.0 is (subst (λ (o : Option Files). Was o found.0) same found.1)) found.2
head_read told next s (Err fault) same found files is = tt

-- a commit file that is broken is the first broken place of its commit
pub head_broken : (told next : Option Files) (s : ℕ) (d : Damaged) → next ≡ told
    → (files : Files) × Was next files × (head_from files s ≡ Err d) → (files : Files) × Was told files × (reading files s ≡ Err d)
unfolding reading
head_broken told next s d same found =
    (found.0, subst (λ (o : Option Files). Was o found.0) same found.1, rw found.2 refl)

-- what holds anyway holds where a value was returned
pub any_ok : {T E : Type 0} (r : Result T E) (P : Type 0) → P → IfOk r (λ x. P)
any_ok (Ok x) P p = p
any_ok (Err e) P p = tt

-- ---- the ids of earlier commits

abbrev HasRead : Files → ℕ → Opened → Type 0
HasRead files s opened = HasSegments files s opened.next_id opened.entries opened.segments

own_entry : (files : Files) (s : ℕ) (opened : Opened) (e : HeadSegment) → HasRead files s opened → Lists files s e → Contains opened.entries e
own_entry files s opened e has listed =
    let same : listed.head ≡ head_of s opened.next_id has.tail opened.entries opened.segments = one_head files s listed.head (head_of s opened.next_id has.tail opened.entries opened.segments) listed.has_head has.head in
    subst (λ (h : Head). Contains h.segments e) same listed.listed

later_listed : (files : Files) (s t id : ℕ) → s ≤ t → IsBehindListed files s id → IsBehindListed files t id
later_listed files s t id le p = record { number = p.number; entry = p.entry; earlier = omega (arith, le, p.earlier); listed = p.listed; id_is = p.id_is }

pub next_least : (files : Files) (s old new : ℕ) (opened : Opened) → HasRead files s opened → IsLeastId files s old → IsLeastAbove old opened.entries new → IsLeastId files (s + 1) new
next_least files s old new opened has known least = record { above = above; reached = reached known.reached least.reached }
  where
    above : IsAboveIds files (s + 1) new
    above t e lt listed = elim (cases_lt t s) [
      | inl below ↦ omega (arith, known.above t e below listed, least.low_is)
      | inr ge ↦ let is : t ≡ s = omega (arith, lt, ge) in least.above e (own_entry files s opened e has (subst (λ (n : ℕ). Lists files n e) is listed))
    ]

    reached : (old ≡ 0) ⊎ IsBehindListed files s old → (new ≡ old) ⊎ ((e : HeadSegment) × Contains opened.entries e × (new ≡ e.id + 1)) → (new ≡ 0) ⊎ IsBehindListed files (s + 1) new
    reached (inl none) (inl is) = inl (is ∙ none)
    reached (inr some) (inl is) = inr (later_listed files s (s + 1) new (omega arith) (subst (IsBehindListed files s) (sym is) some))
    reached p (inr own) = inr (record { number = s; entry = own.0; earlier = omega arith; listed = record { head = head_of s opened.next_id has.tail opened.entries opened.segments; has_head = has.head; listed = own.1 }; id_is = own.2 })

-- ---- a commit that is sound

pub above_all : (files : Files) (s least next : ℕ) → IsLeastId files s least → least ≤ next → IsAboveIds files s next
above_all files s least next known le t e lt listed = omega (arith, known.above t e lt listed, le)

pub lawful_commit : (files : Files) (s : ℕ) (opened : Opened) (least : ℕ) → HasRead files s opened → IsLeastId files s least → IsSame opened least → IsLawfulCommit files s
lawful_commit files s opened least has known same =
    let rows = some_rows files s opened.next_id opened.entries opened.segments has in (
      opened.next_id,
      rows.0,
      record {
        holds = record {
          holds = record { entries = opened.entries; segments = opened.segments; spelled = has; rows_are = rows.1 };
          inverted = same.each;
        };
        room = same.room;
        above = above_all files s least opened.next_id known same.above;
      },
    )

pub none_known : (files : Files) (s : ℕ) (known : Known) → ((id : ℕ) → count_of known id ≡ None) → IsKnown files s known
none_known files s known none id n is = absurd (let f : count_of known id ≡ None = none id in cc)

pub next_before : (files : Files) (s : ℕ) (opened : Opened) (old : ℕ) (new : Earlier) → HasRead files s opened → IsLeastId files s old
    → IsLeastAbove old opened.entries new.least_id → ((id : ℕ) → count_of new.known id ≡ None) → IsBefore files (s + 1) new
next_before files s opened old new has known least none = record {
  ids = next_least files s old new.least_id opened has known least;
  segments = none_known files (s + 1) new.known none;
}

-- ---- a commit that isn't

taken : (files : Files) (s least : ℕ) (next : ℕ) (d : Difference) → IsLeastId files s least → IsBelow s next least d → IsTaken files s next d
taken files s least next d known below = go known.reached
  where
    go : (least ≡ 0) ⊎ IsBehindListed files s least → IsTaken files s next d
    go (inl none) = absurd (omega (arith, none, below.below))
    go (inr some) = record {
      room = below.room;
      greatest = some.entry.id;
      is = record {
        above = subst (IsAboveIds files s) some.id_is known.above;
        number = some.number;
        entry = some.entry;
        earlier = some.earlier;
        listed = some.listed;
        id = refl;
      };
      taken = omega (arith, below.below, some.id_is);
      told = below.told ∙ ap (next_id_is s next) some.id_is;
    }

pub differs_at : (files : Files) (s : ℕ) (opened : Opened) (least : ℕ) (d : Difference) → opened.number ≡ s → HasRead files s opened → IsLeastId files s least → IsOther opened least d
    → DiffersAt files s d
differs_at files s opened least d number has known other = record {
  next = opened.next_id;
  entries = opened.entries;
  segments = opened.segments;
  has = has;
  which = which other;
}
  where
    which : IsOther opened least d → LacksRoom s opened.next_id d ⊎ (IsTaken files s opened.next_id d ⊎ HasOther files s opened.next_id opened.segments d)
    which (inl lacks) = inl (subst (λ (n : ℕ). LacksRoom n opened.next_id d) number lacks)
    which (inr (inl below)) = inr (inl (taken files s least opened.next_id d known (subst (λ (n : ℕ). IsBelow n opened.next_id least d) number below)))
    which (inr (inr differ)) = inr (inr (record {
      room = differ.room;
      above = above_all files s least opened.next_id known differ.above;
      other = differ.other;
    }))

-- ---- what the comparison found

pub is_other : (opened : Opened) (least : ℕ) (found : Option Difference) (d : Difference) → found ≡ Some d → MatchOption found (IsSame opened least) (IsOther opened least) → IsOther opened least d
is_other opened least found d is says = subst (λ (o : Option Difference). MatchOption o (IsSame opened least) (IsOther opened least)) is says

pub is_same : (opened : Opened) (least : ℕ) (found : Option Difference) → ((d : Difference) → found ≡ Some d → ⊥) → MatchOption found (IsSame opened least) (IsOther opened least) → IsSame opened least
is_same opened least None never says = says
is_same opened least (Some d) never says = absurd (never d refl)
