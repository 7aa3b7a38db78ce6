-- What was read of a commit that is taken for sound, where the store tells its files.
use Rattle.std.proofs.Common.{◌≡◌, ℕ, ◌+◌, Bool, false, Option, Some, None, refl, subst}
use Rattle.std.specs.Prelude.{IfOk, IfSome, MatchOption, Result, Ok, Err, is_some}
use Rattle.ix_outside.specs.Files.{Files, Was}
use Rattle.live_docs.specs.Marks.{Marks, count_live}
use Rattle.live_files.specs.LiveSpelling.{live_bits, values_of}
use Rattle.segment_core.specs.LiveRows.{Lived}
use Rattle.segment_core.specs.Segments.{IsInverted}
use Rattle.commit_point.specs.declared.heads.Head.{Head}
use Rattle.commit_point.specs.declared.heads.HeadSegment.{HeadSegment}
use Rattle.commit_point.specs.Holds.{HasHead}
use Rattle.commit_point.specs.SegmentReads.{BitsRead, SegmentRead, ValuesRead}
use Rattle.index_check.specs.Known.{IsKnown, IsSoundNow, IsSoundSegment, Takes, count_of, owner_of}
use Rattle.index_check.specs.declared.known.Known.{Known}
use Rattle.index_check.proofs.Found.{same_files}
use Rattle.index_check.proofs.Passed.{known_there, now_known, read_there}

-- what holds of each value that may be returned holds of the one that is
pub ok_at : {T E : Type 0} (r : Result T E) (x : T) (P : T → Type 0) → r ≡ Ok x → IfOk r P → P x
ok_at {T} {E} r x P is holds = subst (λ (s : Result T E). IfOk s P) is holds

pub read_is : {T E : Type 0} (read : Result T E) (found : Option T) (x : T) → IfSome found (λ v. read ≡ Ok v) → found ≡ Some x → read ≡ Ok x
read_is {T} {E} read found x says is = subst (λ (o : Option T). IfSome o (λ v. read ≡ Ok v)) is says

pub ok_some : {T E : Type 0} (r : Result (Option T) E) (P Q : T → Type 0) → ((x : T) → P x → Q x) → IfOk r (λ o. IfSome o P) → IfOk r (λ o. IfSome o Q)
ok_some (Ok (Some x)) P Q implies p = implies x p
ok_some (Ok None) P Q implies p = tt
ok_some (Err e) P Q implies p = tt

pub some_at : {T : Type 0} (o : Option T) (x : T) (P : T → Type 0) → o ≡ Some x → IfSome o P → P x
some_at {T} o x P is holds = subst (λ (p : Option T). IfSome p P) is holds

pub none_is : {T : Type 0} (o : Option T) → is_some o ≡ false → o ≡ None
none_is None is = refl
none_is (Some x) is = absurd cc

pub matched_none : {T : Type 0} (o : Option T) (P : Type 0) (Q : T → Type 0) → is_some o ≡ false → MatchOption o P Q → P
matched_none None P Q is says = says
matched_none (Some x) P Q is says = absurd cc

pub head_there : (told : Option Files) (files : Files) (s : ℕ) (head : Head) → told ≡ Some files → (seen : Files) × Was told seen × HasHead seen s head → HasHead files s head
head_there told files s head is found = subst (λ (f : Files). HasHead f s head) (same_files told files found.0 is found.1) found.2

-- the live docs of a segment that is known were read
pub live_there : (told : Option Files) (files : Files) (s : ℕ) (known : Known) (e : HeadSegment) (marks : Marks) (n : ℕ) → told ≡ Some files → IsKnown files (s + 1) known → count_of known e.id ≡ Some e.rows
    → marks.applied ≡ s → BitsRead told e (live_bits marks.marks) → ValuesRead told e (values_of marks.marks) → n ≡ count_live marks.marks → IsSoundSegment files s (owner_of known) e n
live_there told files s known e marks n is all here applied bits values counted =
    known_there files s (owner_of known) e marks n (all e.id e.rows here) applied
    (subst (λ (o : Option Files). BitsRead o e (live_bits marks.marks)) is bits) (subst (λ (o : Option Files). ValuesRead o e (values_of marks.marks)) is values) counted

-- all files of a segment were read, and it was taken note of
pub segment_there : (told : Option Files) (files : Files) (s : ℕ) (earlier : ℕ → Bool) (e : HeadSegment) (g : Lived) (old new : Known) (n : ℕ) → told ≡ Some files → IsKnown files (s + 1) old
    → SegmentRead told s earlier e g → IsInverted g.segment → Takes e.id g.segment.rows old new → n ≡ count_live g.live.marks → IsSoundNow files s e old new n
segment_there told files s earlier e g old new n is all read inverted takes counted =
    now_known files s e g old new n all (read_there files s earlier e g (subst (λ (o : Option Files). SegmentRead o s earlier e g) is read)) inverted takes counted
