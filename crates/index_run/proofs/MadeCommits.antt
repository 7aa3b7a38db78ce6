-- One commit more in the files.
use Rattle.std.proofs.Common.{◌≡◌, ◌≢◌, ◌⊎◌, inl, inr, ℕ, ◌<◌, ◌≤◌, List, [], ◌∷◌, ◌++◌, Some, None}
use Rattle.std.proofs.Common.{refl, sym, ap, subst, ◌∙◌, arith}
use Rattle.std.specs.Prelude.{IsSome, Option}
use Rattle.std.specs.List.{AllByRecursion}
use Rattle.std.proofs.lemmas.Bool.{cases_lt}
use Rattle.std.proofs.lemmas.List.{length-append}
use Rattle.std.proofs.lemmas.List.Elements.{All-contains, All-from_recursion}
use Rattle.ix_base.specs.declared.document.Row.{Row}
use Rattle.ix_base.specs.declared.file_name.FileName.{FileName}
use Rattle.ix_base.specs.declared.file_name.FileName.TheVariants.{Commit, Pending, Rows, Posts, Live, Values}
use Rattle.ix_base.specs.Steps.{after}
use Rattle.ix_outside.specs.Files.{Files}
use Rattle.segment_core.specs.LiveRows.{Lived}
use Rattle.commit_point.specs.declared.heads.HeadSegment.{HeadSegment}
use Rattle.commit_point.specs.Fits.{EntryFits}
use Rattle.commit_point.specs.Holds.{HasPairs, HasSegments, HoldsInverted, IsAmong, IsFileOf, KeepsCommits, Lists, Pairs, names_of}
use Rattle.commit_point.proofs.Laws.{has_kept, inverted_kept}
use Rattle.commit_point.specs.declared.written.Written.{Written}
use Rattle.commit_point.specs.Writing as commit
use Rattle.commit_point.specs.Writing.{IsElsewhere, IsOldId, SameElsewhere, entries_of, listed}
use Rattle.op_script.specs.declared.script.Line.{Line}
use Rattle.index_writer.specs.declared.state.State.{State}
use Rattle.index_writer.specs.Ready.{IsReady, IsStored, NewIdsFrom}
use Rattle.index_writer.specs.Storing.{Commits, GoesOn, MayCommit, SameBelow, on_commit}
use Rattle.run_log.specs.Headline.{IsIn, KeepsCommit, operations, rows_at}
use Rattle.run_log.proofs.CommitLaws.{AllBelow, in_last, in_push}
use Rattle.run_log.proofs.NumberLaws.{pairs_at_front}
use Rattle.index_run.specs.Doing.{CanBegin, IsWriterOn}
use Rattle.index_run.specs.Leaving.{AreMade, CommitLaws, HasFront, IsBefore, IsMade, SameBefore, Stands, due_pairs}
use Rattle.index_run.proofs.LogNumbers.{nat_or, rows_front, rows_whole}

-- ---- what lists what

-- another commit lists what it listed
pub lists_before : (s limit t : ℕ) (mid new : Files) (e : HeadSegment) → SameBelow s limit mid new → t ≢ s
    → Lists new t e → Lists mid t e
lists_before s limit t mid new e same ne lists = record {
  head = lists.head;
  has_head = record {
    file = sym (same (Commit t) ne) ∙ lists.has_head.file;
    number = lists.has_head.number;
    fits = lists.has_head.fits;
  };
  listed = lists.listed;
}

-- an entry of a commit was written with that commit or an earlier one
written_by : (files : Files) (s : ℕ) (e : HeadSegment) → Lists files s e → e.written ≤ s
written_by files s e lists =
    let each =
    All-from_recursion (EntryFits lists.head.number) lists.head.segments lists.has_head.fits.entries in
    let fits = All-contains (EntryFits lists.head.number) lists.head.segments e each lists.listed in
    omega (arith, fits.not_later, lists.has_head.number)

-- ---- the commits that were there

-- a run doesn't write their files, where it could go on from the files that had them
pub file_before : (first : State) (files : Files) (t : ℕ) (name : FileName) → GoesOn files first → IsSome (files (Commit t))
    → IsFileOf files t name → IsBefore first.last first.since name
file_before first files t name goes there of_t = by of_t
  where
    not_above : t ≤ first.last
    not_above = elim (cases_lt first.last t) [
      | inl lt ↦
          let gone : files (Commit t) ≡ None = goes.none_above t lt in
          let none : IsSome {T = List ℕ} None = subst (λ (o : Option (List ℕ)). IsSome o) gone there in
          cc
      | inr ge ↦ ge
    ]

    at_name : (n : FileName) → name ≡ n → IsBefore first.last first.since n → IsBefore first.last first.since name
    at_name n is before = subst (IsBefore first.last first.since) (sym is) before

    by_among : (e : HeadSegment) → Lists files t e → IsAmong (names_of e) name → IsBefore first.last first.since name
    by_among e lists (inl is) = at_name (Rows e.id) is (goes.ids t e lists)
    by_among e lists (inr (inl is)) = at_name (Posts e.id) is (goes.ids t e lists)
    by_among e lists (inr (inr (inl is))) =
        at_name (Live e.id e.written) is (omega (arith, written_by files t e lists, not_above))
    by_among e lists (inr (inr (inr (inl is)))) =
        at_name (Values e.id e.written) is (omega (arith, written_by files t e lists, not_above))
    by_among e lists (inr (inr (inr (inr none)))) = absurd none

    by : IsFileOf files t name → IsBefore first.last first.since name
    by (inl is) = at_name (Commit t) is not_above
    by (inr found) = by_among found.0 found.1 found.2

-- one of them is kept by what a run leaves of an image that has its files
pub one_kept : (first : State) (files d c : Files) (t : ℕ) → GoesOn files first → IsSome (files (Commit t))
    → KeepsCommit t files d → SameBefore first d c → KeepsCommit t files c
one_kept first files d c t goes there kept same name of_t =
    same name (file_before first files t name goes there of_t) ∙ kept name of_t

-- all are kept
pub all_kept : (first : State) (old new : Files) → GoesOn old first → SameBefore first old new → KeepsCommits old new
all_kept first old new goes same t there =
    one_kept first old old new t goes there (λ name of_t. refl) same

-- a commit above the base, with new ids, writes none of those files
same_before : (first : State) (s since : ℕ) (old mid new : Files) → first.last < s → first.since ≤ since
    → SameBelow s since mid new → SameBefore first old mid → SameBefore first old new
same_before first s since old mid new above from_next same before name is =
    same name (elsewhere name is) ∙ before name is
  where
    elsewhere : (n : FileName) → IsBefore first.last first.since n → IsElsewhere s (λ id. id < since) n
    elsewhere (Commit t) le = λ e. absurd (omega (arith, e, le, above))
    elsewhere (Pending t) le = λ e. absurd (omega (arith, e, le, above))
    elsewhere (Rows id) lt = omega (arith, lt, from_next)
    elsewhere (Posts id) lt = omega (arith, lt, from_next)
    elsewhere (Live id v) le = λ e. absurd (omega (arith, e, le, above))
    elsewhere (Values id v) le = λ e. absurd (omega (arith, e, le, above))

-- ---- commits that were made

-- the pairs of a commit file that is as it was
pairs_kept : (mid new : Files) (n : ℕ) (pairs : Pairs) → new (Commit n) ≡ mid (Commit n) → HasPairs mid n pairs
    → HasPairs new n pairs
pairs_kept mid new n pairs same has =
    (has.0, record { file = same ∙ has.1.file; number = has.1.number; fits = has.1.fits }, has.2)

-- what stays of a commit that was made, when a later one is written
made_kept : (first : State) (log : List Line) (s since : ℕ) (old mid new : Files) (n : ℕ) → n < s
    → SameBelow s since mid new → IsMade first log since old mid n → IsMade first log since old new n
made_kept first log s since old mid new n lt same made = record {
  id = made.id;
  entries = made.entries;
  segments = made.segments;
  from_next = made.from_next;
  to_limit = made.to_limit;
  inside = made.inside;
  spelled = has_kept n made.id s (λ id. id < since) made.entries made.segments mid new lt below same made.spelled;
  above = λ goes t e early lists.
      made.above goes t e early
      (lists_before s since t mid new e same (λ is. absurd (omega (arith, is, early, lt))) lists);
  rows = λ rows has.
      inverted_kept n made.id s (λ id. id < since) (rows_at first.published.upto rows log n) mid new lt below same
      (made.rows rows has);
  pairs = pairs_kept mid new n _ (same (Commit n) (λ is. absurd (omega (arith, is, lt)))) made.pairs;
}
  where
    below : (id : ℕ) → id < made.id → id < since
    below id small = omega (arith, small, made.to_limit)

each_kept : (first : State) (log : List Line) (s since : ℕ) (old mid new : Files) (ns : List ℕ) → AllBelow s ns
    → SameBelow s since mid new → AllByRecursion (IsMade first log since old mid) ns
    → AllByRecursion (IsMade first log since old new) ns
each_kept first log s since old mid new [] below same each = tt
each_kept first log s since old mid new (n ∷ ns) below same each = (
  made_kept first log s since old mid new n below.0 same each.0,
  each_kept first log s since old mid new ns below.1 same each.1,
)

-- a commit that was made, of a longer log and with a higher limit
made_longer : (first : State) (log more : List Line) (limit higher : ℕ) (old new : Files) (s : ℕ) → limit ≤ higher
    → IsMade first log limit old new s → IsMade first (log ++ more) higher old new s
made_longer first log more limit higher old new s le made = record {
  id = made.id;
  entries = made.entries;
  segments = made.segments;
  from_next = made.from_next;
  to_limit = omega (arith, made.to_limit, le);
  inside = omega (arith, made.inside, length-append log more);
  spelled = made.spelled;
  above = made.above;
  rows = λ rows has.
      subst (λ (rs : List Row). HoldsInverted new s made.id rs)
      (sym (rows_front first.published.upto rows log more s made.inside)) (made.rows rows has);
  pairs = subst (HasPairs new s) (sym (pairs_at_front first.published.upto log more s made.inside)) made.pairs;
}

made_higher : (first : State) (log : List Line) (limit higher : ℕ) (old new : Files) (s : ℕ) → limit ≤ higher
    → IsMade first log limit old new s → IsMade first log higher old new s
made_higher first log limit higher old new s le made = record {
  id = made.id;
  entries = made.entries;
  segments = made.segments;
  from_next = made.from_next;
  to_limit = omega (arith, made.to_limit, le);
  inside = made.inside;
  spelled = made.spelled;
  above = made.above;
  rows = made.rows;
  pairs = made.pairs;
}

each_onto : (P Q : ℕ → Type 0) (ns : List ℕ) → ((n : ℕ) → P n → Q n) → AllByRecursion P ns → AllByRecursion Q ns
each_onto P Q [] implies each = tt
each_onto P Q (n ∷ ns) implies each = (implies n each.0, each_onto P Q ns implies each.1)

all_push : (P : ℕ → Type 0) (ns : List ℕ) (n : ℕ) → AllByRecursion P ns → P n → AllByRecursion P (ns ++ n ∷ [])
all_push P [] n all this = (this, tt)
all_push P (x ∷ xs) n all this = (all.0, all_push P xs n all.1 this)

older_kept : (first : State) (s since : ℕ) (old mid new : Files) → first.published.upto < s
    → first.published.next_id ≤ since → SameBelow s since mid new
    → ((t n : ℕ) (entries : List HeadSegment) (segments : List Lived) → t ≤ first.published.upto
    → n ≤ first.published.next_id → HasSegments old t n entries segments → HasSegments mid t n entries segments)
    → (t n : ℕ) (entries : List HeadSegment) (segments : List Lived) → t ≤ first.published.upto
    → n ≤ first.published.next_id → HasSegments old t n entries segments → HasSegments new t n entries segments
older_kept first s since old mid new above from_next same older t n entries segments early small was =
    has_kept t n s (λ id. id < since) entries segments mid new (omega (arith, early, above))
    (λ id lt. omega (arith, lt, small, from_next)) same (older t n entries segments early small was)

some_same : (files new : Files) (t : ℕ) → new (Commit t) ≡ files (Commit t) → IsSome (new (Commit t))
    → IsSome (files (Commit t))
some_same files new t same there = subst (λ (o : Option (List ℕ)). IsSome o) same there

-- one commit more
pub made_more : (first : State) (log : List Line) (numbers : List ℕ) (s since next : ℕ) (old mid new : Files)
    → first.published.upto < s → first.published.next_id ≤ since → since ≤ next → AllBelow s numbers
    → SameBelow s since mid new → AreMade first log numbers since old mid → IsMade first log next old new s
    → AreMade first log (numbers ++ s ∷ []) next old new
made_more first log numbers s since next old mid new above from_next le below same has made = record {
  each = all_push (IsMade first log next old new) numbers s
      (each_onto (IsMade first log since old new) (IsMade first log next old new) numbers
      (λ n h. made_higher first log since next old new n le h)
      (each_kept first log s since old mid new numbers below same has.each)) made;
  only = λ t there. elim (nat_or t s) [
    | inl e ↦ inr (subst (λ (k : ℕ). IsIn (numbers ++ s ∷ []) k) (sym e) (in_last numbers s))
    | inr ne ↦ elim (has.only t (some_same mid new t (same (Commit t) ne) there)) [
      | inl was ↦ inl was
      | inr among ↦ inr (in_push numbers s t among)
    ]
  ];
  older = older_kept first s since old mid new above from_next same has.older;
}

-- files of a commit that was not made change no other
pub made_still : (first : State) (log : List Line) (numbers : List ℕ) (s since : ℕ) (old mid new : Files)
    → first.published.upto < s → first.published.next_id ≤ since → AllBelow s numbers → SameBelow s since mid new
    → new (Commit s) ≡ mid (Commit s) → AreMade first log numbers since old mid
    → AreMade first log numbers since old new
made_still first log numbers s since old mid new above from_next below same commit has = record {
  each = each_kept first log s since old mid new numbers below same has.each;
  only = λ t there. has.only t (some_same mid new t (same_commit t) there);
  older = older_kept first s since old mid new above from_next same has.older;
}
  where
    same_commit : (t : ℕ) → new (Commit t) ≡ mid (Commit t)
    same_commit t = elim (nat_or t s) [
      | inl e ↦ subst (λ (k : ℕ). new (Commit k) ≡ mid (Commit k)) (sym e) commit
      | inr ne ↦ same (Commit t) ne
    ]

-- ---- the first commits of a log

pub front_higher : (first : State) (log : List Line) (numbers : List ℕ) (limit higher : ℕ) (old new : Files)
    → limit ≤ higher → HasFront first log numbers limit old new → HasFront first log numbers higher old new
front_higher first log numbers limit higher old new le front = record {
  made = λ stored.
      let made = front.made stored in
      record {
        each = each_onto (IsMade first log limit old new) (IsMade first log higher old new) numbers
            (λ n h. made_higher first log limit higher old new n le h) made.each;
        only = made.only;
        older = made.older;
      };
  before = front.before;
}

pub front_longer : (first : State) (log more : List Line) (numbers : List ℕ) (limit higher : ℕ) (old new : Files)
    → limit ≤ higher → HasFront first log numbers limit old new → HasFront first (log ++ more) numbers higher old new
front_longer first log more numbers limit higher old new le front = record {
  made = λ stored.
      let made = front.made stored in
      record {
        each = each_onto (IsMade first log limit old new) (IsMade first (log ++ more) higher old new) numbers
            (λ n h. made_longer first log more limit higher old new n le h) made.each;
        only = made.only;
        older = made.older;
      };
  before = front.before;
}

pub front_none : (first : State) (log : List Line) (limit : ℕ) (files : Files) → HasFront first log [] limit files files
front_none first log limit files = record {
  made = λ stored. record {
    each = tt;
    only = λ s there. inl there;
    older = λ s n entries segments early small was. was;
  };
  before = λ name is. refl;
}

-- ---- what a commit of the writer leaves as it was

pub old_ids : (since id : ℕ) (gs : List Lived) (ws : List (Option Written)) → NewIdsFrom since gs ws → id < since
    → IsOldId gs ws id
old_ids since id [] ws new lt = tt
old_ids since id (g ∷ gs) [] new lt = tt
old_ids since id (g ∷ gs) (None ∷ ws) new lt =
    (λ is. absurd (omega (arith, is, new.0, lt)), old_ids since id gs ws new.1 lt)
old_ids since id (g ∷ gs) (Some w ∷ ws) new lt = old_ids since id gs ws new lt

pub same_below : (w : State) → IsReady w → (old new : Files)
    → SameElsewhere w.published.upto (IsOldId w.published.segments w.written) old new
    → SameBelow w.published.upto w.since old new
same_below w ready old new same name other = same name (elsewhere name other)
  where
    elsewhere : (n : FileName) → IsElsewhere w.published.upto (λ id. id < w.since) n
        → IsElsewhere w.published.upto (IsOldId w.published.segments w.written) n
    elsewhere (Commit t) ne = ne
    elsewhere (Pending t) ne = ne
    elsewhere (Rows id) below = old_ids w.since id w.published.segments w.written ready.new_ids below
    elsewhere (Posts id) below = old_ids w.since id w.published.segments w.written ready.new_ids below
    elsewhere (Live id v) ne = ne
    elsewhere (Values id v) ne = ne

-- ---- a commit of the writer

-- A commit of the writer comes next: it is above those that were made, and its new ids are new.
pub record ComesNext (first : State) (log : List Line) (numbers : List ℕ) (w : State) : Type 0 where
  pub laws : CommitLaws
  pub begun : CanBegin first
  pub on : IsWriterOn first log w
  pub above : first.published.upto < w.published.upto
  pub below : AllBelow w.published.upto numbers
  pub low : first.published.next_id ≤ w.since

pub before_next : (first : State) (log : List Line) (numbers : List ℕ) (w : State) (old mid new : Files)
    → ComesNext first log numbers w → SameBelow w.published.upto w.since mid new → SameBefore first old mid
    → SameBefore first old new
before_next first log numbers w old mid new next same before =
    same_before first w.published.upto w.since old mid new (omega (arith, next.begun.last, next.above))
    (omega (arith, next.begun.since, next.low)) same before

-- what the commit made of the files
abbrev IsWritten : Pairs → State → Files → Files → Type 0
IsWritten pairs w = commit.Commits w.published.upto w.published.next_id pairs w.published.segments w.written

-- a state without segments
abbrev emptied : State → State
emptied w = record w { published = record w.published { segments = [] }; written = [] }

-- the commit is that of the whole log
this_made : (first : State) (log : List Line) (numbers : List ℕ) (w : State) (old mid new : Files)
    → ComesNext first log numbers w → Stands first log numbers w old mid → IsWritten (due_pairs first log w) w mid new → IsStored old first
    → IsMade first log w.published.next_id old new w.published.upto
this_made first log numbers w old mid new next stands made stored = record {
  id = w.published.next_id;
  entries = entries_of w.published.upto w.published.segments w.written;
  segments = listed w.published.segments;
  from_next = next.on.low;
  to_limit = omega arith;
  inside = omega (arith, next.on.upto);
  spelled = made.spelled (stands.stored stored);
  above = λ goes t e early lists.
      let same = same_below w next.on.ready mid new made.elsewhere in
      let before =
      lists_before w.published.upto w.since t mid new e same (λ is. absurd (omega (arith, is, early))) lists in
      omega (arith, (stands.goes_on goes).ids t e before, next.on.ready.since);
  rows = λ rows has.
      subst (λ (rs : List Row). HoldsInverted new w.published.upto w.published.next_id rs)
      (rows_whole first.published.upto rows log w.published.upto next.on.upto)
      (next.laws.hold (due_pairs first log w) w (emptied w) mid new (after rows first.published.upto (operations log))
      (record { made = made; stands = λ was. tt }) (stands.stored stored) (next.on.rows rows has)).0;
  pairs = made.has_pairs;
}

front_commit : (first : State) (log : List Line) (numbers : List ℕ) (w : State) (old mid new : Files)
    → ComesNext first log numbers w → Stands first log numbers w old mid → IsWritten (due_pairs first log w) w mid new
    → HasFront first log (numbers ++ w.published.upto ∷ []) w.published.next_id old new
front_commit first log numbers w old mid new next stands made = record {
  made = λ stored.
      made_more first log numbers w.published.upto w.since w.published.next_id old mid new next.above next.low
      next.on.ready.since next.below same (stands.front.made stored)
      (this_made first log numbers w old mid new next stands made stored);
  before = before_next first log numbers w old mid new next same stands.front.before;
}
  where
    same : SameBelow w.published.upto w.since mid new
    same = same_below w next.on.ready mid new made.elsewhere

front_still : (first : State) (log : List Line) (numbers : List ℕ) (w : State) (old mid new : Files)
    → ComesNext first log numbers w → Stands first log numbers w old mid → SameBelow w.published.upto w.since mid new
    → new (Commit w.published.upto) ≡ mid (Commit w.published.upto) → HasFront first log numbers w.since old new
front_still first log numbers w old mid new next stands same commit = record {
  made = λ stored.
      made_still first log numbers w.published.upto w.since old mid new next.above next.low next.below same commit
      (stands.front.made stored);
  before = before_next first log numbers w old mid new next same stands.front.before;
}

pub stands_commit : (first : State) (log : List Line) (numbers : List ℕ) (w v : State) (old mid new : Files)
    → ComesNext first log numbers w → v ≡ on_commit w → Stands first log numbers w old mid → Commits (due_pairs first log w) w v mid new
    → Stands first log (numbers ++ w.published.upto ∷ []) v old new
stands_commit first log numbers w v old mid new next is stands made = record {
  front = subst (λ (n : ℕ). HasFront first log (numbers ++ w.published.upto ∷ []) n old new)
      (sym (ap (λ (s : State). s.since) is)) (front_commit first log numbers w old mid new next stands made.made);
  stored = λ stored. made.stands (stands.stored stored);
  goes_on = λ goes. next.laws.go_on (due_pairs first log w) w v mid new next.on.ready is made (stands.goes_on goes);
  on_last = λ goes on. next.laws.stand (due_pairs first log w) w v mid new is made (stands.goes_on goes).stored;
}

-- a crash while the writer commits: its commit is there whole, or the files have those that were made before
pub front_crash : (first : State) (log : List Line) (numbers : List ℕ) (w : State) (old mid new : Files)
    → ComesNext first log numbers w → Stands first log numbers w old mid → MayCommit (due_pairs first log w) w mid new
    → HasFront first log numbers w.since old new
    ⊎ HasFront first log (numbers ++ w.published.upto ∷ []) w.published.next_id old new
front_crash first log numbers w old mid new next stands may = elim (may.whole) [
  | inl commit ↦ inl (front_still first log numbers w old mid new next stands
      (same_below w next.on.ready mid new may.elsewhere) commit)
  | inr made ↦ inr (front_commit first log numbers w old mid new next stands made)
]
