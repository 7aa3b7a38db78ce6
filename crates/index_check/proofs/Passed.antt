-- Segments of a commit that were found sound, one after another.
use Rattle.std.proofs.Common.{◌≡◌, ◌≢◌, inl, inr, ◌∙◌, ℕ, zero, suc, ◌+◌, ◌-◌, ◌^◌, ◌<◌, ◌≤◌, Bool, List, [], ◌∷◌, ◌++◌, length, get_or, take, Option, Some, refl, sym, ap, subst, arith}
use Rattle.std.specs.Prelude.{min, IsSome, is_some}
use Rattle.std.specs.List.{AllByRecursion}
use Rattle.std.proofs.Math.ListN.{length-append, length-map}
use Rattle.std.proofs.lemmas.Bool.{cases_eq}
use Rattle.std.proofs.lemmas.Grind.{flat_map-append}
use Rattle.std.proofs.lemmas.List.{append-nil, get_or_default, take_all, take_more}
use Rattle.ix_base.specs.Births.{number_of}
use Rattle.ix_base.specs.Counts.{doc_count}
use Rattle.ix_base.specs.declared.document.Row.{Row}
use Rattle.ix_base.specs.declared.file_name.FileName.TheVariants.{Posts}
use Rattle.ix_outside.specs.Files.{Files}
use Rattle.live_docs.specs.Marks.{Marks, count_live}
use Rattle.live_docs.specs.declared.live_docs.Mark.{Mark}
use Rattle.live_files.specs.LiveSpelling.{live_bits, values_of}
use Rattle.segment_core.proofs.LiveLaws.{live_counted}
use Rattle.segment_core.specs.LiveRows.{Lived, all_live, live}
use Rattle.segment_core.specs.Segments.{IsInverted}
use Rattle.segment_files.specs.Fits.{PostingsFit}
use Rattle.segment_files.specs.Spelling.{posts_file}
use Rattle.commit_point.proofs.Segments.{have_push}
use Rattle.commit_point.specs.declared.heads.HeadSegment.{HeadSegment}
use Rattle.commit_point.specs.Fits.{IdsRise}
use Rattle.commit_point.specs.Holds.{HasRows, HasSegment, HaveSegments}
use Rattle.commit_point.specs.SegmentReads.{BitsRead, SegmentRead, ValuesRead}
use Rattle.index_check.specs.Earlier.{AreKnown, AreOwned, WasRead}
use Rattle.index_check.specs.Known.{AreSound, IsKnown, IsSoundNow, IsSoundSegment, Keeps, Takes, count_of, owner_of}
use Rattle.index_check.specs.declared.known.Known.{Known}
use Rattle.index_check.proofs.Owners.{all_push}
use Rattle.index_check.proofs.Shared.{fit_later}

-- ---- one segment

pub known_later : (files : Files) (s t : ℕ) (count owner : ℕ → Option ℕ) → s ≤ t → AreKnown files s count owner → AreKnown files t count owner
known_later files s t count owner le known id n is =
    let was = known id n is in record {
      number = was.number;
      entry = was.entry;
      segment = was.segment;
      earlier = omega (arith, was.earlier, le);
      id_is = was.id_is;
      rows_are = was.rows_are;
      has = was.has;
      inverted = was.inverted;
      owned = was.owned;
    }

-- a segment that was read, from a store that tells its files
pub read_there : (files : Files) (s : ℕ) (known : ℕ → Bool) (e : HeadSegment) (g : Lived) → SegmentRead (Some files) s known e g → HasSegment files s e g
read_there files s known e g read = record {
  id = read.id;
  count = read.rows.segment.count;
  whole = read.whole;
  applied = read.applied;
  rows = record { bytes = read.rows.bytes; file = sym read.rows.seen; spells = read.rows.spells };
  posts = sym read.postings.0;
  live = sym read.bits.0;
  values = sym read.values.0;
  rows_fit = read.rows.segment.fits;
  posts_fit = read.postings.1;
  live_fit = read.bits.1;
  values_fit = read.values.1;
}

-- a segment that is known, and its live docs, that were read
pub known_there : (files : Files) (s : ℕ) (owner : ℕ → Option ℕ) (e : HeadSegment) (marks : Marks) (n : ℕ) → WasRead files (s + 1) owner e.id e.rows → marks.applied ≡ s
    → BitsRead (Some files) e (live_bits marks.marks) → ValuesRead (Some files) e (values_of marks.marks) → n ≡ count_live marks.marks → IsSoundSegment files s owner e n
known_there files s owner e marks n was applied bits values counted = record {
  segment = record { segment = was.segment.segment; live = marks };
  has = record {
    id = was.has.id ∙ was.id_is;
    count = was.has.count ∙ was.rows_are;
    whole = record { rows = as_many; few = was.has.whole.few };
    applied = applied;
    rows = subst (λ (i : ℕ). HasRows files i was.segment.segment.rows) was.id_is was.has.rows;
    posts = subst (λ (k : ℕ). files (Posts e.id) ≡ Some (posts_file e.id k was.segment.segment.postings)) was.rows_are
        (subst (λ (i : ℕ). files (Posts i) ≡ Some (posts_file i was.entry.rows was.segment.segment.postings)) was.id_is was.has.posts);
    live = sym bits.0;
    values = sym values.0;
    rows_fit = fit_later was.number s was.segment.segment.rows (omega (arith, was.earlier)) was.has.rows_fit;
    posts_fit = subst (λ (k : ℕ). PostingsFit k was.segment.segment.postings) was.rows_are was.has.posts_fit;
    live_fit = bits.1;
    values_fit = values.1;
  };
  inverted = was.inverted;
  owned = was.owned;
  live_is = counted;
}
  where
    as_many : length marks.marks ≡ length was.segment.segment.rows
    as_many =
        let mapped : length (live_bits marks.marks) ≡ length marks.marks = length-map marks.marks (λ (m : Mark). m.live) in
        sym mapped ∙ bits.1.count ∙ sym (was.has.count ∙ was.rows_are)

-- nothing more is known
pub still_known : (files : Files) (s : ℕ) (e : HeadSegment) (known : Known) (n : ℕ) → IsKnown files (s + 1) known → count_of known e.id ≡ Some e.rows
    → IsSoundSegment files s (owner_of known) e n → IsSoundNow files s e known known n
still_known files s e known n all here sound = record {
  sound = sound;
  known = all;
  here = here;
  others = record { counts = λ other apart. refl; owners = λ number other apart some is. is };
}

owned_still : (id other : ℕ) (old new : Known) (rows : List Row) → Keeps id old new → id ≢ other → IsSome (count_of old other) → AreOwned (owner_of old) other rows → AreOwned (owner_of new) other rows
owned_still id other old new [] keeps apart some owned = tt
owned_still id other old new (r ∷ rs) keeps apart some owned =
    (keeps.owners (number_of r.birth) other apart some owned.0, owned_still id other old new rs keeps apart some owned.1)

some_is : {A : Type 0} (o : Option A) (x : A) → o ≡ Some x → IsSome o
some_is {A} o x is = ap is_some is

-- one segment more is known
pub now_known : (files : Files) (s : ℕ) (e : HeadSegment) (g : Lived) (old new : Known) (n : ℕ) → IsKnown files (s + 1) old → HasSegment files s e g → IsInverted g.segment
    → Takes e.id g.segment.rows old new → n ≡ count_live g.live.marks → IsSoundNow files s e old new n
now_known files s e g old new n all has inverted takes counted = record {
  sound = record { segment = g; has = has; inverted = inverted; owned = takes.owned; live_is = counted };
  known = known;
  here = here;
  others = takes.others;
}
  where
    here : count_of new e.id ≡ Some e.rows
    here = takes.here ∙ ap (λ (k : ℕ). Some k) has.count

    known : IsKnown files (s + 1) new
    known id k is = elim (cases_eq e.id id) [
      | inl same ↦
          let there : count_of new id ≡ Some e.rows = subst (λ (i : ℕ). count_of new i ≡ Some e.rows) same here in
          let count : e.rows ≡ k = (let one : Some e.rows ≡ Some k = sym there ∙ is in cc) in record {
            number = s;
            entry = e;
            segment = g;
            earlier = omega arith;
            id_is = same;
            rows_are = count;
            has = has;
            inverted = inverted;
            owned = subst (λ (i : ℕ). AreOwned (owner_of new) i g.segment.rows) same takes.owned;
          }
      | inr apart ↦
          let was_there : count_of old id ≡ Some k = sym (takes.others.counts id apart) ∙ is in
          let was = all id k was_there in record {
            number = was.number;
            entry = was.entry;
            segment = was.segment;
            earlier = was.earlier;
            id_is = was.id_is;
            rows_are = was.rows_are;
            has = was.has;
            inverted = was.inverted;
            owned = owned_still e.id id old new was.segment.segment.rows takes.others apart (some_is (count_of old id) k was_there) was.owned;
          }
    ]

-- ---- one segment after another

pub none_sound : (files : Files) (s : ℕ) (known : Known) → IsKnown files s known → AreSound files s [] known 0
none_sound files s known all = record {
  segments = [];
  each = tt;
  inverted = tt;
  owned = tt;
  docs_are = refl;
  known_now = known_later files s (s + 1) (count_of known) (owner_of known) (omega arith) all;
  here = tt;
}

ids_before : (low limit : ℕ) (es : List HeadSegment) (i : ℕ) (d : HeadSegment) → i < length es → IdsRise low limit es → (low ≤ (get_or es i d).id) × IdsRise low (get_or es i d).id (take i es)
ids_before low limit [] i d lt ids = absurd (omega (arith, lt))
ids_before low limit (e ∷ es) zero d lt ids = (ids.0, tt)
ids_before low limit (e ∷ es) (suc i) d lt ids =
    let rest = ids_before (e.id + 1) limit es i d (omega (arith, lt)) ids.2 in
    (omega (arith, ids.0, rest.0), (ids.0, omega (arith, rest.0), rest.1))

-- the entries are known still
here_still : (low : ℕ) (e : HeadSegment) (es : List HeadSegment) (old new : Known) → Keeps e.id old new → IdsRise low e.id es → AllByRecursion (λ (f : HeadSegment). count_of old f.id ≡ Some f.rows) es
    → AllByRecursion (λ (f : HeadSegment). count_of new f.id ≡ Some f.rows) es
here_still low e [] old new keeps ids here = tt
here_still low e (f ∷ es) old new keeps ids here =
    let apart : e.id ≢ f.id = λ is. absurd (omega (arith, is, ids.1)) in
    (keeps.counts f.id apart ∙ here.0, here_still (f.id + 1) e es old new keeps ids.2 here.1)

-- and so are the operations of their rows
own_still : (files : Files) (s low : ℕ) (e : HeadSegment) (es : List HeadSegment) (gs : List Lived) (old new : Known) → Keeps e.id old new → IdsRise low e.id es → HaveSegments files s es gs
    → AllByRecursion (λ (f : HeadSegment). count_of old f.id ≡ Some f.rows) es → AllByRecursion (λ (g : Lived). AreOwned (owner_of old) g.segment.id g.segment.rows) gs
    → AllByRecursion (λ (g : Lived). AreOwned (owner_of new) g.segment.id g.segment.rows) gs
own_still files s low e [] [] old new keeps ids have here owned = tt
own_still files s low e [] (g ∷ gs) old new keeps ids have here owned = absurd have
own_still files s low e (f ∷ es) [] old new keeps ids have here owned = absurd have
own_still files s low e (f ∷ es) (g ∷ gs) old new keeps ids have here owned =
    let apart : e.id ≢ g.segment.id = λ is. absurd (omega (arith, is, have.0.id, ids.1)) in
    let there : count_of old g.segment.id ≡ Some f.rows = subst (λ (i : ℕ). count_of old i ≡ Some f.rows) (sym have.0.id) here.0 in (
      owned_still e.id g.segment.id old new g.segment.rows keeps apart (some_is (count_of old g.segment.id) f.rows there) owned.0,
      own_still files s (f.id + 1) e es gs old new keeps ids.2 have.1 here.1 owned.1,
    )

one_counted : (segments : List Lived) (g : Lived) → length (all_live (segments ++ g ∷ [])) ≡ length (all_live segments) + length (live g)
one_counted segments g =
    ap length (flat_map-append live segments (g ∷ [])) ∙ length-append (all_live segments) (all_live (g ∷ [])) ∙ ap (λ (rs : List Row). length (all_live segments) + length rs) (append-nil (live g))

more_docs : (files : Files) (s : ℕ) (e : HeadSegment) (segments : List Lived) (g : Lived) (docs n more : ℕ) → HasSegment files s e g → n ≡ count_live g.live.marks → docs ≡ doc_count (all_live segments)
    → more ≡ min (docs + n) (2 ^ 64 - 1) → more ≡ doc_count (all_live (segments ++ g ∷ []))
more_docs files s e segments g docs n more has counted docs_are adds =
    let live_is : length (live g) ≡ count_live g.live.marks = live_counted g.segment.rows g.live.marks has.whole.rows in
    omega (arith, one_counted segments g, live_is, counted, adds, docs_are)

pub one_more_sound : (files : Files) (s limit : ℕ) (es : List HeadSegment) (i : ℕ) (e : HeadSegment) (old new : Known) (docs n more : ℕ) → IdsRise 1 limit es → i < length es → e ≡ get_or es i e
    → AreSound files s (take i es) old docs → IsSoundNow files s e old new n → more ≡ min (docs + n) (2 ^ 64 - 1) → AreSound files s (take (i + 1) es) new more
one_more_sound files s limit es i e old new docs n more ids lt is so now adds = record {
  segments = so.segments ++ now.sound.segment ∷ [];
  each = subst (λ (fs : List HeadSegment). HaveSegments files s fs (so.segments ++ now.sound.segment ∷ [])) (sym taken) (have_push files s (take i es) so.segments e now.sound.segment so.each now.sound.has);
  inverted = all_push (λ (g : Lived). IsInverted g.segment) so.segments now.sound.segment so.inverted now.sound.inverted;
  owned = all_push (λ (g : Lived). AreOwned (owner_of new) g.segment.id g.segment.rows) so.segments now.sound.segment
      (own_still files s 1 e (take i es) so.segments old new now.others below so.each so.here so.owned)
      (subst (λ (j : ℕ). AreOwned (owner_of new) j now.sound.segment.segment.rows) (sym now.sound.has.id) now.sound.owned);
  docs_are = more_docs files s e so.segments now.sound.segment docs n more now.sound.has now.sound.live_is so.docs_are adds;
  known_now = now.known;
  here = subst (AllByRecursion (λ (f : HeadSegment). count_of new f.id ≡ Some f.rows)) (sym taken)
      (all_push (λ (f : HeadSegment). count_of new f.id ≡ Some f.rows) (take i es) e (here_still 1 e (take i es) old new now.others below so.here) now.here);
}
  where
    taken : take (i + 1) es ≡ take i es ++ e ∷ []
    taken = take_more es i e lt ∙ ap (λ (x : HeadSegment). take i es ++ x ∷ []) (sym is)

    below : IdsRise 1 e.id (take i es)
    below = subst (λ (x : HeadSegment). IdsRise 1 x.id (take i es)) (sym is) (ids_before 1 limit es i e lt ids).1

-- the same, of entries that are seen through a slice
pub one_more_seen : (files : Files) (s limit : ℕ) (es seen : List HeadSegment) (i : ℕ) (d : HeadSegment) (old new : Known) (docs n more : ℕ) → seen ≡ es → IdsRise 1 limit es → i < length seen
    → AreSound files s (take i es) old docs → IsSoundNow files s (get_or seen i d) old new n → more ≡ min (docs + n) (2 ^ 64 - 1) → AreSound files s (take (i + 1) es) new more
one_more_seen files s limit es seen i d old new docs n more same ids lt so now adds =
    let within : i < length es = subst (λ (xs : List HeadSegment). i < length xs) same lt in
    let here : IsSoundNow files s (get_or es i d) old new n = subst (λ (xs : List HeadSegment). IsSoundNow files s (get_or xs i d) old new n) same now in
    one_more_sound files s limit es i (get_or es i d) old new docs n more ids within (get_or_default es i d (get_or es i d) within) so here adds

pub all_sound : (files : Files) (s : ℕ) (es : List HeadSegment) (i : ℕ) (known : Known) (docs : ℕ) → length es ≤ i → AreSound files s (take i es) known docs → AreSound files s es known docs
all_sound files s es i known docs le so = subst (λ (fs : List HeadSegment). AreSound files s fs known docs) (take_all i es le) so
