-- What a commit holds, other files that keep it hold.
use Rattle.std.specs.Prelude.{◌≡◌, ℕ, List, [], ◌∷◌, Option, Some, IsSome, Contains, refl}
use Rattle.std.proofs.Common.{inl, inr, suc, sym, subst, ◌∙◌, arith}
use Rattle.ix_base.specs.declared.document.Row.{Row}
use Rattle.ix_base.specs.declared.file_name.FileName.{FileName}
use Rattle.ix_base.specs.declared.file_name.FileName.TheVariants.{Commit, Rows, Posts, Live, Values}
use Rattle.ix_outside.specs.Files.{Files}
use Rattle.segment_core.specs.LiveRows.{Lived}
use Rattle.commit_point.specs.declared.heads.HeadSegment.{HeadSegment}
use Rattle.commit_point.proofs.RowsKept.{rows_kept}
use Rattle.commit_point.specs.Holds.{HoldsInverted, HasSegments, HaveSegments, IsAmong, IsFileOf}
use Rattle.commit_point.specs.Holds.{KeepsCommits, Lists, head_of, names_of}

here : (e : HeadSegment) (es : List HeadSegment) → Contains (e ∷ es) e
here e es = (0, omega arith, refl)

next_one : (e x : HeadSegment) (es : List HeadSegment) → Contains es x → Contains (e ∷ es) x
next_one e x es h = (suc h.0, omega (arith, h.1), h.2)

segments_there : (files d : Files) (t : ℕ) (entries : List HeadSegment) (segments : List Lived)
    → ((e : HeadSegment) → Contains entries e → (name : FileName) → IsAmong (names_of e) name → d name ≡ files name)
    → HaveSegments files t entries segments → HaveSegments d t entries segments
segments_there files d t [] [] same have = have
segments_there files d t [] (g ∷ gs) same have = have
segments_there files d t (e ∷ es) [] same have = have
segments_there files d t (e ∷ es) (g ∷ gs) same have = (
  record {
    id = have.0.id;
    count = have.0.count;
    whole = have.0.whole;
    applied = have.0.applied;
    rows = rows_kept files d e.id g.segment.rows (same e (here e es) (Rows e.id) (inl refl)) have.0.rows;
    posts = same e (here e es) (Posts e.id) (inr (inl refl)) ∙ have.0.posts;
    live = same e (here e es) (Live e.id e.written) (inr (inr (inl refl))) ∙ have.0.live;
    values = same e (here e es) (Values e.id e.written) (inr (inr (inr (inl refl)))) ∙ have.0.values;
    rows_fit = have.0.rows_fit;
    posts_fit = have.0.posts_fit;
    live_fit = have.0.live_fit;
    values_fit = have.0.values_fit;
  },
  segments_there files d t es gs (λ x h. same x (next_one e x es h)) have.1,
)

pub there_by : (files : Files) (s : ℕ) (bytes : List ℕ) → files (Commit s) ≡ Some bytes → IsSome (files (Commit s))
there_by files s bytes is = subst (λ (o : Option (List ℕ)). IsSome o) (sym is) refl

pub has_there : (files d : Files) (s next : ℕ) (entries : List HeadSegment) (segments : List Lived)
    → KeepsCommits files d → HasSegments files s next entries segments → HasSegments d s next entries segments
has_there files d s next entries segments kept h =
    let there = there_by files s _ h.head.file in
    record {
      tail = h.tail;
      head = record {
        file = kept s there (Commit s) (inl refl) ∙ h.head.file;
        number = h.head.number;
        fits = h.head.fits;
      };
      each = segments_there files d s entries segments
          (λ e listed name among.
          let lists : Lists files s e =
          record { head = head_of s next h.tail entries segments; has_head = h.head; listed = listed } in
          kept s there name (inr (e, lists, among)))
          h.each;
      apart = h.apart;
    }

pub inverted_there : (files d : Files) (s next : ℕ) (rows : List Row) → KeepsCommits files d
    → HoldsInverted files s next rows → HoldsInverted d s next rows
inverted_there files d s next rows kept h = record {
  holds = record {
    entries = h.holds.entries;
    segments = h.holds.segments;
    spelled = has_there files d s next h.holds.entries h.holds.segments kept h.holds.spelled;
    rows_are = h.holds.rows_are;
  };
  inverted = h.inverted;
}

pub lists_there : (files d : Files) (s : ℕ) (e : HeadSegment) → d (Commit s) ≡ files (Commit s) → Lists files s e
    → Lists d s e
lists_there files d s e same lists = record {
  head = lists.head;
  has_head = record {
    file = same ∙ lists.has_head.file;
    number = lists.has_head.number;
    fits = lists.has_head.fits;
  };
  listed = lists.listed;
}

file_there : (files d : Files) (s : ℕ) (name : FileName) → KeepsCommits files d → IsSome (files (Commit s))
    → IsFileOf files s name → IsFileOf d s name
file_there files d s name kept there (inl e) = inl e
file_there files d s name kept there (inr found) =
    inr (found.0, lists_there files d s found.0 (kept s there (Commit s) (inl refl)) found.1, found.2)

pub kept_through : (files d c : Files) → KeepsCommits files d → KeepsCommits d c → KeepsCommits files c
kept_through files d c first second s there name of_s =
    let in_d : IsSome (d (Commit s)) =
    subst (λ (o : Option (List ℕ)). IsSome o) (sym (first s there (Commit s) (inl refl))) there in
    second s in_d name (file_there files d s name first there of_s) ∙ first s there name of_s
