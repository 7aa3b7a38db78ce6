-- What the reads of one segment's files tell: which of them were read, or which is the first that is broken.
use Rattle.std.specs.Prelude.{◌≡◌, ◌⊎◌, ℕ, List, Bool, Option, Some}
use Rattle.ix_base.specs.declared.damaged.Damaged.{Damaged}
use Rattle.ix_base.specs.declared.document.Row.{Row}
use Rattle.ix_base.specs.declared.file_name.FileName.TheVariants.{Rows, Posts, Live, Values}
use Rattle.ix_base.specs.declared.postings.Postings.{Postings}
use Rattle.ix_outside.specs.Files.{Files, Reads}
use Rattle.segment_core.specs.LiveRows.{Lived, IsWhole}
use Rattle.segment_files.specs.Fits.{IsSegment, PostingsFit}
use Rattle.live_files.specs.LiveFits.{LiveFits, ValuesFit}
use Rattle.live_files.specs.LiveReading.{live_in, values_in}
use Rattle.live_files.specs.LiveSpelling.{SetValue, live_file, values_file, live_bits, values_of}
use Rattle.segment_files.specs.Reading.{rows_in, posts_in}
use Rattle.segment_files.specs.Spelling.{SpellsRows, posts_file}
use Rattle.commit_point.specs.declared.heads.HeadSegment.{HeadSegment}
use Rattle.commit_point.specs.Loading.{IsBroken}

-- ---- one file

-- the rows of a segment of the commit s were read, in either form
pub record RowsRead (told : Option Files) (s : ℕ) (known : ℕ → Bool) (e : HeadSegment) (rows : List Row) : Type 0 where
  pub bytes : List ℕ
  pub seen : Reads told (Rows e.id) (Some bytes)
  pub spells : SpellsRows e.id rows bytes
  pub segment : IsSegment s e.rows known rows

abbrev pub RowsBroken : Option Files → ℕ → (ℕ → Bool) → HeadSegment → Damaged → Type 0
RowsBroken told s known e d = IsBroken told (Rows e.id) (rows_in e.id e.rows s known) d

-- its postings were read
abbrev pub PostingsRead : Option Files → HeadSegment → Postings → Type 0
PostingsRead told e postings =
    Reads told (Posts e.id) (Some (posts_file e.id e.rows postings)) × PostingsFit e.rows postings

abbrev pub PostingsBroken : Option Files → HeadSegment → Damaged → Type 0
PostingsBroken told e d = IsBroken told (Posts e.id) (posts_in e.id e.rows) d

-- its live bits were read
abbrev pub BitsRead : Option Files → HeadSegment → List Bool → Type 0
BitsRead told e bits = Reads told (Live e.id e.written) (Some (live_file e.id e.written bits)) × LiveFits e.rows bits

abbrev pub BitsBroken : Option Files → HeadSegment → Damaged → Type 0
BitsBroken told e d = IsBroken told (Live e.id e.written) (live_in e.id e.written e.rows) d

-- its set numbers were read
abbrev pub ValuesRead : Option Files → HeadSegment → List SetValue → Type 0
ValuesRead told e values =
    Reads told (Values e.id e.written) (Some (values_file e.id e.written e.rows values)) × ValuesFit e.rows values

abbrev pub ValuesBroken : Option Files → HeadSegment → Damaged → Type 0
ValuesBroken told e d = IsBroken told (Values e.id e.written) (values_in e.id e.written e.rows) d

-- ---- one file after another

-- the live bits are broken, or they were read and the set numbers are
abbrev pub LiveBroken : Option Files → HeadSegment → Damaged → Type 0
LiveBroken told e d = BitsBroken told e d ⊎ ((bits : List Bool) × BitsRead told e bits × ValuesBroken told e d)

-- the postings are broken, or they were read and the live bits or set numbers are
abbrev pub LaterBroken : Option Files → HeadSegment → Damaged → Type 0
LaterBroken told e d =
    PostingsBroken told e d
    ⊎ ((postings : Postings) × PostingsRead told e postings × LiveBroken told e d)

-- the rows are broken, or they were read and a later file is
abbrev pub SegmentBroken : Option Files → ℕ → (ℕ → Bool) → HeadSegment → Damaged → Type 0
SegmentBroken told s known e d =
    RowsBroken told s known e d ⊎ ((rows : List Row) × RowsRead told s known e rows × LaterBroken told e d)

-- a segment of the commit s was read
pub record SegmentRead (told : Option Files) (s : ℕ) (known : ℕ → Bool) (e : HeadSegment) (g : Lived) : Type 0 where
  pub id : g.segment.id ≡ e.id
  pub applied : g.live.applied ≡ s
  pub whole : IsWhole g.segment g.live
  pub rows : RowsRead told s known e g.segment.rows
  pub postings : PostingsRead told e g.segment.postings
  pub bits : BitsRead told e (live_bits g.live.marks)
  pub values : ValuesRead told e (values_of g.live.marks)
