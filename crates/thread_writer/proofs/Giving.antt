-- A buffer given off as a piece.
use Rattle.std.proofs.Common.{◌≡◌, ◌∙◌, ℕ, ◌+◌, List, [], Result, Ok, Err, OnErr, map, length, sym, ap, subst, arith}
use Rattle.ix_base.specs.Births.{last_birth}
use Rattle.ix_base.specs.Inversion.{IsInversion}
use Rattle.ix_base.specs.declared.document.Row.{Row}
use Rattle.delete_queue.specs.declared.queue.DeleteQueue.{DeleteQueue}
use Rattle.delete_queue.specs.declared.seat.Place.{Place}
use Rattle.delete_queue.specs.declared.seat.Seat.{Seat}
use Rattle.delete_queue.specs.Seats.{IsSeatOf, Grows, Learns, base_of, number_of, own_of, seen_of, last_of}
use Rattle.delete_slice.specs.Entries.{numbers_behind}
use Rattle.delete_slice.specs.Laws.{NumbersEndAtLast, SlicesStay}
use Rattle.delete_slice.specs.Slices.{IsSliceOf}
use Rattle.delete_slice.specs.Taken.{AreWithin, TakesSlice}
use Rattle.row_fates.specs.Fate.{BornBy, BirthsRise}
use Rattle.frozen_packet.specs.declared.updates.Updates.{Updates}
use Rattle.frozen_packet.specs.Updates.{as_operations}
use Rattle.ram_postings.specs.Buffer.{Staged, born_rows}
use Rattle.thread_writer.specs.declared.piece.Piece.{Piece}
use Rattle.thread_writer.specs.declared.writer.ThreadWriter.{ThreadWriter}
use Rattle.thread_writer.specs.Lines.{Reads}
use Rattle.thread_writer.specs.Writing.{IsWriter, IsPiece, Stays, Gives, parts_of, numbered_own}
use Rattle.thread_writer.proofs.Buffers.{born_more, few_rows}
use Rattle.thread_writer.proofs.Doing.{did_same, did_give}
use Rattle.thread_writer.proofs.Knowing.{grows_on, last_within, base_before}

pub reads : SlicesStay → (q : DeleteQueue) (old new : ThreadWriter) (s : Seat) → Learns old.seat s → Learns s new.seat → IsSeatOf q new.seat
    → IsSliceOf s new.slice → new.slice.from ≡ old.slice.from → new.rows ≡ old.rows → new.size ≡ old.size → Reads q old new
reads slices q old new s first second seat slice from rows size = record {
  seat = seat;
  grows = grows_on old.seat s new.seat first.grows second.grows;
  own = second.own ∙ first.own;
  slice = slices s new.seat new.slice second.grows.extends slice;
  from = from;
  rows = rows;
  size = size;
}

pub on_err : {T E : Type 0} {P : Type 0} (r : Result T E) → P → OnErr r P
on_err (Ok x) p = tt
on_err (Err e) p = p

pub read_writer : (q : DeleteQueue) (old new : ThreadWriter) → IsWriter q old → Reads q old new → IsWriter q new
read_writer q old new w r = let size = r.size in let some = w.some in let most = w.most in let room = w.room in let count = ap length r.rows in record {
  ready = record {
    seat = r.seat;
    slice = r.slice;
    births =
        subst (λ (p : Place). BirthsRise (last_birth (base_of q + p.at)) (born_rows new.rows)) (sym r.from)
        (subst (λ xs. BirthsRise (last_birth (base_of q + old.slice.from.at)) (born_rows xs)) (sym r.rows) w.ready.births);
    born =
        subst (λ xs. BornBy (last_of new.seat) (born_rows xs)) (sym r.rows)
        (born_more (last_of old.seat) (last_of new.seat) (born_rows old.rows) r.grows.extends.last w.ready.born);
  };
  some = omega (arith, size, some);
  most = omega (arith, size, most);
  room = omega (arith, size, count, room);
}

pub read_stays : (q : DeleteQueue) (old new : ThreadWriter) → Reads q old new → Stays q old new
read_stays q old new r = record {
  own = r.own;
  rows = ap born_rows r.rows;
  history = did_same q (parts_of old) (parts_of new) r.grows (ap numbered_own r.own) (ap born_rows r.rows);
}

-- the same of a buffer that has the same rows
pub reads_rows : (q : DeleteQueue) (old new : ThreadWriter) (rows : List Staged) → rows ≡ new.rows → Reads q old new → Reads q old (record new { rows = rows })
reads_rows q old new rows same r = record { seat = r.seat; grows = r.grows; own = r.own; slice = r.slice; from = r.from; rows = same ∙ r.rows; size = r.size }

-- what was made of the buffer and of the slice, read to its end, is a piece
is_piece : NumbersEndAtLast → (q : DeleteQueue) (old read : ThreadWriter) (begun : Updates) (p : Piece) → IsWriter q old → Reads q old read
    → read.slice.to.at ≡ seen_of read.seat → as_operations begun ≡ [] → TakesSlice q read.seat read.slice begun p.updates
    → p.frozen.rows.items ≡ born_rows read.rows → IsInversion (map (λ (row : Row). row.doc) (born_rows read.rows)) p.frozen.postings
    → p.worker ≡ number_of read.seat → p.cut ≡ last_of read.seat → IsPiece q read.seat p
is_piece ends q old read begun p w r to nothing took rows inversion worker cut =
    let later = read_writer q old read w r in
    let few = few_rows read.rows in let count = ap length rows in let room = later.room in let most = later.most in
    let last = last_within q read.seat r.seat in let base = base_before q read.seat r.seat in record {
      worker = worker;
      inversion = subst (λ (rs : List Row). IsInversion (map (λ (row : Row). row.doc) rs) p.frozen.postings) (sym rows) inversion;
      few = omega (arith, count, few, room, most);
      from = read.slice.from.at;
      to = read.slice.to.at;
      begun = begun;
      nothing = nothing;
      took = took;
      births = subst (BirthsRise (last_birth (base_of q + read.slice.from.at))) (sym rows) later.ready.births;
      born = subst (λ (n : ℕ). BornBy n p.frozen.rows.items) (sym cut) (subst (BornBy (last_of read.seat)) (sym rows) later.ready.born);
      numbers =
          subst (λ (n : ℕ). AreWithin (base_of q + read.slice.from.at) n (numbers_behind (base_of q) read.slice.from.at took.entries)) (sym cut)
          (ends q read.seat read.slice.from.at took.entries r.seat took.stand);
      reach = omega (arith, cut, last, to);
      not_before = omega (arith, cut, base);
      within = omega (arith, cut);
    }

pub gives : NumbersEndAtLast → (q : DeleteQueue) (old read new : ThreadWriter) (begun : Updates) (p : Piece) → IsWriter q old → Reads q old read
    → read.slice.to.at ≡ seen_of read.seat → as_operations begun ≡ [] → TakesSlice q read.seat read.slice begun p.updates
    → p.frozen.rows.items ≡ born_rows read.rows → IsInversion (map (λ (row : Row). row.doc) (born_rows read.rows)) p.frozen.postings
    → p.worker ≡ number_of read.seat → p.cut ≡ last_of read.seat → new.seat ≡ read.seat → new.rows ≡ [] → new.slice.from.at ≡ seen_of new.seat → Gives q p old new
gives ends q old read new begun p w r to nothing took rows inversion worker cut seat empty begins =
    let here = is_piece ends q old read begun p w r to nothing took rows inversion worker cut in
    let piece : IsPiece q new.seat p = subst (λ s. IsPiece q s p) (sym seat) here in
    let of_old : p.frozen.rows.items ≡ born_rows old.rows = rows ∙ ap born_rows r.rows in record {
      history =
          did_give q (parts_of old) (parts_of new) p (subst (λ s. Grows old.seat s) (sym seat) r.grows)
          (ap own_of seat ∙ r.own) empty of_old piece;
      piece = piece;
      rows = of_old;
      cut = cut ∙ ap last_of (sym seat);
      empty = empty;
      slice = begins;
    }
