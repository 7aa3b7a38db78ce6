-- What came back of a round, put together.
use Rattle.std.proofs.Common.{◌≡◌, ◌∙◌, ℕ, suc, ◌+◌, ◌≤◌, Option, Some, None, List, [], ◌∷◌, ◌++◌, map, length, refl, sym, ap, subst, arith, append-nil, append_assoc}
use Rattle.std.specs.Global.{Vec}
use Rattle.std.specs.Prelude.{slice_index_or}
use Rattle.std.specs.List.{AllByRecursion}
use Rattle.ix_base.specs.Steps.{numbered_from}
use Rattle.ix_base.specs.Words.{head_kind}
use Rattle.queue_rule.specs.Lists.{Each}
use Rattle.delete_queue.specs.declared.log.QueueLog.{QueueLog}
use Rattle.delete_queue.specs.declared.queue.DeleteQueue.{DeleteQueue}
use Rattle.delete_queue.specs.declared.seat.Seat.{Seat}
use Rattle.delete_queue.specs.Log.{IsLogOf, entries_of, last_head_or}
use Rattle.delete_queue.specs.Seats.{IsSeatOf, base_of}
use Rattle.ram_postings.specs.Buffer.{Staged, born_rows, row_of}
use Rattle.row_fates.specs.Fate.{Numbered}
use Rattle.thread_writer.specs.declared.piece.Piece.{Piece}
use Rattle.thread_writer.specs.declared.writer.ThreadWriter.{ThreadWriter}
use Rattle.thread_writer.specs.Writing.{Did, IsReady, parts_of}
use Rattle.flush_control.specs.LogLaws.{RoundsAreOrdered}
use Rattle.flush_control.specs.Logs.{AreSeatedFrom, EndBy, IsFinished, IsLast, IsPacketOf, Left, Ordered, all_pieces}
use Rattle.round_order.specs.Order.{seconds, told_of}
use Rattle.flush_control.specs.Rounds.{IsRound}
use Rattle.index_writer.specs.declared.ending.Gathered.{Gathered}
use Rattle.index_writer.specs.declared.ending.Rest.{Rest}
use Rattle.index_writer.specs.declared.round.RoundParts.{RoundParts}
use Rattle.index_writer.specs.Ending.{AreEnded, CanEnd, IsGathered, rests_of}
use Rattle.index_writer.specs.Rounds.{ArePartsOf, AreWorkersFrom}

-- ---- rows

-- a buffer has at most as many rows as documents
pub born_few : (ss : List Staged) → length (born_rows ss) ≤ length ss
born_few [] = omega arith
born_few (s ∷ ss) = by s.birth (born_few ss)
  where
    by : (birth : Option ℕ) → length (born_rows ss) ≤ length ss → length (row_of s.doc birth ++ born_rows ss) ≤ length (s ∷ ss)
    by None more = omega (arith, more)
    by (Some b) more = omega (arith, more)

-- ---- pieces, one writer after another

-- the pieces to come, after those so far, are those of all
abbrev pub GoesOn : ℕ → List Rest → List Rest → List Piece → Type 0
GoesOn base all to_come pieces = (more : List Piece) → AreEnded base to_come more → AreEnded base all (pieces ++ more)

pub one_more : (base : ℕ) (all : List Rest) (r : Rest) (rs : List Rest) (pieces new : List Piece) (last : Piece) → IsLast base r.rows last
    → new ≡ (pieces ++ r.gave.items) ++ last ∷ [] → GoesOn base all (r ∷ rs) pieces → GoesOn base all rs new
one_more base all r rs pieces new last is new_is so_far = λ more ended.
    let joined : pieces ++ (r.gave.items ++ last ∷ more) ≡ new ++ more =
    sym (append_assoc pieces r.gave.items (last ∷ more)) ∙ (sym (append_assoc (pieces ++ r.gave.items) (last ∷ []) more) ∙ ap (λ (ps : List Piece). ps ++ more) (sym new_is)) in
    subst (AreEnded base all) joined (so_far (r.gave.items ++ last ∷ more) (last, more, is, refl, ended))

pub all_ended : (base : ℕ) (all to_come : List Rest) (pieces : List Piece) → to_come ≡ [] → GoesOn base all to_come pieces → AreEnded base all pieces
all_ended base all to_come pieces none so_far =
    subst (AreEnded base all) (append-nil pieces) (so_far [] (subst (λ (rs : List Rest). AreEnded base rs []) (sym none) refl))

-- ---- the workers

abbrev pub seats_in : List ThreadWriter → List Seat
seats_in ws = map (λ (w : ThreadWriter). (parts_of w).seat) ws

pub record LeftsOf (q : DeleteQueue) (i base : ℕ) (told : List (List Numbered)) (ws : List ThreadWriter) (pieces : List Piece) : Type 0 where
  pub lefts : List Left
  pub seated : AreSeatedFrom i lefts
  pub many : length lefts ≡ length ws
  pub ready : AllByRecursion (λ (l : Left). IsReady q l.parts) lefts
  pub did : AllByRecursion (λ (l : Left). Did q l.parts l.told l.gave) lefts
  pub lasts : AllByRecursion (λ (l : Left). IsLast base l.parts.rest l.last) lefts
  pub all : all_pieces lefts ≡ pieces
  pub told_is : map (λ (l : Left). l.told) lefts ≡ told
  pub seats_are : map (λ (l : Left). l.parts.seat) lefts ≡ seats_in ws

pub record Workers (q : DeleteQueue) (i : ℕ) (told : List (List Numbered)) (ws : List ThreadWriter) (ps : List (Vec Piece)) : Type 0 where
  pub count : length ws ≡ length ps
  pub seats : Each (IsSeatOf q) (seats_in ws)
  pub can : AllByRecursion CanEnd (rests_of i ws ps)
  pub lefts : (base : ℕ) (pieces : List Piece) → AreEnded base (rests_of i ws ps) pieces → LeftsOf q i base told ws pieces

pub workers : (q : DeleteQueue) (i : ℕ) (told : List (List Numbered)) (ws : List ThreadWriter) (ps : List (Vec Piece))
    → AreWorkersFrom q i told ws ps → Workers q i told ws ps
workers q i [] [] [] are = record {
  count = refl;
  seats = tt;
  can = tt;
  lefts = λ base pieces ended. record {
    lefts = [];
    seated = tt;
    many = refl;
    ready = tt;
    did = tt;
    lasts = tt;
    all = sym ended;
    told_is = refl;
    seats_are = refl;
  };
}
workers q i [] [] (p ∷ ps) are = absurd are
workers q i [] (w ∷ ws) [] are = absurd are
workers q i [] (w ∷ ws) (p ∷ ps) are = absurd are
workers q i (t ∷ told) [] [] are = absurd are
workers q i (t ∷ told) [] (p ∷ ps) are = absurd are
workers q i (t ∷ told) (w ∷ ws) [] are = absurd are
workers q i (t ∷ told) (w ∷ ws) (p ∷ ps) are =
    let more = workers q (i + 1) told ws ps are.1 in
    let writer = are.0.writer in
    record {
      count = ap (λ (n : ℕ). suc n) more.count;
      seats = (writer.ready.seat, more.seats);
      can = (omega (arith, writer.room, writer.most), more.can);
      lefts = λ base pieces ended.
          let rest = more.lefts base ended.1 ended.4 in
          let one : Left = record { parts = parts_of w; told = t; gave = p.items; last = ended.0 } in
          record {
            lefts = one ∷ rest.lefts;
            seated = (are.0.number_is, rest.seated);
            many = ap (λ (n : ℕ). suc n) rest.many;
            ready = (writer.ready, rest.ready);
            did = (are.0.did, rest.did);
            lasts = (ended.2, rest.lasts);
            all =
                append_assoc p.items (ended.0 ∷ []) (all_pieces rest.lefts)
                ∙ (ap (λ (ps : List Piece). p.items ++ ended.0 ∷ ps) rest.all ∙ sym ended.3);
            told_is = ap (λ (ts : List (List Numbered)). t ∷ ts) rest.told_is;
            seats_are = ap (λ (ss : List Seat). w.seat ∷ ss) rest.seats_are;
          };
    }

-- ---- the round

pub gathered : RoundsAreOrdered → (base : ℕ) (told : List (List Numbered)) (parts : RoundParts) (seats : List Seat) (log : QueueLog) (g : Gathered)
    → ArePartsOf base told parts → seats ≡ seats_in parts.writers.items → IsLogOf parts.queue seats log
    → AreEnded base (rests_of 0 parts.writers.items parts.pieces.items) g.pieces.items → IsPacketOf log g.packet
    → g.kind ≡ head_kind (last_head_or 0 (entries_of log)) → IsGathered base told g
gathered law base told parts seats log g are seats_are is ended packet kind = record {
  ts = ordered.ts;
  order = λ i.
      subst (λ (b : ℕ). told_of i b ordered.ts ≡ slice_index_or told i []) are.base_is
      (subst (λ (all : List (List Numbered)). told_of i (base_of parts.queue) ordered.ts ≡ slice_index_or all i []) left.told_is (ordered.order i));
  round =
      subst (λ (b : ℕ). IsRound b (numbered_from b (seconds ordered.ts)) g.pieces.items g.packet) are.base_is
      (subst (λ (ps : List Piece). IsRound (base_of parts.queue) (numbered_from (base_of parts.queue) (seconds ordered.ts)) ps g.packet) left.all ordered.round);
  upto = ordered.upto ∙ ap (λ (b : ℕ). b + length ordered.ts) are.base_is;
  ends = subst (λ (k : ℕ). EndBy k (seconds ordered.ts)) (sym kind) ordered.ends;
}
  where
    left : LeftsOf parts.queue 0 base told parts.writers.items g.pieces.items
    left = (workers parts.queue 0 told parts.writers.items parts.pieces.items are.workers).lefts base g.pieces.items ended

    finished : IsFinished parts.queue left.lefts log
    finished = record {
      log_is = subst (λ (ss : List Seat). IsLogOf parts.queue ss log) (seats_are ∙ sym left.seats_are) is;
      seats = left.seated;
      all = left.many ∙ are.all;
      ready = left.ready;
      did = left.did;
      lasts =
          subst (λ (b : ℕ). AllByRecursion (λ (l : Left). IsLast b l.parts.rest l.last) left.lefts) (sym are.base_is)
          left.lasts;
    }

    ordered : Ordered parts.queue left.lefts log g.packet
    ordered = law parts.queue left.lefts log g.packet finished packet
