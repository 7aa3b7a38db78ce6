-- Writers of a round at work in the tests.
use Rattle.std.proofs.Common.{◌≡◌, ◌∙◌, ℕ, zero, suc, ◌+◌, ◌<◌, List, [], ◌∷◌, ◌++◌, length, replicate, sym, ap, subst, arith}
use Rattle.std.specs.Prelude.{slice_index_or, slice_set}
use Rattle.std.specs.List.{AllByRecursion}
use Rattle.std.specs.Global.{Vec}
use Rattle.std.proofs.lemmas.List.{length-set}
use Rattle.ix_base.specs.declared.document.Operation.{Operation}
use Rattle.delete_queue.specs.declared.queue.DeleteQueue.{DeleteQueue}
use Rattle.delete_queue.specs.Seats.{Grows, base_of}
use Rattle.row_fates.specs.Fate.{Numbered}
use Rattle.thread_writer.specs.declared.piece.Piece.{Piece}
use Rattle.thread_writer.specs.declared.told.Told.{Told}
use Rattle.thread_writer.specs.declared.told.Told.TheVariants as told
use Rattle.thread_writer.specs.declared.writer.ThreadWriter.{ThreadWriter}
use Rattle.thread_writer.specs.Answers.{IfNotNumbered, IfNumbered}
use Rattle.thread_writer.specs.Writing.{Did, IsWriter, Numbers, Stays, parts_of}
use Rattle.index_writer.specs.declared.round.RoundParts.{RoundParts}
use Rattle.index_writer.specs.Rounds.{AreBegunFrom, AreWorkersFrom, IsWorker}
use Rattle.index_writer_tests.specs.Trials.{IsUnderWay, StaysAtWork}

-- ---- a writer

-- it was told nothing besides
pub told_nothing : (q : DeleteQueue) (old new : ThreadWriter) (gave given : List Piece) → IsWriter q new
    → Grows old.seat new.seat
    → ((before : List Numbered) → Did q (parts_of old) before gave → Did q (parts_of new) before given)
    → StaysAtWork q old gave new given
told_nothing q old new gave given writer grows history = λ number at.
    (at.0, record { number_is = grows.number ∙ at.1.number_is; writer = writer; did = history at.0 at.1.did })

stayed : (q : DeleteQueue) (old new : ThreadWriter) (gave : List Piece) → IsWriter q new
    → Grows old.seat new.seat → Stays q old new
    → StaysAtWork q old gave new gave
stayed q old new gave writer grows stays =
    told_nothing q old new gave gave writer grows (λ before did. stays.history before gave did)

-- it did an operation, or refused it
pub lined : (q : DeleteQueue) (op : Operation) (is : Told) (old new : ThreadWriter) (gave : List Piece)
    → IsWriter q new → Grows old.seat new.seat
    → IfNumbered is (λ n. Numbers q op n old new) → IfNotNumbered is (Stays q old new)
    → StaysAtWork q old gave new gave
lined q op (told.Numbered n) old new gave writer grows numbers stays = λ number at. (
  at.0 ++ (n, op) ∷ [],
  record { number_is = grows.number ∙ at.1.number_is; writer = writer; did = numbers.history at.0 gave at.1.did },
)
lined q op (told.RefusedTerm size) old new gave writer grows numbers stays = stayed q old new gave writer grows stays
lined q op (told.RefusedQuery size) old new gave writer grows numbers stays = stayed q old new gave writer grows stays
lined q op told.Closed old new gave writer grows numbers stays = stayed q old new gave writer grows stays
lined q op (told.Full need left) old new gave writer grows numbers stays = stayed q old new gave writer grows stays
lined q op told.NoMemory old new gave writer grows numbers stays = stayed q old new gave writer grows stays

-- ---- the writers of a round

pub writer_at : (q : DeleteQueue) (i : ℕ) (all : List (List Numbered)) (ws : List ThreadWriter)
    (ps : List (Vec Piece)) (at : ℕ) (w : ThreadWriter)
    → AreWorkersFrom q i all ws ps → at < length ws → slice_index_or ws at w ≡ w → IsWriter q w
writer_at q i [] [] [] at w are inside is = absurd (omega (arith, inside))
writer_at q i [] [] (p ∷ ps) at w are inside is = absurd are
writer_at q i [] (x ∷ ws) [] at w are inside is = absurd are
writer_at q i [] (x ∷ ws) (p ∷ ps) at w are inside is = absurd are
writer_at q i (t ∷ all) [] [] at w are inside is = absurd are
writer_at q i (t ∷ all) [] (p ∷ ps) at w are inside is = absurd are
writer_at q i (t ∷ all) (x ∷ ws) [] at w are inside is = absurd are
writer_at q i (t ∷ all) (x ∷ ws) (p ∷ ps) zero w are inside is = subst (IsWriter q) is are.0.writer
writer_at q i (t ∷ all) (x ∷ ws) (p ∷ ps) (suc at) w are inside is =
    writer_at q (i + 1) all ws ps at w are.1 (omega (arith, inside)) is

-- writers with the seat numbers from this one on were told something
abbrev AreAtWork : DeleteQueue → ℕ → List ThreadWriter → List (Vec Piece) → Type 0
AreAtWork q i ws ps = (told : List (List Numbered)) × AreWorkersFrom q i told ws ps

-- one of the writers stays at work
worked_at : (q : DeleteQueue) (i : ℕ) (all : List (List Numbered)) (ws : List ThreadWriter)
    (ps : List (Vec Piece)) (at : ℕ) (w v : ThreadWriter) (p r : Vec Piece)
    → AreWorkersFrom q i all ws ps → at < length ws → slice_index_or ws at w ≡ w → slice_index_or ps at p ≡ p
    → StaysAtWork q w p.items v r.items → AreAtWork q i (slice_set ws at v) (slice_set ps at r)
worked_at q i [] [] [] at w v p r are inside is_w is_p works = absurd (omega (arith, inside))
worked_at q i [] [] (y ∷ ps) at w v p r are inside is_w is_p works = absurd are
worked_at q i [] (x ∷ ws) [] at w v p r are inside is_w is_p works = absurd are
worked_at q i [] (x ∷ ws) (y ∷ ps) at w v p r are inside is_w is_p works = absurd are
worked_at q i (t ∷ all) [] [] at w v p r are inside is_w is_p works = absurd are
worked_at q i (t ∷ all) [] (y ∷ ps) at w v p r are inside is_w is_p works = absurd are
worked_at q i (t ∷ all) (x ∷ ws) [] at w v p r are inside is_w is_p works = absurd are
worked_at q i (t ∷ all) (x ∷ ws) (y ∷ ps) zero w v p r are inside is_w is_p works =
    let before : IsWorker q i t w p.items =
    subst (λ (ps : Vec Piece). IsWorker q i t w ps.items) is_p
    (subst (λ (u : ThreadWriter). IsWorker q i t u y.items) is_w are.0) in
    let now = works i (t, before) in (now.0 ∷ all, (now.1, are.1))
worked_at q i (t ∷ all) (x ∷ ws) (y ∷ ps) (suc at) w v p r are inside is_w is_p works =
    let more = worked_at q (i + 1) all ws ps at w v p r are.1 (omega (arith, inside)) is_w is_p works in
    (t ∷ more.0, (are.0, more.1))

-- The round after a step of one of its writers: it is the same but for this writer and its pieces.
pub record Steps (old new : RoundParts) (at : ℕ) (w v : ThreadWriter) (p r : Vec Piece) : Type 0 where
  pub inside : at < length old.writers.items
  pub queue : new.queue ≡ old.queue
  pub was : slice_index_or old.writers.items at w ≡ w
  pub gave : slice_index_or old.pieces.items at p ≡ p
  pub writers : new.writers.items ≡ slice_set old.writers.items at v
  pub pieces : new.pieces.items ≡ slice_set old.pieces.items at r

pub goes_on : (old new : RoundParts) (at : ℕ) (w v : ThreadWriter) (p r : Vec Piece) (base : ℕ)
    → Steps old new at w v p r
    → StaysAtWork old.queue w p.items v r.items → IsUnderWay base old → IsUnderWay base new
goes_on old new at w v p r base steps works under_way =
    let are = under_way.1 in
    let now = worked_at old.queue 0 under_way.0 old.writers.items old.pieces.items at w v p r are.workers steps.inside steps.was steps.gave works in (
      now.0,
      record {
        base_is = ap base_of steps.queue ∙ are.base_is;
        all =
            ap (λ (ws : List ThreadWriter). length ws) steps.writers
            ∙ (length-set old.writers.items at v ∙ (are.all ∙ ap (λ (q : DeleteQueue). q.seats) (sym steps.queue)));
        workers =
            subst (λ (q : DeleteQueue). AreWorkersFrom q 0 now.0 new.writers.items new.pieces.items) (sym steps.queue)
            (subst (λ (ws : List ThreadWriter). AreWorkersFrom old.queue 0 now.0 ws new.pieces.items) (sym steps.writers)
            (subst (λ (ps : List (Vec Piece)). AreWorkersFrom old.queue 0 now.0 (slice_set old.writers.items at v) ps) (sym steps.pieces) now.1));
      },
    )

-- ---- a round that begins

pub none_more : (ps : List (Vec Piece)) (p : Vec Piece)
    → AllByRecursion (λ (gave : Vec Piece). gave.items ≡ []) ps → p.items ≡ []
    → AllByRecursion (λ (gave : Vec Piece). gave.items ≡ []) (ps ++ p ∷ [])
none_more [] p none empty = (empty, tt)
none_more (x ∷ ps) p none empty = (none.0, none_more ps p none.1 empty)

pub parts_begun : (q : DeleteQueue) (size i n : ℕ) (ws : List ThreadWriter) (ps : List (Vec Piece))
    → AreBegunFrom q size i ws → length ws ≡ n → length ps ≡ n
    → AllByRecursion (λ (gave : Vec Piece). gave.items ≡ []) ps → AreWorkersFrom q i (replicate n []) ws ps
parts_begun q size i zero [] [] begun many also none = tt
parts_begun q size i zero [] (p ∷ ps) begun many also none = absurd (omega (arith, also))
parts_begun q size i zero (w ∷ ws) ps begun many also none = absurd (omega (arith, many))
parts_begun q size i (suc n) [] ps begun many also none = absurd (omega (arith, many))
parts_begun q size i (suc n) (w ∷ ws) [] begun many also none = absurd (omega (arith, also))
parts_begun q size i (suc n) (w ∷ ws) (p ∷ ps) begun many also none = (
  subst (IsWorker q i [] w) (sym none.0) (record { number_is = begun.0.number_is; writer = begun.0.writer; did = begun.0.did }),
  parts_begun q size (i + 1) n ws ps begun.1 (omega (arith, many)) (omega (arith, also)) none.1,
)
