-- Pairs of a name and a text that are read are those that were written, and what was written is read again.
use Rattle.std.proofs.Common.{◌≡◌, ℕ, true, List, ◌++◌, length, Option, None, Ok, refl, sym, ap, subst, ◌∙◌, append_assoc, arith}
use Rattle.std.specs.Int.{w32}
use Rattle.std.specs.List.{flat_map}
use Rattle.ix_base.specs.Limits.{names_rise}
use Rattle.ix_base.specs.Codec.{◌>>=◌, number_at, text_at, items_at}
use Rattle.ix_base.proofs.CodecLaws.{bind_ok, ok_is, Takes, Takes-then, u32_takes, u32_again, text_takes, text_again}
use Rattle.ix_base.specs.FileReading.{name_where}
use Rattle.ix_base.proofs.FileLaws.{name_where_takes, name_where_again}
use Rattle.ix_base.proofs.ItemLaws.{TakesItem, GivesItem, items_take, items_again, items_have, good_onto, good_each, good_both}
use Rattle.ix_base.specs.Spelling.{be32, text_bytes, AreBytes}
use Rattle.segment_files.specs.Fields.{comes_after}
use Rattle.segment_files.specs.Fits.{FieldFits, PairsFit}
use Rattle.segment_files.specs.Pairs.{pair_at, pairs_at}
use Rattle.segment_files.specs.Spelling.{field, fields}
use Rattle.segment_files.proofs.DocumentLaws.{Comes, named_ok, names, own_name, rise_from, rise_of}

record PairGood (last : Option (List ℕ)) (pair : List ℕ × List ℕ) : Type 0 where
  fits : FieldFits pair
  named : comes_after last pair.0 ≡ true

pair_takes : TakesItem pair_at field PairGood
unfolding pair_at
pair_takes last bytes x fits e =
    let a = bind_ok (name_where (comes_after last) bytes) (λ name. text_at name.1 >>= λ t. Ok ((name.0, t.0), t.1)) x e in
    let b = bind_ok (text_at a.0.1) (λ t. Ok ((a.0.0, t.0), t.1)) x a.2 in
    let t0 = name_where_takes (comes_after last) bytes a.0 fits a.1 in
    let t1 = text_takes a.0.1 b.0 t0.0.rest_fits b.1 in
    let both = Takes-then bytes (text_bytes a.0.0) a.0.1 (text_bytes b.0.0) b.0.1 t0.0 t1.0 in
    let made : (List ℕ × List ℕ) × List ℕ = ((a.0.0, b.0.0), b.0.1) in
    subst (λ (y : (List ℕ × List ℕ) × List ℕ). Takes bytes (field y.0) y.1 × PairGood last y.0) (ok_is made x b.2) (both, record { fits = record { name = t0.1; text = t1.1 }; named = t0.2 })

pair_again : GivesItem pair_at field PairGood
unfolding pair_at
pair_again last pair rest good =
    let regrouped : field pair ++ rest ≡ text_bytes pair.0 ++ (text_bytes pair.1 ++ rest) = append_assoc (text_bytes pair.0) (text_bytes pair.1) rest in
    ap (pair_at last) regrouped ∙ rw (name_where_again (comes_after last) pair.0 (text_bytes pair.1 ++ rest) good.fits.name good.named, text_again pair.1 rest good.fits.text) refl

pair_comes : (last : Option (List ℕ)) (bytes : List ℕ) (x : (List ℕ × List ℕ) × List ℕ) → pair_at last bytes ≡ Ok x → Comes last x.0
unfolding pair_at
pair_comes last bytes x e =
    let a = bind_ok (name_where (comes_after last) bytes) (λ name. text_at name.1 >>= λ t. Ok ((name.0, t.0), t.1)) x e in
    let b = bind_ok (text_at a.0.1) (λ t. Ok ((a.0.0, t.0), t.1)) x a.2 in
    let made : (List ℕ × List ℕ) × List ℕ = ((a.0.0, b.0.0), b.0.1) in
    subst (λ (y : (List ℕ × List ℕ) × List ℕ). Comes last y.0) (ok_is made x b.2) (named_ok (comes_after last) bytes a.0 a.1)

pub pair_list_rises : (n : ℕ) (bytes : List ℕ) (x : List (List ℕ × List ℕ) × List ℕ) → items_at pair_at own_name None n bytes ≡ Ok x → names_rise (names x.0) ≡ true
pair_list_rises n bytes x e = rise_of x.0 (items_have pair_at own_name Comes pair_comes None n bytes x e)

-- what is read is what is spelled
pub pairs_take : (bytes : List ℕ) (x : List (List ℕ × List ℕ) × List ℕ) → AreBytes bytes → pairs_at bytes ≡ Ok x → Takes bytes (fields x.0) x.1 × PairsFit x.0
unfolding pairs_at
pairs_take bytes x fits e =
    let a = bind_ok (number_at w32 bytes) (λ n. items_at pair_at own_name None n.0 n.1) x e in
    let t0 = u32_takes bytes a.0 fits a.1 in
    let t1 = items_take pair_at own_name field PairGood pair_takes None a.0.0 a.0.1 x t0.0.rest_fits a.2 in
    let both = Takes-then bytes (be32 a.0.0) a.0.1 (flat_map field x.0) x.1 t0.0 t1.0 in (
      subst (λ (n : ℕ). Takes bytes (be32 n ++ flat_map field x.0) x.1) (sym t1.1) both,
      record {
        count = omega (arith, t0.1, t1.1);
        each = good_each PairGood FieldFits own_name (λ last p good. good.fits) None x.0 t1.2;
        rise = rise_of x.0 (good_onto PairGood Comes own_name (λ last p good. good.named) None x.0 t1.2);
      },
    )

-- what is spelled is read
pub pairs_again : (pairs : List (List ℕ × List ℕ)) (rest : List ℕ) → PairsFit pairs → pairs_at (fields pairs ++ rest) ≡ Ok (pairs, rest)
unfolding pairs_at
pairs_again pairs rest fits =
    let good = good_both PairGood Comes FieldFits own_name (λ last p fit comes. record { fits = fit; named = comes }) None pairs fits.each (rise_from pairs fits.rise) in
    let regrouped : fields pairs ++ rest ≡ be32 (length pairs) ++ (flat_map field pairs ++ rest) = append_assoc (be32 (length pairs)) (flat_map field pairs) rest in
    ap pairs_at regrouped ∙ rw (u32_again (length pairs) (flat_map field pairs ++ rest) fits.count) (items_again pair_at own_name field PairGood pair_again None pairs rest good)
