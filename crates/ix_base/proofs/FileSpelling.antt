-- How the numbers in a file's name are found again.
use Rattle.std.proofs.Common.{◌≡◌, ◌<◌, ◌++◌, ◌∙◌, ℕ, zero, suc, List, [], ◌∷◌, codes, length, sym, ap, arith, Bor}
use Rattle.std.specs.Fmt.{decimal}
use Rattle.std.specs.Option.{MatchOption}
use Rattle.std.specs.declared.option.Option.{Option}
use Rattle.std.specs.Str.Parse.{AllDigits}
use Rattle.std.proofs.Math.ListN.{get_or}
use Rattle.std.proofs.lemmas.Fmt.{decimal_is_IsNumeral}
use Rattle.std.proofs.lemmas.Str.Parse.{digit_from_value}
use Rattle.std.proofs.lemmas.List.{append-nil}
use Rattle.std.proofs.lemmas.Str.Pattern.{IsSplitOnceResult, split_after}
use Rattle.ix_base.specs.FileNames.{name_text, IsCounted, IsFileName}
use Rattle.ix_base.specs.declared.file_name.FileName.{FileName}
use Rattle.ix_base.specs.declared.file_name.FileName.TheVariants.{Commit, Pending, Rows, Posts, Live, Values}

-- no digit is a `_`
no_mark : (ds : List ℕ) → AllDigits 10 ds → (i : ℕ) → i < length ds → get_or ds i 0 ≡ 95 → ⊥
no_mark [] d i inside e = omega (arith, inside)
no_mark (c ∷ cs) d zero inside e = omega (arith, (digit_from_value c d.0).1, e)
no_mark (c ∷ cs) d (suc i) inside e = no_mark cs d.1 i (omega (arith, inside)) e

-- the first `_` stands behind the id
pub split_numbers : (bs : List ℕ) (r : Option (Bor (List ℕ) × Bor (List ℕ))) → IsSplitOnceResult 95 bs r → (id number : ℕ) → IsCounted id → bs ≡ decimal id ++ (95 ∷ decimal number)
    → MatchOption r ⊥ (λ x. (x.0.now ≡ decimal id) × (x.1.now ≡ decimal number))
split_numbers bs r h id number own e = split_after 95 bs (decimal id) (decimal number) r h (omega arith) e (no_mark (decimal id) (decimal_is_IsNumeral id own.fits).0.1)

-- a text that is no name of either kind is foreign
pub foreign_text : (text : List ℕ)
    → ((n : ℕ) → IsCounted n → text ≡ codes "segments_" ++ (decimal n ++ []) → ⊥)
    → ((n : ℕ) → IsCounted n → text ≡ codes "pending_segments_" ++ (decimal n ++ []) → ⊥)
    → ((n : ℕ) → IsCounted n → text ≡ codes "seg_" ++ (decimal n ++ codes ".row") → ⊥)
    → ((n : ℕ) → IsCounted n → text ≡ codes "seg_" ++ (decimal n ++ codes ".pst") → ⊥)
    → ((id n : ℕ) → IsCounted id → IsCounted n → text ≡ codes "seg_" ++ (decimal id ++ (codes "_" ++ (decimal n ++ codes ".liv"))) → ⊥)
    → ((id n : ℕ) → IsCounted id → IsCounted n → text ≡ codes "seg_" ++ (decimal id ++ (codes "_" ++ (decimal n ++ codes ".val"))) → ⊥)
    → (name : FileName) → IsFileName name → name_text name ≡ text → ⊥
foreign_text text commit pending rows posts live values (Commit s) real e = commit s real (sym e ∙ ap (λ l. codes "segments_" ++ l) (sym (append-nil (decimal s))))
foreign_text text commit pending rows posts live values (Pending s) real e = pending s real (sym e ∙ ap (λ l. codes "pending_segments_" ++ l) (sym (append-nil (decimal s))))
foreign_text text commit pending rows posts live values (Rows id) real e = rows id real (sym e)
foreign_text text commit pending rows posts live values (Posts id) real e = posts id real (sym e)
foreign_text text commit pending rows posts live values (Live id v) real e = live id v real.0 real.1 (sym e)
foreign_text text commit pending rows posts live values (Values id v) real e = values id v real.0 real.1 (sym e)
