-- Entries behind a place, in two parts.
use Rattle.std.proofs.Common.{◌≡◌, ℕ, ◌+◌, ◌<◌, ◌≤◌, List, [], ◌∷◌, ◌++◌, length, sym, ap, ◌∙◌, subst, arith, append_assoc}
use Rattle.std.specs.List.{AllByRecursion}
use Rattle.node_words.specs.declared.entry.Entry.{Entry}
use Rattle.node_words.specs.declared.entry.Entry.TheVariants as e
use Rattle.row_fates.specs.Fate.{Numbered}
use Rattle.frozen_packet.specs.Updates.{entry_operation, NumberedUpTo}
use Rattle.delete_slice.specs.Taken.{AreWithin}
use Rattle.delete_slice.specs.Entries.{Standing, HasEntries, operations_behind, own_number, numbers_behind}

pub all_first : {A : Type 0} (P : A → Type 0) (xs ys : List A) → AllByRecursion P (xs ++ ys) → AllByRecursion P xs
all_first P [] ys h = tt
all_first P (x ∷ xs) ys h = (h.0, all_first P xs ys h.1)

pub all_second : {A : Type 0} (P : A → Type 0) (xs ys : List A) → AllByRecursion P (xs ++ ys) → AllByRecursion P ys
all_second P [] ys h = h
all_second P (x ∷ xs) ys h = all_second P xs ys h.1

pub upto_later : (upto later : ℕ) → upto ≤ later → (ops : List Numbered) → NumberedUpTo upto ops → NumberedUpTo later ops
upto_later upto later le [] h = tt
upto_later upto later le (x ∷ ops) h = (omega (arith, h.0), upto_later upto later le ops h.1)

pub operations-append : (base from : ℕ) (es fs : List Entry)
    → operations_behind base from (es ++ fs) ≡ operations_behind base from es ++ operations_behind base (from + length es) fs
operations-append base from [] fs = ap (λ (p : ℕ). operations_behind base p fs) (omega arith)
operations-append base from (e ∷ es) fs =
    ap (λ (l : List Numbered). entry_operation (base + (from + 1)) e ++ l) (operations-append base (from + 1) es fs)
    ∙ (sym (append_assoc (entry_operation (base + (from + 1)) e) (operations_behind base (from + 1) es) (operations_behind base (from + 1 + length es) fs))
    ∙ ap (λ (p : ℕ). operations_behind base from (e ∷ es) ++ operations_behind base p fs) (omega arith))

pub numbers-append : (base from : ℕ) (es fs : List Entry)
    → numbers_behind base from (es ++ fs) ≡ numbers_behind base from es ++ numbers_behind base (from + length es) fs
numbers-append base from [] fs = ap (λ (p : ℕ). numbers_behind base p fs) (omega arith)
numbers-append base from (e ∷ es) fs =
    ap (λ (l : List ℕ). own_number (base + (from + 1)) e ++ l) (numbers-append base (from + 1) es fs)
    ∙ (sym (append_assoc (own_number (base + (from + 1)) e) (numbers_behind base (from + 1) es) (numbers_behind base (from + 1 + length es) fs))
    ∙ ap (λ (p : ℕ). numbers_behind base from (e ∷ es) ++ numbers_behind base p fs) (omega arith))

pub entries-append : (Stands : Standing) (from : ℕ) (es fs : List Entry) → HasEntries Stands from es → HasEntries Stands (from + length es) fs → HasEntries Stands from (es ++ fs)
entries-append Stands from [] fs h k = subst (λ (p : ℕ). HasEntries Stands p fs) (omega arith) k
entries-append Stands from (e ∷ es) fs h k = (h.0, entries-append Stands (from + 1) es fs h.1 (subst (λ (p : ℕ). HasEntries Stands p fs) (omega arith) k))

-- what stands by one account stands by the other
pub entries_stand : (Stands Others : Standing) → ((place : ℕ) (words : List ℕ) → Stands place words → Others place words)
    → (from : ℕ) (es : List Entry) → HasEntries Stands from es → HasEntries Others from es
entries_stand Stands Others on from [] h = tt
entries_stand Stands Others on from (e ∷ es) h =
    (record { words = h.0.words; stand = on (from + 1) h.0.words h.0.stand; spell = h.0.spell }, entries_stand Stands Others on (from + 1) es h.1)

pub all_join : {A : Type 0} (P : A → Type 0) (xs ys : List A) → AllByRecursion P xs → AllByRecursion P ys → AllByRecursion P (xs ++ ys)
all_join P [] ys h k = k
all_join P (x ∷ xs) ys h k = (h.0, all_join P xs ys h.1 k)

pub own_within : (after upto n : ℕ) (entry : Entry) → after < n → n ≤ upto → AreWithin after upto (own_number n entry)
own_within after upto n e.Add low high = ((low, high), tt)
own_within after upto n (e.Update term) low high = ((low, high), tt)
own_within after upto n (e.DeleteTerm term) low high = ((low, high), tt)
own_within after upto n (e.DeleteQuery query) low high = ((low, high), tt)
own_within after upto n (e.SetNumber term num x) low high = ((low, high), tt)
own_within after upto n e.Commit low high = ((low, high), tt)
own_within after upto n e.Turn low high = tt

-- the numbers of entries are those of their places
pub numbers_within : (base from after upto : ℕ) (entries : List Entry) → after ≤ base + from → base + (from + length entries) ≤ upto
    → AreWithin after upto (numbers_behind base from entries)
numbers_within base from after upto [] low high = tt
numbers_within base from after upto (entry ∷ rest) low high =
    all_join (λ (n : ℕ). (after < n) × (n ≤ upto)) (own_number (base + (from + 1)) entry) (numbers_behind base (from + 1) rest)
    (own_within after upto (base + (from + 1)) entry (omega (arith, low)) (omega (arith, high)))
    (numbers_within base (from + 1) after upto rest (omega (arith, low)) (omega (arith, high)))
