-- The numbers of one row taken from the front of set numbers, row by row.
use Rattle.std.proofs.Common.{◌≡◌, ◌∙◌, ℕ, zero, suc, ◌+◌, ◌<◌, ◌≤◌, eqb, true, false, Bool, List, [], ◌∷◌, ◌++◌, length, map, take, drop, get_or, sym, ap, subst, append_assoc, arith}
use Rattle.std.proofs.Math.Seq.{drop-cons}
use Rattle.std.proofs.Math.ListN.{drop_of_length-le}
use Rattle.std.proofs.lemmas.List.{append-nil}
use Rattle.ix_base.specs.Limits.{names_rise}
use Rattle.ix_base.specs.Steps.{Named}
use Rattle.live_docs.specs.Marks.{RowsNamesRise}
use Rattle.live_docs.specs.declared.live_docs.Mark.{Mark}
use Rattle.live_files.specs.LiveFits.{ValuesFit}
use Rattle.live_files.proofs.LiveMarkLaws.{own_first, others_first, marks_rise}
use Rattle.live_files.specs.LiveMarks.{unrowed, own_values, other_values, marks_from, marks_of}
use Rattle.live_files.specs.LiveSpelling.{SetValue}

-- ---- the numbers of one row

-- So many numbers at the front are in the row.
pub record AreOwn (row count : ℕ) (values : List SetValue) : Type 0 where
  pub own : unrowed (take count values) ++ own_values row (drop count values) ≡ own_values row values
  pub others : other_values row (drop count values) ≡ other_values row values

unrow_next : (values : List SetValue) (i : ℕ) (x : SetValue) → i < length values → x ≡ get_or values i x → unrowed (take (suc i) values) ≡ unrowed (take i values) ++ (x.1, x.2) ∷ []
unrow_next [] i x lt at = absurd (omega (arith, lt))
unrow_next (v ∷ values) zero x lt at = ap (λ (y : SetValue). (y.1, y.2) ∷ []) (sym at)
unrow_next (v ∷ values) (suc i) x lt at = ap (λ (l : List Named). (v.1, v.2) ∷ l) (unrow_next values i x (omega (arith, lt)) at)

pub unrow_more : (values : List SetValue) (i : ℕ) (x : SetValue) → i < length values → x ≡ get_or values i x → unrowed (take (i + 1) values) ≡ unrowed (take i values) ++ (x.1, x.2) ∷ []
unrow_more values i x lt at = let next : i + 1 ≡ suc i = omega arith in ap (λ (k : ℕ). unrowed (take k values)) next ∙ unrow_next values i x lt at

split_at : (values : List SetValue) (i : ℕ) (x : SetValue) → i < length values → x ≡ get_or values i x → drop i values ≡ x ∷ drop (suc i) values
split_at values i x lt at = drop-cons values i x lt ∙ ap (λ (y : SetValue). y ∷ drop (suc i) values) (sym at)

pub own_more : (row : ℕ) (values : List SetValue) (i : ℕ) (x : SetValue) → i < length values → x ≡ get_or values i x → eqb x.0 row ≡ true → AreOwn row i values → AreOwn row (i + 1) values
own_more row values i x lt at here so_far =
    let next : suc i ≡ i + 1 = omega arith in
    let rest = drop (suc i) values in
    let front = unrowed (take i values) in
    let one = split_at values i x lt at in
    subst (λ (k : ℕ). AreOwn row k values) next (record {
      own = ap (λ (l : List Named). l ++ own_values row rest) (unrow_next values i x lt at)
          ∙ append_assoc front ((x.1, x.2) ∷ []) (own_values row rest)
          ∙ ap (λ (l : List Named). front ++ l) (sym (ap (own_values row) one ∙ own_first row x rest true here))
          ∙ so_far.own;
      others = sym (ap (other_values row) one ∙ others_first row x rest true here) ∙ so_far.others;
    })

-- What the numbers at the front are once there is no further one in the row.
pub record AreAllOwn (row count : ℕ) (values : List SetValue) : Type 0 where
  pub own : unrowed (take count values) ≡ own_values row values
  pub others : drop count values ≡ other_values row values

pub own_stops : (row : ℕ) (values : List SetValue) (i : ℕ) (x : SetValue) → i < length values → x ≡ get_or values i x → eqb x.0 row ≡ false → AreOwn row i values → AreAllOwn row i values
own_stops row values i x lt at not_here so_far =
    let rest = drop (suc i) values in
    let front = unrowed (take i values) in
    let one = split_at values i x lt at in
    record {
      own = sym (append-nil front) ∙ ap (λ (l : List Named). front ++ l) (sym (ap (own_values row) one ∙ own_first row x rest false not_here)) ∙ so_far.own;
      others = one ∙ sym (ap (other_values row) one ∙ others_first row x rest false not_here) ∙ so_far.others;
    }

pub own_ends : (row : ℕ) (values : List SetValue) (i n : ℕ) → length values ≤ i → i ≡ n → AreOwn row i values → AreAllOwn row n values
own_ends row values i n le same so_far =
    let front = unrowed (take i values) in
    let none = drop_of_length-le values le in
    subst (λ (k : ℕ). AreAllOwn row k values) same (record {
      own = sym (append-nil front) ∙ ap (λ (l : List Named). front ++ l) (sym (ap (own_values row) none)) ∙ so_far.own;
      others = none ∙ sym (ap (other_values row) none) ∙ so_far.others;
    })

-- ---- row by row

abbrev names : List Named → List (List ℕ)
names numbers = map (λ number. number.0) numbers

-- the marks made so far, and those of the rows that are left
abbrev pub made_and_left : List Mark → ℕ → List Bool → List SetValue → List Mark
made_and_left made row bits rest = made ++ marks_from row (drop row bits) rest

pub join_more : (bits : List Bool) (row : ℕ) (rest others : List SetValue) (made all : List Mark) (bit d : Bool) (numbers : List Named) → row < length bits → bit ≡ get_or bits row d
    → numbers ≡ own_values row rest → others ≡ other_values row rest → made_and_left made row bits rest ≡ all
    → made_and_left (made ++ record { live = bit; values = numbers } ∷ []) (row + 1) bits others ≡ all
join_more bits row rest others made all bit d numbers lt at own left so_far =
    let next : row + 1 ≡ suc row = omega arith in
    let one : drop row bits ≡ bit ∷ drop (suc row) bits = drop-cons bits row d lt ∙ ap (λ (b : Bool). b ∷ drop (suc row) bits) (sym at) in
    append_assoc made (record { live = bit; values = numbers } ∷ []) (marks_from (row + 1) (drop (row + 1) bits) others)
    ∙ ap (λ (k : ℕ). made ++ record { live = bit; values = numbers } ∷ marks_from (row + 1) (drop k bits) others) next
    ∙ ap (λ (ns : List Named). made ++ record { live = bit; values = ns } ∷ marks_from (row + 1) (drop (suc row) bits) others) own
    ∙ ap (λ (vs : List SetValue). made ++ record { live = bit; values = own_values row rest } ∷ marks_from (row + 1) (drop (suc row) bits) vs) left
    ∙ ap (λ (bs : List Bool). made ++ marks_from row bs rest) (sym one)
    ∙ so_far

pub join_ends : (bits : List Bool) (row : ℕ) (rest : List SetValue) (made all : List Mark) → length bits ≤ row → made_and_left made row bits rest ≡ all → made ≡ all
join_ends bits row rest made all le so_far =
    sym (append-nil made) ∙ ap (λ (bs : List Bool). made ++ marks_from row bs rest) (sym (drop_of_length-le bits le)) ∙ so_far

right_rises : (made left : List Mark) → RowsNamesRise (made ++ left) → RowsNamesRise left
right_rises [] left rise = rise
right_rises (m ∷ made) left rise = right_rises made left rise.1

pub own_rises : (bits : List Bool) (values : List SetValue) (row : ℕ) (rest : List SetValue) (made : List Mark) (own : List Named) → row < length bits → ValuesFit (length bits) values
    → made_and_left made row bits rest ≡ marks_of bits values → own ≡ own_values row rest → names_rise (names own) ≡ true
own_rises bits values row rest made own lt fit so_far is =
    let one = drop-cons bits row true lt in
    let all : RowsNamesRise (made ++ marks_from row (drop row bits) rest) = subst RowsNamesRise (sym so_far) (marks_rise bits values fit) in
    let left : RowsNamesRise (marks_from row (drop row bits) rest) = right_rises made (marks_from row (drop row bits) rest) all in
    let first = subst (λ (bs : List Bool). RowsNamesRise (marks_from row bs rest)) one left in
    subst (λ (ns : List Named). names_rise (names ns) ≡ true) (sym is) first.0
