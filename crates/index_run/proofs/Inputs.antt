-- The input that was read, and the one that is told.
use Rattle.std.proofs.Common.{◌≡◌, ◌⊎◌, ◌∙◌, inl, inr, ℕ, ◌+◌, ◌<◌, ◌≤◌, List, ◌++◌, length, take, Err}
use Rattle.std.proofs.Common.{Result, refl, sym, ap, append_assoc, append-nil, arith}
use Rattle.std.specs.Prelude.{Option, Some, None}
use Rattle.std.specs.Io.KnownBytes.{Consumes, IsAtEnd, Keeps}
use Rattle.std.proofs.lemmas.List.{length-append, length-take}
use Rattle.ix_outside.specs.Files.{Was}
use Rattle.op_script.specs.declared.script.BadLine.{BadLine}
use Rattle.index_run.specs.Causes.{TakesUpTo}

-- what is told to be bad is the input that was read, or one that is too long like it
pub bad_in : {T : Type 0} (script : List ℕ → Result (List T) BadLine) (most : ℕ) (long bad : BadLine)
    (old new : Option (List ℕ)) (read : List ℕ)
    → ((input : List ℕ) → most < length input → script input ≡ Err long) → Consumes old new read
    → (IsAtEnd new) ⊎ (most < length read) → script read ≡ Err bad
    → (bytes : List ℕ) × Was old bytes × (script bytes ≡ Err bad)
bad_in script most long bad None new read law took end is = (read, tt, is)
bad_in script most long bad (Some all) None read law took end is = absurd took
bad_in script most long bad (Some all) (Some rest) read law took (inl none) is =
    let same : all ≡ read = took ∙ ap (λ (r : List ℕ). read ++ r) none ∙ append-nil read in
    (all, refl, ap script same ∙ is)
bad_in script most long bad (Some all) (Some rest) read law took (inr over) is =
    let count : length all ≡ length read + length rest = ap length took ∙ length-append read rest in
    let why : long ≡ bad = (let one = law read over in let two = is in cc) in
    (all, refl, law all (omega (arith, over, count)) ∙ ap Err why)

-- nothing more is taken
pub takes_kept : (most : ℕ) (old mid new : Option (List ℕ)) (taken : List ℕ) → length taken ≤ most
    → Consumes old mid taken → Keeps mid new → TakesUpTo most old new
takes_kept most None mid new taken few took kept = record { taken = taken; few = few; prefix = tt }
takes_kept most (Some all) None new taken few took kept = absurd took
takes_kept most (Some all) (Some left) None taken few took kept = absurd kept
takes_kept most (Some all) (Some left) (Some rest) taken few took kept =
    record { taken = taken; few = few; prefix = took ∙ ap (λ (r : List ℕ). taken ++ r) (sym kept) }

-- some more is taken
pub consumes_more : (old mid new : Option (List ℕ)) (taken more : List ℕ) → Consumes old mid taken
    → Consumes mid new more → Consumes old new (taken ++ more)
consumes_more None mid new taken more took then = tt
consumes_more (Some all) None new taken more took then = absurd took
consumes_more (Some all) (Some left) None taken more took then = absurd then
consumes_more (Some all) (Some left) (Some rest) taken more took then =
    took ∙ ap (λ (r : List ℕ). taken ++ r) then ∙ sym (append_assoc taken more rest)

-- nothing is taken
pub consumes_none : (old mid new : Option (List ℕ)) (taken more : List ℕ) (n : ℕ) → n ≡ 0
    → Consumes old mid taken → Consumes mid new (take n more) → Consumes old new taken
consumes_none None mid new taken more n e took then = tt
consumes_none (Some all) None new taken more n e took then = absurd took
consumes_none (Some all) (Some left) None taken more n e took then = absurd then
consumes_none (Some all) (Some left) (Some rest) taken more n e took then =
    let none : left ≡ rest = then ∙ ap (λ (k : ℕ). take k more ++ rest) e in
    took ∙ ap (λ (r : List ℕ). taken ++ r) none

-- what one more read takes is within the limit
pub takes_more : (most n : ℕ) (old mid new : Option (List ℕ)) (taken more : List ℕ)
    → length taken + n ≤ most → Consumes old mid taken → Consumes mid new (take n more) → TakesUpTo most old new
takes_more most n old mid new taken more few took then = record {
  taken = taken ++ take n more;
  few = omega (arith, few, length-append taken (take n more), length-take n more);
  prefix = consumes_more old mid new taken (take n more) took then;
}
