-- Reading one value from the start of bytes, or from all of them.
use Rattle.std.specs.Prelude.{◌≡◌, ℕ, ℤ, ⊤, List, [], ◌∷◌, ◌++◌, Result, Ok, Err, FitsSigned}
use Rattle.std.specs.Int.{w64}
use Rattle.ix_base.specs.Entry.{Entry, kind_of, term_bytes, IsEntry, IsOwnTerm}
use Rattle.ix_base.specs.QueryBytes.{list_bytes, IsQueryList}
use Rattle.ix_base.specs.Spelling.{signed64, text_bytes, IsText, IsName}
use Rattle.ix_base.specs.Tree.{Trees}
use Rattle.ix_base.specs.declared.document.Term.{Term}
use Rattle.node_words.specs.declared.fault.ReadError.{ReadError}
use Rattle.node_words.specs.declared.fault.ReadError.TheVariants.{Memory, Foreign}
use Rattle.node_words.specs.declared.fault.WrongForm.{WrongForm}
use Rattle.node_words.specs.declared.parts.TextPair.{TextPair}
use Rattle.node_words.specs.declared.parts.RangeParts.{RangeParts}
use Rattle.node_words.specs.declared.parts.SetParts.{SetParts}

-- The value has a spelling, the bytes begin with it, and these bytes are left.
abbrev pub StandsAtStart : {V : Type 0} → (V → Type 0) → (V → List ℕ) → V → List ℕ → List ℕ → Type 0
StandsAtStart IsOne spelling v bytes rest = IsOne v × (bytes ≡ spelling v ++ rest)

-- the bytes begin with no spelling of a value
abbrev pub NoneAtStart : {V : Type 0} → (V → Type 0) → (V → List ℕ) → List ℕ → Type 0
NoneAtStart {V} IsOne spelling bytes = (v : V) (rest : List ℕ) → IsOne v → bytes ≡ spelling v ++ rest → ⊥

-- all of the bytes spell a value
abbrev pub IsSpelling : {V : Type 0} → (V → Type 0) → (V → List ℕ) → List ℕ → Type 0
IsSpelling {V} IsOne spelling bytes = (v : V) × IsOne v × (bytes ≡ spelling v)

-- all of the bytes spell no value
abbrev pub IsNoSpelling : {V : Type 0} → (V → Type 0) → (V → List ℕ) → List ℕ → Type 0
IsNoSpelling {V} IsOne spelling bytes = (v : V) → IsOne v → bytes ≡ spelling v → ⊥

-- ---- functions that take no memory: they fail only where there is no such value

-- what finding such a value returns, seen by view, with the bytes before and after
abbrev pub Finds : {X V : Type 0} → (X → V) → (V → Type 0) → (V → List ℕ) → List ℕ → List ℕ
    → Result X WrongForm → Type 0
Finds view IsOne spelling before after (Ok x) = StandsAtStart IsOne spelling (view x) before after
Finds view IsOne spelling before after (Err e) = NoneAtStart IsOne spelling before

-- what passing over such a value returns
abbrev pub Skips : {V : Type 0} → (V → Type 0) → (V → List ℕ) → List ℕ → List ℕ → Result ⊤ WrongForm → Type 0
Skips {V} IsOne spelling before after (Ok u) = (v : V) × StandsAtStart IsOne spelling v before after
Skips IsOne spelling before after (Err e) = NoneAtStart IsOne spelling before

-- what finding a value in all of the bytes returns
abbrev pub FindsAll : {X V : Type 0} → (X → V) → (V → Type 0) → (V → List ℕ) → List ℕ → Result X WrongForm → Type 0
FindsAll view IsOne spelling bytes (Ok x) = IsOne (view x) × (bytes ≡ spelling (view x))
FindsAll view IsOne spelling bytes (Err e) = IsNoSpelling IsOne spelling bytes

-- what testing whether all of the bytes spell a value returns
abbrev pub ChecksAll : {V : Type 0} → (V → Type 0) → (V → List ℕ) → List ℕ → Result ⊤ WrongForm → Type 0
ChecksAll IsOne spelling bytes (Ok u) = IsSpelling IsOne spelling bytes
ChecksAll IsOne spelling bytes (Err e) = IsNoSpelling IsOne spelling bytes

-- ---- functions that take memory

-- the bytes begin with no spelling of a value, unless memory ran out
abbrev pub FailsAtStart : {V : Type 0} → (V → Type 0) → (V → List ℕ) → List ℕ → ReadError → Type 0
FailsAtStart IsOne spelling bytes Memory = Unit {0}
FailsAtStart IsOne spelling bytes Foreign = NoneAtStart IsOne spelling bytes

-- what reading such a value returns, seen by view, with the bytes before and after
abbrev pub ReadsAtStart : {X V : Type 0} → (X → V) → (V → Type 0) → (V → List ℕ) → List ℕ → List ℕ
    → Result X ReadError → Type 0
ReadsAtStart view IsOne spelling before after (Ok x) = StandsAtStart IsOne spelling (view x) before after
ReadsAtStart view IsOne spelling before after (Err e) = FailsAtStart IsOne spelling before e

-- memory runs out only where all of the bytes spell a value
abbrev pub FailsAll : {V : Type 0} → (V → Type 0) → (V → List ℕ) → List ℕ → ReadError → Type 0
FailsAll IsOne spelling bytes Memory = IsSpelling IsOne spelling bytes
FailsAll IsOne spelling bytes Foreign = IsNoSpelling IsOne spelling bytes

-- what reading a value from all of the bytes returns, seen by view
abbrev pub ReadsAll : {X V : Type 0} → (X → V) → (V → Type 0) → (V → List ℕ) → List ℕ → Result X ReadError → Type 0
ReadsAll view IsOne spelling bytes (Ok x) = IsOne (view x) × (bytes ≡ spelling (view x))
ReadsAll view IsOne spelling bytes (Err e) = FailsAll IsOne spelling bytes e

-- ---- the parts of an entry's bytes

-- a byte as its own spelling
abbrev pub byte_alone : ℕ → List ℕ
byte_alone b = b ∷ []

-- a name and a text
abbrev pub Pair : Type 0
Pair = List ℕ × List ℕ

abbrev pub IsPair : Pair → Type 0
IsPair pair = IsName pair.0 × IsText pair.1

abbrev pub pair_bytes : Pair → List ℕ
pair_bytes pair = text_bytes pair.0 ++ text_bytes pair.1

abbrev pub pair_in : TextPair → Pair
pair_in found = (found.name.now, found.text.now)

abbrev pub term_in : TextPair → Term
term_in found = record { field = found.name.now; bytes = found.text.now }

-- a name and the two bounds of a range
abbrev pub Range : Type 0
Range = List ℕ × (ℤ × ℤ)

abbrev pub IsRange : Range → Type 0
IsRange r = IsName r.0 × (FitsSigned w64 r.1.0 × FitsSigned w64 r.1.1)

abbrev pub range_bytes : Range → List ℕ
range_bytes r = text_bytes r.0 ++ (signed64 r.1.0 ++ signed64 r.1.1)

abbrev pub range_in : RangeParts → Range
range_in found = (found.name.now, (found.low, found.high))

-- the fields of an entry that sets a number
abbrev pub Setting : Type 0
Setting = Term × (List ℕ × ℤ)

abbrev pub IsSetting : Setting → Type 0
IsSetting s = IsOwnTerm s.0 × (IsName s.1.0 × FitsSigned w64 s.1.1)

abbrev pub setting_bytes : Setting → List ℕ
setting_bytes s = term_bytes s.0 ++ (text_bytes s.1.0 ++ signed64 s.1.1)

abbrev pub setting_in : SetParts → Setting
setting_in found = (term_in found.term, (found.num.now, found.value))

-- the three lists of a bool query
abbrev pub ThreeLists : Type 0
ThreeLists = Trees × (Trees × Trees)

abbrev pub AreLists : ThreeLists → Type 0
AreLists lists = IsQueryList lists.0 × (IsQueryList lists.1.0 × IsQueryList lists.1.1)

abbrev pub lists_bytes : ThreeLists → List ℕ
lists_bytes lists = list_bytes lists.0 ++ (list_bytes lists.1.0 ++ list_bytes lists.1.1)

-- an entry of this kind
abbrev pub IsOfKind : ℕ → Entry → Type 0
IsOfKind kind e = IsEntry e × (kind_of e ≡ kind)
