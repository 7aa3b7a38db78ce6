-- The names of a directory's entries.
use Rattle.std.specs.Prelude.{◌≡◌, ◌≢◌, ◌⊎◌, ℕ, List, [], ◌∷◌, ◌++◌}
use Rattle.ix_base.specs.FileNames.{IsFileName, name_text}
use Rattle.ix_base.specs.declared.file_name.FileName.{FileName}

-- no name of the grammar has this text
abbrev pub IsForeign : List ℕ → Type 0
IsForeign text = (name : FileName) → IsFileName name → name_text name ≢ text

-- The entry of a foreign text is passed over, and the name with any other text is put at the end.
abbrev pub Takes : List ℕ → List FileName → List FileName → Type 0
Takes text old new =
    (IsForeign text × (new ≡ old))
    ⊎ ((name : FileName) × IsFileName name × (name_text name ≡ text) × (new ≡ old ++ name ∷ []))
