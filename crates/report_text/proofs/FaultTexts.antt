-- Fault lines, piece by piece.
use Rattle.std.proofs.Common.{◌≡◌, ℕ, List, ◌++◌, codes, refl, ◌∙◌, append_assoc}
use Rattle.std.specs.Fmt.{decimal, digits}
use Rattle.serde_json.proofs.OnLiterals.{serde_json_on_literals}
use Rattle.ix_base.specs.FileNames.{name_text}
use Rattle.ix_base.specs.declared.damaged.Damaged.{Damaged}
use Rattle.ix_base.specs.declared.file_name.FileName.{FileName}
use Rattle.json.specs.Print.{escape}
use Rattle.report_text.proofs.Escapes.{name_plain}
use Rattle.op_script.specs.declared.script.Why.{Why}
use Rattle.op_script.specs.declared.script.Why.TheVariants as why
use Rattle.op_script.specs.declared.script.BadLine.{BadLine}
use Rattle.report_text.specs.Faults.{fault_text, why_text}
use Rattle.report_text.specs.declared.fault.Fault.TheVariants as fault

-- the digits of a number that is written out
two : decimal 2 ≡ codes "2"
unfolding digits
two = refl

three : decimal 3 ≡ codes "3"
unfolding digits
three = refl

five : decimal 5 ≡ codes "5"
unfolding digits
five = refl

seven : decimal 7 ≡ codes "7"
unfolding digits
seven = refl

eight : decimal 8 ≡ codes "8"
unfolding digits
eight = refl

nine : decimal 9 ≡ codes "9"
unfolding digits
nine = refl

ten : decimal 10 ≡ codes "10"
unfolding digits
ten = refl

eleven : decimal 11 ≡ codes "11"
unfolding digits
eleven = refl

pub words_text : codes "{\"status\":2,\"why\":\"words\"}\n" ≡ fault_text fault.Words
unfolding serde_json_on_literals
words_text = simp two

pub source_text : codes "{\"status\":5,\"why\":\"source\"}\n" ≡ fault_text fault.Source
unfolding serde_json_on_literals
source_text = simp five

pub store_text : codes "{\"status\":7,\"why\":\"store\"}\n" ≡ fault_text fault.Store
unfolding serde_json_on_literals
store_text = simp seven

bad_line_by : (line : ℕ) (why : Why) → codes "{\"line\":" ++ decimal line ++ codes ",\"status\":3,\"why\":\"" ++ why_text why ++ codes "\"}\n" ≡ fault_text (fault.BadLine (record { line = line; why = why }))
unfolding serde_json_on_literals
bad_line_by line why.Long = simp (append_assoc, three)
bad_line_by line why.Json = simp (append_assoc, three)
bad_line_by line why.Caller = simp (append_assoc, three)
bad_line_by line why.Op = simp (append_assoc, three)
bad_line_by line why.Members = simp (append_assoc, three)
bad_line_by line why.Name = simp (append_assoc, three)
bad_line_by line why.Text = simp (append_assoc, three)
bad_line_by line why.Number = simp (append_assoc, three)
bad_line_by line why.Query = simp (append_assoc, three)
bad_line_by line why.Doc = simp (append_assoc, three)
bad_line_by line why.Data = simp (append_assoc, three)

pub bad_line_text : (bad : BadLine) → codes "{\"line\":" ++ decimal bad.line ++ codes ",\"status\":3,\"why\":\"" ++ why_text bad.why ++ codes "\"}\n" ≡ fault_text (fault.BadLine bad)
bad_line_text bad = bad_line_by bad.line bad.why

pub base_text : (base : ℕ) → codes "{\"base\":" ++ decimal base ++ codes ",\"status\":10}\n" ≡ fault_text (fault.Base base)
unfolding serde_json_on_literals
base_text base = simp (append_assoc, ten)

pub missing_text : (number : ℕ) → codes "{\"commit\":" ++ decimal number ++ codes ",\"status\":9}\n" ≡ fault_text (fault.NoSuch number)
unfolding serde_json_on_literals
missing_text number = simp (append_assoc, nine)

-- around what stands for the file's name
damaged_by : (at : ℕ) (shown written : List ℕ) → written ≡ shown → codes "{\"at\":" ++ decimal at ++ codes ",\"file\":\"" ++ shown ++ codes "\",\"status\":8}\n"
    ≡ codes "{\"at\":" ++ (decimal at ++ (codes ",\"file\":\"" ++ (written ++ (codes "\",\"status\":" ++ (decimal 8 ++ codes "}\n")))))
damaged_by at shown written is = rw is (simp (append_assoc, eight))

damaged_value : (damaged : Damaged) → codes "{\"at\":" ++ (decimal damaged.at ++ (codes ",\"file\":\"" ++ (escape (name_text damaged.file) ++ (codes "\",\"status\":" ++ (decimal 8 ++ codes "}\n"))))) ≡ fault_text (fault.Damaged damaged)
unfolding serde_json_on_literals
damaged_value damaged = simp append_assoc

pub damaged_text : (damaged : Damaged) → codes "{\"at\":" ++ decimal damaged.at ++ codes ",\"file\":\"" ++ name_text damaged.file ++ codes "\",\"status\":8}\n" ≡ fault_text (fault.Damaged damaged)
damaged_text damaged = damaged_by damaged.at (name_text damaged.file) (escape (name_text damaged.file)) (name_plain damaged.file) ∙ damaged_value damaged

-- the same where two numbers follow
differing_by : (at found wanted : ℕ) (shown written : List ℕ) → written ≡ shown
    → codes "{\"at\":" ++ decimal at ++ codes ",\"file\":\"" ++ shown ++ codes "\",\"found\":" ++ decimal found ++ codes ",\"status\":11,\"wanted\":" ++ decimal wanted ++ codes "}\n"
    ≡ codes "{\"at\":" ++ (decimal at ++ (codes ",\"file\":\"" ++ (written ++ (codes "\",\"found\":" ++ (decimal found ++ (codes ",\"status\":" ++ (decimal 11 ++ (codes ",\"wanted\":" ++ (decimal wanted ++ codes "}\n")))))))))
differing_by at found wanted shown written is = rw is (simp (append_assoc, eleven))

differing_value : (file : FileName) (at found wanted : ℕ)
    → codes "{\"at\":" ++ (decimal at ++ (codes ",\"file\":\"" ++ (escape (name_text file) ++ (codes "\",\"found\":" ++ (decimal found ++ (codes ",\"status\":" ++ (decimal 11 ++ (codes ",\"wanted\":" ++ (decimal wanted ++ codes "}\n")))))))))
    ≡ fault_text (fault.Differs file at found wanted)
unfolding serde_json_on_literals
differing_value file at found wanted = simp append_assoc

pub differing_text : (file : FileName) (at found wanted : ℕ)
    → codes "{\"at\":" ++ decimal at ++ codes ",\"file\":\"" ++ name_text file ++ codes "\",\"found\":" ++ decimal found ++ codes ",\"status\":11,\"wanted\":" ++ decimal wanted ++ codes "}\n"
    ≡ fault_text (fault.Differs file at found wanted)
differing_text file at found wanted = differing_by at found wanted (name_text file) (escape (name_text file)) (name_plain file) ∙ differing_value file at found wanted
